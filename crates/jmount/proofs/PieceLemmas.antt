-- Bytes that are read and go out piece by piece, up to a fault.
use Rattle.std.proofs.Common.{◌≡◌, ℕ, ◌+◌, ◌-◌, min, arith, List, ◌++◌, length, sym, ap, ◌∙◌, subst, take, drop, Option}
use Rattle.std.proofs.lemmas.List.{take-append-drop}
use Rattle.std.proofs.Math.Seq.{take-add, take-append_seam}
use Rattle.std.proofs.lemmas.Grind.{common_steps}
use Rattle.std.specs.Io.KnownBytes.{Appends}
use Rattle.std.proofs.KnownBytes.{Appends-trans}
use Rattle.flashbase.specs.Device.{PutsPart}
use Rattle.flashbase.proofs.DeviceLemmas.{part_before, part_behind}

pub bytes_put : (xs : List ℕ) (i n : ℕ) (a b c : Option (List ℕ)) → Appends a b (take i xs) → Appends b c (take n (drop i xs)) → Appends a c (take (i + n) xs)
bytes_put xs i n a b c put next = subst (Appends a c) (sym (take-add i n xs)) (Appends-trans a b c _ _ put next)

pub part_put : (xs : List ℕ) (i n : ℕ) (a b c : Option (List ℕ)) → Appends a b (take i xs) → PutsPart b c (take n (drop i xs)) → PutsPart a c xs
part_put xs i n a b c put part =
    subst (PutsPart a c) (ap (λ (l : List ℕ). l ++ drop (i + n) xs) (sym (take-add i n xs)) ∙ take-append-drop (i + n) xs)
    (part_before a c (take i xs ++ take n (drop i xs)) (drop (i + n) xs) (part_behind a b c (take i xs) (take n (drop i xs)) put part))

-- what a piece holds after a reading of n bytes from a place on
pub piece_read : (bytes old new : List ℕ) (i n room : ℕ) → n ≡ min room (length bytes - i) → new ≡ take n (drop i bytes) ++ drop n old
    → take n new ≡ take n (drop i bytes)
piece_read bytes old new i n room count is =
    let all : length (take n (drop i bytes)) ≡ n = grind (arith, common_steps) in
    ap (take n) is ∙ ap (λ (k : ℕ). take k (take n (drop i bytes) ++ drop n old)) (sym all) ∙ take-append_seam (take n (drop i bytes)) (drop n old)
