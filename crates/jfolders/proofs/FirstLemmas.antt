-- The first bytes of a source.
use Rattle.std.proofs.Common.{◌≡◌, ℕ, ◌≤◌, ◌+◌, ◌-◌, ◌++◌, List, [], Option, Some, None, refl, sym, ap, ◌∙◌, zero, suc, length, take, arith}
use Rattle.std.specs.Prelude.{option_map}
use Rattle.std.specs.Io.KnownBytes.{Consumes, IsAtEnd}
use Rattle.std.proofs.lemmas.List.{take-append-le, length-take}
use Rattle.std.proofs.Math.Seq.{take-append-add}

-- what is read of them is read of the source
pub first_consumed : (left n : ℕ) (old new : Option (List ℕ)) (read behind : List ℕ) → n ≤ left → n ≤ length read → Consumes old new (take n read)
    → Consumes (option_map (take left) old) (option_map (take (left - n)) new) (take n (read ++ behind))
first_consumed left n None new read behind fits is consumed = tt
first_consumed left n (Some xs) None read behind fits is consumed = absurd consumed
first_consumed left n (Some xs) (Some ys) read behind fits is consumed =
    let long : length (take n read) ≡ n = rw (length-take n read) (omega arith) in
    let all : left ≡ length (take n read) + (left - n) = omega arith in
    ap (take left) consumed ∙ ap (λ (k : ℕ). take k (take n read ++ ys)) all ∙ take-append-add (take n read) ys (left - n)
    ∙ ap (λ (front : List ℕ). front ++ take (left - n) ys) (sym (take-append-le n read behind is))

-- and they end where it does
take_none : (left : ℕ) → take {A = ℕ} left [] ≡ []
take_none zero = refl
take_none (suc k) = refl

pub first_ended : (left : ℕ) (rest : Option (List ℕ)) → IsAtEnd rest → IsAtEnd (option_map (take left) rest)
first_ended left None ended = tt
first_ended left (Some xs) ended = ap (take left) ended ∙ take_none left
