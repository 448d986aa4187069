-- Paths, from their names.
use Rattle.std.proofs.Common.{◌≡◌, ℕ, ◌≤◌, ◌-◌, Bool, true, false, nat_lt, min, take, drop, take_all, Ok, Err, if◌then◌else◌, Result, List, ◌∷◌, ◌++◌, length, arith, map, Bor, refl, sym, ap, ◌∙◌}
use Rattle.std.specs.List.{flat_map}
use Rattle.std.proofs.lemmas.List.Folds.{flat_map-map}
use Rattle.std.specs.List.{list_all}
use Rattle.std.specs.Prelude.{IsUtf8}
use Rattle.std.specs.Str.{is_utf8}
use Rattle.std.proofs.lemmas.Bool.Decides.{nat_tests}
use Rattle.std.proofs.lemmas.Str.{is_utf8-from_IsUtf8, IsUtf8-from_is_utf8}
use Rattle.jmount.specs.Find.{is_name}
use Rattle.jmount.proofs.PieceLemmas.{piece_read}
use Rattle.jextract.specs.Paths.{greatest_path, host_path, relative_path, text_if}
use Rattle.jextract.specs.declared.reason.Reason.{Reason}
use Rattle.jextract.specs.declared.reason.Reason.TheVariants as reason

pub text_of_names : (first : Bor (List ℕ)) (rest : List (Bor (List ℕ)))
    → first.now ++ flat_map (λ name. 47 ∷ name.now) rest ≡ relative_path (map (λ name. name.now) (first ∷ rest))
text_of_names first rest = ap (λ l. first.now ++ l) (sym (flat_map-map (λ n. 47 ∷ n) (λ (n : Bor (List ℕ)). n.now) rest))

-- the text of names that are, where it is short
short_path : (path : List (List ℕ)) (text : List ℕ) → list_all is_name path ≡ true → text ≡ relative_path path → length text ≤ 4095
    → host_path path ≡ (if is_utf8 text then Ok text else Err reason.NoText)
unfolding host_path
short_path path text names is short =
    let long : nat_lt greatest_path (length text) ≡ false = grind (arith, nat_tests) in
    ap (λ (b : Bool). if b then text_if (relative_path path) else Err reason.BadName) names
    ∙ ap text_if (sym is)
    ∙ ap (λ (b : Bool). if b then Err reason.LongPath else if is_utf8 text then Ok text else Err reason.NoText) long

pub path_is_text : (path : List (List ℕ)) (text : List ℕ) → list_all is_name path ≡ true → text ≡ relative_path path → length text ≤ 4095 → IsUtf8 text → host_path path ≡ Ok text
path_is_text path text names is short utf8 =
    short_path path text names is short
    ∙ ap (λ (b : Bool). let r : Result (List ℕ) Reason = if b then Ok text else Err reason.NoText in r) (is_utf8-from_IsUtf8 text utf8)

pub path_is_no_text : (path : List (List ℕ)) (text : List ℕ) → list_all is_name path ≡ true → text ≡ relative_path path → length text ≤ 4095 → (IsUtf8 text → ⊥) → host_path path ≡ Err reason.NoText
path_is_no_text path text names is short other = by (is_utf8 text) refl
  where
    by : (b : Bool) → is_utf8 text ≡ b → host_path path ≡ Err reason.NoText
    by true e = absurd (other (IsUtf8-from_is_utf8 text e))
    by false e =
        short_path path text names is short ∙ ap (λ (b : Bool). let r : Result (List ℕ) Reason = if b then Ok text else Err reason.NoText in r) e

-- a target, as it was read
pub target_read : (target old new : List ℕ) (n : ℕ) → n ≡ min 4095 (length target - 0) → new ≡ take n (drop 0 target) ++ drop n old → length target ≤ 4095
    → take n new ≡ target
target_read target old new n count is short = piece_read target old new 0 n 4095 count is ∙ take_all n target (omega (arith, count))
