-- Words that are read, and words that are compared.
use Rattle.std.proofs.Common.{◌≡◌, ℕ, Bool, true, false, List, [], ◌∷◌, ◌++◌, ap, sym, refl, Option, None, Some, option_map}
use Rattle.std.specs.Str.{bytes_eq}
use Rattle.std.proofs.lemmas.List.{append_cancel_right}
use Rattle.std.proofs.lemmas.Slice.Eq.{bytes_eq-Decides}

pub onto_nothing : (o : Option (List ℕ)) → option_map (λ (more : List ℕ). [] ++ more) o ≡ o
onto_nothing None = refl
onto_nothing (Some bytes) = refl

-- two tests that pass together
same_test : (a b : Bool) → (a ≡ true → b ≡ true) → (b ≡ true → a ≡ true) → a ≡ b
same_test true true to from = refl
same_test true false to from = sym (to refl)
same_test false true to from = from refl
same_test false false to from = refl

pub same_between : (middle name : List ℕ) → bytes_eq (40 ∷ (middle ++ 41 ∷ [])) (40 ∷ (name ++ 41 ∷ [])) ≡ bytes_eq middle name
same_between middle name =
    same_test _ _
    (λ whole. (bytes_eq-Decides middle name).1 (append_cancel_right middle name (41 ∷ []) (let e = (bytes_eq-Decides (40 ∷ (middle ++ 41 ∷ [])) (40 ∷ (name ++ 41 ∷ []))).0 whole in cc)))
    (λ part. (bytes_eq-Decides (40 ∷ (middle ++ 41 ∷ [])) (40 ∷ (name ++ 41 ∷ []))).1 (ap (λ (l : List ℕ). 40 ∷ (l ++ 41 ∷ [])) ((bytes_eq-Decides middle name).0 part)))
