-- What is between slashes.
use Rattle.std.proofs.Common.{◌≡◌, ℕ, ◌+◌, ◌<◌, List, [], ◌∷◌, cond, length, get_or, drop, Result, Ok, Err, refl, ap, sym, ◌∙◌}
use Rattle.std.proofs.lemmas.List.{at_drop_more}
use Rattle.std.specs.Prelude.{◌==◌}
use Rattle.std.specs.List.{slice_split, onto_first}
use Rattle.jmount.specs.Tree.{Tree}
use Rattle.jmount.specs.Find.{to_first, parts, walk, step}
use Rattle.jmount.specs.declared.fault.FindFault.{FindFault}

onto_first-is : (b : ℕ) (ps : List (List ℕ)) → onto_first b ps ≡ to_first b ps
onto_first-is b [] = refl
onto_first-is b (part ∷ ps) = refl

pub split-is : (bytes : List ℕ) → slice_split (λ b. b == 47) bytes ≡ parts bytes
split-is [] = refl
split-is (b ∷ bytes) =
    ap (λ ps. cond (b == 47) ([] ∷ ps) (onto_first b ps)) (split-is bytes)
    ∙ ap (λ ps. cond (b == 47) ([] ∷ parts bytes) ps) (onto_first-is b (parts bytes))

-- ---- the walk

pub walk-stops : {B : Type 0} (t : Tree B) (names : List (List ℕ)) (fault : FindFault) → walk t names (Err fault) ≡ Err fault
walk-stops t [] fault = refl
walk-stops t (name ∷ names) fault = refl

-- one name further
pub walk-turn : {B : Type 0} (t : Tree B) (names : List (List ℕ)) (n here : ℕ) (name : List ℕ) (r : Result ℕ FindFault) → n < length names → name ≡ get_or names n name → r ≡ step t here name
    → walk t (drop n names) (Ok here) ≡ walk t (drop (n + 1) names) r
walk-turn t names n here name r within is steps =
    at_drop_more (λ ns. walk t ns (Ok here)) names n name within
    ∙ ap (λ x. walk t (drop (n + 1) names) (step t here x)) (sym is)
    ∙ ap (λ x. walk t (drop (n + 1) names) x) (sym steps)
