-- What is remembered of pairs whose bytes were compared.
use Rattle.std.proofs.Common.{◌≡◌, ℕ, Bool, true, false, refl, sym, ap, ◌∙◌, subst, Option, Some}
use Rattle.std.specs.BTreeMap.{BTreeMap, Updates, get}
use Rattle.std.specs.Cmp.{Equal-is}
use Rattle.std.specs.Ordering.{is_eq, nat_cmp}
use Rattle.std.proofs.lemmas.Map.Lookups.{exact_pairs, exact_unsigned}
use Rattle.std.proofs.lemmas.Option.{same_Some}
use Rattle.jmount.specs.Tree.{State}
use Rattle.jmount.specs.Shown.{readable}
use Rattle.jdiff.specs.Changes.{first_difference}
use Rattle.jdiff.specs.Compared.{AreCompared, ObjectPair, numbers_cmp}

-- one pair more
pub compared_more : (s t : State) (old new : BTreeMap ObjectPair (Option ℕ)) (i j : ℕ) (place : Option ℕ) → AreCompared s t old → place ≡ first_difference (readable s i) (readable t j)
    → Updates numbers_cmp old new (i, j) (Some place) → AreCompared s t new
compared_more s t old new i j place known is updates k l other there = by (is_eq (numbers_cmp (i, j) (k, l))) refl
  where
    by : (b : Bool) → is_eq (numbers_cmp (i, j) (k, l)) ≡ b → other ≡ first_difference (readable s k) (readable t l)
    by true same =
        let one : (i, j) ≡ (k, l) = exact_pairs nat_cmp nat_cmp exact_unsigned exact_unsigned (i, j) (k, l) ((Equal-is (numbers_cmp (i, j) (k, l))).0 same) in
        let at : get numbers_cmp new (k, l) ≡ Some place = subst (λ (pair : ObjectPair). get numbers_cmp new pair ≡ Some place) one updates.1 in
        same_Some other place (sym there ∙ at) ∙ is ∙ ap (λ (pair : ObjectPair). first_difference (readable s pair.0) (readable t pair.1)) one
    by false apart = known k l other (sym (updates.2 (k, l) apart) ∙ there)
