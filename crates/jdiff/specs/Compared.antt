-- Pairs of objects whose bytes were compared.
use Rattle.std.specs.Prelude.{◌≡◌, ℕ, IsTrue, Option, Some, None, ⊤}
use Rattle.std.specs.BTreeMap.{BTreeMap, get}
use Rattle.std.specs.Ordering.{nat_cmp, ordering_then}
use Rattle.std.specs.declared.cmp.Ordering.{Ordering}
use Rattle.jmount.specs.Tree.{State}
use Rattle.jmount.specs.Shown.{readable}
use Rattle.jdiff.specs.Changes.{first_difference, is_same_object}
use Rattle.jdiff.specs.declared.found.Found.{Found}
use Rattle.jdiff.specs.declared.comparing.Comparing.{Comparing}

-- the numbers of an object of each tree
abbrev pub ObjectPair : Type 0
ObjectPair = ℕ × ℕ

abbrev pub numbers_cmp : ObjectPair → ObjectPair → Ordering
numbers_cmp a b = ordering_then (nat_cmp a.0 b.0) (nat_cmp a.1 b.1)

-- what is remembered of a pair is where its bytes differ
abbrev pub AreCompared : State → State → BTreeMap ObjectPair (Option ℕ) → Type 0
AreCompared s t compared = (i j : ℕ) (place : Option ℕ)
    → get numbers_cmp compared (i, j) ≡ Some place
    → place ≡ first_difference (readable s i) (readable t j)

-- where the bytes of two objects differ that are the same otherwise
abbrev pub IsPlaceOf : Comparing → State → State → Found → Found → Option ℕ → Type 0
IsPlaceOf how s t x y place = IsTrue (is_same_object how.times x.object y.object)
    → place ≡ first_difference (readable s x.ino) (readable t y.ino)

-- the same of what is found at a path, where both trees have an object there
abbrev pub IsPlaceHere : Comparing → State → State → Option Found → Option Found → Option ℕ → Type 0
IsPlaceHere how s t (Some x) (Some y) place = IsPlaceOf how s t x y place
IsPlaceHere how s t _ _ place = ⊤
