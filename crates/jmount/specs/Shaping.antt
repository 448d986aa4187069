-- How the shape is found: directories are taken out that lie below one that nothing holds.
use Rattle.std.specs.Prelude.{◌≡◌, ◌≢◌, ◌⊎◌, ℕ, ◌==◌, ◌&&◌, ◌||◌, not, Bool, true, false, List, map, filter, Contains, Some}
use Rattle.std.specs.List.{list_any}
use Rattle.std.specs.Ordering.{nat_cmp}
use Rattle.std.specs.BTreeSet.{BTreeSet, contains}
use Rattle.jmount.specs.Tree.{State, named, is_directory, all_entries}
use Rattle.jmount.specs.Shown.{objects_in}
use Rattle.jmount.specs.Shape.{IsSingle}
use Rattle.jmount.specs.ShapeForm.{IsOnLoop, Holds}

-- a directory other than the root
abbrev pub IsBelow : State → ℕ → Type 0
IsBelow s i = (i ≢ 1) × (is_directory s i ≡ true)

-- one that has a name in a directory
abbrev pub IsHeld : State → ℕ → Type 0
IsHeld s i = IsBelow s i × ((dir : ℕ) × Holds s dir i)

-- those that are not among some, in order
abbrev pub others : State → BTreeSet ℕ → List ℕ
others s held = filter (λ i. not (i == 1) && is_directory s i && not (contains nat_cmp held i))
    (map (λ e. e.0) (objects_in s))

-- the root has a name in itself or in one of some directories
abbrev pub is_root_held : State → BTreeSet ℕ → Bool
is_root_held s left = list_any (λ e. (e.2 == 1) && is_directory s e.0
    && ((e.0 == 1) || contains nat_cmp left e.0)) (all_entries s)

-- what holds a directory: one that is kept apart or left, or one whose names are still to come
abbrev pub HeldBy : State → (ℕ → Bool) → BTreeSet ℕ → (ℕ → List ℕ → Type 0) → ℕ → Type 0
HeldBy s apart left to_come i =
    (dir : ℕ) × (name : List ℕ) × (is_directory s dir ≡ true) × (named s dir name ≡ Some i)
    × ((apart dir ≡ true) ⊎ (contains nat_cmp left dir ≡ true) ⊎ to_come dir name)

-- All that is on loops is left, or is kept apart. Each that is left is held by one that is left,
-- kept apart, or still to come.
pub record IsPeeled (s : State) (apart : ℕ → Bool) (to_come : ℕ → List ℕ → Type 0)
    (left : BTreeSet ℕ) : Type 0 where
  pub single : IsSingle s
  pub loops : (i : ℕ) → IsOnLoop s i → (apart i ≡ true) ⊎ (contains nat_cmp left i ≡ true)
  pub below : (i : ℕ) → contains nat_cmp left i ≡ true → IsBelow s i × (apart i ≡ false)
  pub held : (i : ℕ) → contains nat_cmp left i ≡ true → HeldBy s apart left to_come i

-- some directories whose names are still to come are neither left nor kept apart
abbrev pub AreGone : (ℕ → Bool) → BTreeSet ℕ → List ℕ → Type 0
AreGone apart left above =
    (i : ℕ) → Contains above i → (apart i ≡ false) × (contains nat_cmp left i ≡ false)

abbrev pub NamesOf : List ℕ → ℕ → List ℕ → Type 0
NamesOf above dir name = Contains above dir

-- between two directories
abbrev pub IsPeeledUpTo : State → (ℕ → Bool) → List ℕ → BTreeSet ℕ → Type 0
IsPeeledUpTo s apart above left = IsPeeled s apart (NamesOf above) left × AreGone apart left above
