-- The objects that no names lead to, while they are looked for.
use Rattle.std.specs.Prelude.{◌≡◌, ℕ, true, false, List, Contains, Some}
use Rattle.std.specs.BTreeSet.{BTreeSet, contains}
use Rattle.std.specs.Ordering.{nat_cmp}
use Rattle.jmount.specs.Tree.{State, is_directory, is_there, named}
use Rattle.jcompact.specs.Matters.{NamesLeadTo}

-- Some objects are unmet, the root not among them. Names lead to each of the others; and each name
-- of a directory among these that stands for an unmet one is still to come.
pub record HasUnmet (s : State) (to_come : ℕ → List ℕ → Type 0) (unmet : BTreeSet ℕ) : Type 0 where
  pub there : (i : ℕ) → contains nat_cmp unmet i ≡ true → is_there s i ≡ true
  pub root : contains nat_cmp unmet 1 ≡ false
  pub met : (i : ℕ) → is_there s i ≡ true → contains nat_cmp unmet i ≡ false → NamesLeadTo s i
  pub closed : (dir i : ℕ) (name : List ℕ) → is_directory s dir ≡ true
      → contains nat_cmp unmet dir ≡ false → named s dir name ≡ Some i
      → contains nat_cmp unmet i ≡ true → to_come dir name

-- an object that was met
abbrev pub WasMet : State → BTreeSet ℕ → ℕ → Type 0
WasMet s unmet i = (contains nat_cmp unmet i ≡ false) × NamesLeadTo s i

-- the names of these objects, which were met, are still to come
abbrev pub IsMetUpTo : State → List ℕ → BTreeSet ℕ → Type 0
IsMetUpTo s above unmet = HasUnmet s (λ dir name. Contains above dir) unmet
    × ((i : ℕ) → Contains above i → WasMet s unmet i)
