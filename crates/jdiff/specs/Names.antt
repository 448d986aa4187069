-- The names of a directory of each tree, side by side.
use Rattle.std.specs.Prelude.{ℕ, List, [], ◌∷◌, map, filter, Option, Some, None}
use Rattle.std.specs.Ordering.{nat_cmp}
use Rattle.std.specs.declared.cmp.Ordering.TheVariants.{Less, Equal, Greater}
use Rattle.std.specs.Cmp.Lexicographic.{slice_cmp}
use Rattle.jmount.specs.Tree.{State, is_there, entries_in}

-- the names of a directory that lead to objects
abbrev pub names_there : State → Option ℕ → List (List ℕ × ℕ)
names_there s None = []
names_there s (Some i) = filter (λ e. is_there s e.1) (entries_in s i)

-- a name, and what it stands for in each
abbrev pub SharedName : Type 0
SharedName = List ℕ × Option ℕ × Option ℕ

abbrev pub join_first : List ℕ
    × ℕ → (List (List ℕ × ℕ) → List SharedName) → List (List ℕ × ℕ) → List SharedName
join_first x rest [] = (x.0, Some x.1, None) ∷ rest []
join_first x rest (y ∷ ys) = elim (slice_cmp nat_cmp x.0 y.0) [
  | Less ↦ (x.0, Some x.1, None) ∷ rest (y ∷ ys)
  | Equal ↦ (x.0, Some x.1, Some y.1) ∷ rest ys
  | Greater ↦ (y.0, None, Some y.1) ∷ join_first x rest ys
]

-- both in byte order, a name of both once
abbrev pub joined : List (List ℕ × ℕ) → List (List ℕ × ℕ) → List SharedName
joined [] ys = map (λ y. (y.0, None, Some y.1)) ys
joined (x ∷ xs) ys = join_first x (joined xs) ys
