-- The names of a directory as they are at hand: the next, and what is left.
use Rattle.std.specs.Prelude.{ℕ, List, [], ◌∷◌, filter, Option, Some, None}
use Rattle.std.specs.Borrow.{Bor}
use Rattle.jmount.specs.Tree.{State, is_there}

abbrev pub names_behind : State → Option (List (List ℕ × ℕ)) → List (List ℕ × ℕ)
names_behind s None = []
names_behind s (Some names) = filter (λ e. is_there s e.1) names

abbrev pub names_ahead : State → Option (Bor (List ℕ) × ℕ) → Option (List (List ℕ × ℕ))
    → List (List ℕ × ℕ)
names_ahead s None left = []
names_ahead s (Some next) left = (next.0.now, next.1) ∷ names_behind s left
