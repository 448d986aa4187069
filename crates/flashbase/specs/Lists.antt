-- Words on lists that the definitions of the format share.
use Rattle.std.specs.Prelude.{ℕ, zero, suc, ◌≤◌, nat_lt, if◌then◌else◌, List, [], ◌∷◌, ◌++◌, map, Option, Some, None, Contains, option_map, filter_map, fold, max}
use Rattle.std.specs.declared.cmp.Ordering.{Ordering}
use Rattle.std.specs.FinMap.{FinMap, from_entries}

-- the numbers below n, in order
abbrev pub below : ℕ → List ℕ
below zero = []
below (suc n) = below n ++ n ∷ []

-- the n values that a function gives, the first at 0
abbrev pub each_below : {X : Type 0} → ℕ → (ℕ → X) → List X
each_below n f = map f (below n)

-- the one of two that is higher, and the first where they are as high
abbrev pub higher_of : {X : Type 0} → (X → ℕ) → X → Option X → X
higher_of version x None = x
higher_of version x (Some y) = if nat_lt (version x) (version y) then y else x

-- the one of highest version, and of several the first
abbrev pub newest : {X : Type 0} → (X → ℕ) → List X → Option X
newest version [] = None
newest version (x ∷ xs) = Some (higher_of version x (newest version xs))

-- what `newest` finds is in the list, and none in it is higher
abbrev pub IsNewest : {X : Type 0} → (X → ℕ) → List X → X → Type 0
IsNewest {X} version xs x = Contains xs x × ((y : X) → Contains xs y → version y ≤ version x)

-- a key with what a function gives there, where it gives something
abbrev pub entry_at : {K X : Type 0} → (K → Option X) → K → Option (K × X)
entry_at f k = option_map (λ x. (k, x)) (f k)

-- the map that has at each of these keys what a function gives there
abbrev pub tabled : {K X : Type 0} (R : K → K → Ordering) → List K → (K → Option X) → FinMap R X
tabled R keys f = from_entries {R = R} (filter_map (entry_at f) keys)

-- the greatest of some numbers, and 0 of none
abbrev pub greatest : List ℕ → ℕ
greatest ns = fold max 0 ns
