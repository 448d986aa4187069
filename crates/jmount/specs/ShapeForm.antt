-- The shape in forms that are computed and decided.
use Rattle.std.specs.Prelude.{◌≡◌, ℕ, zero, suc, ◌==◌, ◌&&◌, ◌||◌, not, Bool, true, List, ◌∷◌, length, filter, Contains, Some, Ok}
use Rattle.std.specs.List.{list_any, list_all}
use Rattle.std.specs.Ordering.{eq_by_cmp}
use Rattle.std.specs.FinMap.{keys, entries}
use Rattle.jname.specs.Live.{Key, key_cmp}
use Rattle.jmount.specs.Tree.{Tree, Outline, named, is_directory}
use Rattle.jmount.specs.Find.{walk}

-- ---- loops

-- a walk of some names comes back
abbrev pub IsOnLoop : {B : Type 0} → Tree B → ℕ → Type 0
IsOnLoop t i = (name : List ℕ) × (names : List (List ℕ)) × (walk t (name ∷ names) (Ok i) ≡ Ok i)

-- a directory has a name for a number
abbrev pub Holds : {B : Type 0} → Tree B → ℕ → ℕ → Type 0
Holds t dir i = (name : List ℕ) × (is_directory t dir ≡ true) × (named t dir name ≡ Some i)

abbrev pub HasNoLoop : {B : Type 0} → Tree B → Type 0
HasNoLoop t = (i : ℕ) → IsOnLoop t i → ⊥

-- each of some numbers is held by one of them
abbrev pub HeldByEachOther : {B : Type 0} → Tree B → List ℕ → Type 0
HeldByEachOther t xs = (i : ℕ) → Contains xs i → (dir : ℕ) × Contains xs dir × Holds t dir i

-- ---- the same as a function

-- two entries do not give one directory two names
abbrev pub is_no_second : Outline → Key × ℕ → Key × ℕ → Bool
is_no_second t e f =
    not (e.1 == f.1) || ((e.1 == 1) || (not (is_directory t e.1) || eq_by_cmp key_cmp e.0 f.0))

abbrev pub is_single : Outline → Bool
is_single t = list_all (λ e. list_all (is_no_second t e) (entries t.names)) (entries t.names)

-- one of some directories has a name for a number
abbrev pub is_held : Outline → List ℕ → ℕ → Bool
is_held t dirs i = list_any (λ e. (e.1 == i) && list_any (λ d. d == e.0.0) dirs) (entries t.names)

-- what is left of some after so many rounds, each of which takes away what none of them has a name
-- for
abbrev pub left_after : Outline → ℕ → List ℕ → List ℕ
left_after t zero dirs = dirs
left_after t (suc n) dirs = left_after t n (filter (is_held t dirs) dirs)

abbrev pub directories : Outline → List ℕ
directories t = filter (is_directory t) (keys t.objects)

-- no directory but the root has two names, and as many rounds as there are directories leave none
abbrev pub shape_of : Outline → Bool
shape_of t = is_single t && (length (left_after t (length (directories t)) (directories t)) == 0)
