-- The paths that lead to a number.
use Rattle.std.specs.Prelude.{◌≡◌, ℕ, ◌&&◌, ◌||◌, Bool, is_some, true, zero, suc, ◌+◌, ◌^◌, ◌==◌, min, Vec, List, [], ◌∷◌, ◌++◌, length, map, filter, filter_map, Option, Some, None, option_and_then, option_map, if◌then◌else◌}
use Rattle.std.specs.Borrow.{Bor}
use Rattle.std.specs.BTreeMap.{BTreeMap, get}
use Rattle.std.specs.BTreeSet.{BTreeSet, contains}
use Rattle.std.specs.Ordering.{nat_cmp}
use Rattle.std.specs.declared.alloc.Global.{Global}
pub use Rattle.jdamage.specs.Entered.{NameOf}
use Rattle.jdamage.specs.Entered.{entry_name, first_among}
use Rattle.jdamage.specs.Groups.{group_of}
use Rattle.jmount.specs.Tree.{State, is_directory, all_entries}

-- the first name that stands for a number, in order of the directory's number and then in byte
-- order
unfoldable pub first_name : State → ℕ → Option NameOf
first_name s i = first_among (all_entries s) i

-- The names from the root to a directory, and after them these: the name by which the way goes up
-- from the directory is put in front, and then that of the directory that it is in, in at most so
-- many steps up to the root.
unfoldable pub climbed : State → (ℕ → Option NameOf) → ℕ → ℕ → List (List ℕ)
    → Option (List (List ℕ))
climbed s up zero dir names = None
climbed s up (suc steps) dir names = if is_directory s dir then
    (if dir == 1 then Some names
    else option_and_then (λ n. climbed s up steps n.0 (n.1 ∷ names)) (up dir)) else None

-- no way up to the root has more steps: there are no more names, and no more numbers
abbrev pub steps_at_most : State → ℕ
steps_at_most s = min (length (all_entries s)) (2 ^ 32) + 1

-- these names, below a directory, as a path, by the names by which `ls` enters directories
abbrev pub path_below : State → ℕ → List (List ℕ) → Option (List (List ℕ))
path_below s dir names = climbed s (entry_name s) (steps_at_most s) dir names

-- whether a way leads to a directory
abbrev pub leads_to : State → ℕ → Bool
leads_to s dir = is_some (path_below s dir [])

-- whether a name stands for a number, in a directory that a way leads to
abbrev pub is_led : State → ℕ → NameOf → Bool
is_led s i n = (n.2 == i) && leads_to s n.0

-- the names that do, in the same order
unfoldable pub names_led : State → ℕ → List NameOf
names_led s i = filter (is_led s i) (all_entries s)

-- how many names a path has, 0 where there is none
abbrev pub path_length : Option (List (List ℕ)) → ℕ
path_length None = 0
path_length (Some path) = length path

-- how many names the path of a directory has
abbrev pub depth : State → ℕ → ℕ
depth s dir = path_length (path_below s dir [])

-- the path of a name
abbrev pub path_to_name : State → NameOf → Option (List (List ℕ))
path_to_name s n = path_below s n.0 (n.1 ∷ [])

-- the same, where it stands for this number
abbrev pub path_if : State → ℕ → NameOf → Option (List (List ℕ))
path_if s i n = if n.2 == i then path_to_name s n else None

-- the root's path has no names
abbrev pub root_paths : ℕ → List (List (List ℕ))
root_paths i = if i == 1 then [] ∷ [] else []

-- rule: What is printed: The paths that lead to a number.
--   definitions: jdamage.Ways.paths_to, jdamage.Ways.climbed, jdamage.Entered.entered
--   code: jdamage::ways_up::climb, jdamage::ways::names_by_number, jdamage::telling::put_hurt,
--   jdamage::nowhere::nowhere_of, jdamage::entered::entered_names
--   laws: jdamage::laws::directory_path_leads, jdamage::laws::directory_has_path,
--   jdamage::laws::first_names_lead
-- the paths that lead to a number, also where its object is missing
abbrev pub paths_to : State → ℕ → List (List (List ℕ))
paths_to s i = root_paths i ++ filter_map (path_if s i) (all_entries s)

-- ---- paths as they are held

abbrev pub names_held : Vec (Bor (List ℕ)) Global → List (List ℕ)
names_held path = map (λ name. name.now) path.items

abbrev pub name_held : ℕ × Bor (List ℕ) × ℕ → NameOf
name_held n = (n.0, n.1.now, n.2)

abbrev pub HeldName : Type 0
HeldName = ℕ × Bor (List ℕ) × ℕ

-- each of these numbers has its names that a path leads to
abbrev pub AreLed : State → BTreeSet ℕ → BTreeMap ℕ (Vec HeldName Global) → Type 0
AreLed s numbers names = (i : ℕ) → contains nat_cmp numbers i ≡ true
    → map name_held (group_of names i) ≡ names_led s i

-- the first name of a number among those that are held
abbrev pub held_first : BTreeMap ℕ HeldName → ℕ → Option NameOf
held_first firsts i = option_map name_held (get nat_cmp firsts i)

-- each of these directories has its first name, if there is one
abbrev pub AreFirsts : State → BTreeSet ℕ → BTreeMap ℕ HeldName → Type 0
AreFirsts s dirs firsts =
    (i : ℕ) → contains nat_cmp dirs i ≡ true → held_first firsts i ≡ first_name s i

-- this name, where it stands for this number
abbrev pub first_if : ℕ → HeldName → Option NameOf
first_if i n = if n.2 == i then Some (name_held n) else None

abbrev pub or_else : Option NameOf → Option NameOf → Option NameOf
or_else None later = later
or_else (Some n) later = Some n

-- ---- by which names a way goes up: by first names, or where directories were walked through by
-- those by which they were entered

abbrev pub name_up : State → Bool → ℕ → Option NameOf
name_up s walked dir = if walked then entry_name s dir else first_name s dir

-- the name is held of each of these directories, and of all where they were walked through
abbrev pub AreNamesUp : State → Bool → BTreeSet ℕ → BTreeMap ℕ HeldName → Type 0
AreNamesUp s walked dirs names =
    (i : ℕ) → (walked || contains nat_cmp dirs i) ≡ true → held_first names i ≡ name_up s walked i

-- these ways up lead to the paths of all directories
abbrev pub LeadsUp : State → (ℕ → Option NameOf) → Type 0
LeadsUp s up = (dir : ℕ) (names : List (List ℕ))
    → climbed s up (steps_at_most s) dir names ≡ path_below s dir names

-- ---- directories from which no way leads up to the root

abbrev pub IsNowhere : State → (ℕ → Option NameOf) → ℕ → Type 0
IsNowhere s up dir = (steps : ℕ) (names : List (List ℕ)) → climbed s up steps dir names ≡ None

abbrev pub LeadNowhere : State → (ℕ → Option NameOf) → BTreeSet ℕ → Type 0
LeadNowhere s up dirs = (dir : ℕ) → contains nat_cmp dirs dir ≡ true → IsNowhere s up dir

-- by first names
abbrev pub FirstsLeadNowhere : State → BTreeSet ℕ → Type 0
FirstsLeadNowhere s dirs = LeadNowhere s (first_name s) dirs
