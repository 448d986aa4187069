-- A part of a file system: what a path names and what lies below it, by the paths of the whole.
use Rattle.std.specs.Prelude.{◌≡◌, ℕ, map, ◌==◌, ◌&&◌, ◌||◌, not, bytes_eq, Bool, List, [], ◌∷◌, filter, Option, Some, None, Ok, if◌then◌else◌}
use Rattle.std.specs.List.{list_any}
use Rattle.std.specs.FinMap.{FinMap, entries, from_sorted}
use Rattle.jname.specs.Live.{Key, key_cmp}
use denote.Ref.{Bor}
use Rattle.jmount.specs.Tree.{State, named, is_directory}
use Rattle.jmount.specs.Find.{find, path_names}

-- the file system with other names
abbrev pub with_names : State → FinMap key_cmp ℕ → State
with_names s names = record s { names = names }

-- ---- the way to an object

-- the names that lead on from a directory, if it is there, each with its directory
abbrev pub way_from : State → Option ℕ → List (List ℕ) → List Key
way_from s here [] = []
way_from s None (name ∷ names) = []
way_from s (Some dir) (name ∷ names) = (dir, name) ∷ way_from s (named s dir name) names

-- A directory on the way has the next name alone, any other has all of its names.
abbrev pub is_on_way : List Key → ℕ → Bool
is_on_way way dir = list_any (λ key. key.0 == dir) way

abbrev pub is_way : List Key → ℕ → List ℕ → Bool
is_way way dir name = list_any (λ key. key.0 == dir && bytes_eq key.1 name) way

abbrev pub is_in_part : List Key → ℕ → List ℕ → Bool
is_in_part way dir name = not (is_on_way way dir) || is_way way dir name

-- ---- the part

-- the way, and all that lies below its end
abbrev pub part_along : List Key → State → State
part_along way s =
    with_names s (from_sorted (filter (λ e. is_in_part way e.0.0 e.0.1) (entries s.names)))

-- an object alone, by a name of the root
abbrev pub part_alone : List ℕ → ℕ → State → State
part_alone name i s = with_names s (from_sorted (((1, name), i) ∷ []))

-- the last of these names, of which `name` is the first
abbrev pub end_name : List ℕ → List (List ℕ) → List ℕ
end_name name [] = name
end_name name (other ∷ names) = end_name other names

-- the part that names lead to, where they lead from the root to this object: of no names the whole,
-- a directory on its way, and any other object by its last name
abbrev pub part_at : List (List ℕ) → ℕ → State → State
part_at [] i s = s
part_at (name ∷ names) i s =
    if is_directory s i then part_along (way_from s (Some 1) (name ∷ names)) s
    else part_alone (end_name name names) i s

-- rule: Listings: The part of a tree that a path names.
--   definitions: jextract.Parts.IsPartAt, jextract.Parts.part_at, jextract.Parts.part_along
--   code: jextract::parts::part_at, jextract::extracting::extract_part
-- the part that a path names
abbrev pub IsPartAt : State → List ℕ → State → Type 0
IsPartAt s path part = (names : List (List ℕ)) × (i : ℕ) × (path_names path ≡ Some names)
    × (find s path ≡ Ok i) × (part ≡ part_at names i s)

-- the part that is asked for: that of a path, where one is given, and else the whole
abbrev pub IsPartAsked : State → Option (List ℕ) → State → Type 0
IsPartAsked s None part = part ≡ s
IsPartAsked s (Some path) part = IsPartAt s path part

-- the way as the program has it
abbrev pub keys_of : List (ℕ × Bor (List ℕ)) → List Key
keys_of way = map (λ key. (key.0, key.1.now)) way
