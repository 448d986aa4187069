-- The paths of objects that the picture of an image shows.
use Rattle.std.specs.Prelude.{◌≡◌, ℕ, ◌==◌, if◌then◌else◌, List, [], ◌∷◌, Option, Some, None, option_map}
use Rattle.jmount.specs.Tree.{State, all_entries}
use Rattle.jdamage.specs.Ways.{NameOf, path_if}
use Rattle.jmap.specs.Places.{Paths, names_text, path_in}

-- the first of two that is there
abbrev pub or_path : Option (List ℕ) → Option (List ℕ) → Option (List ℕ)
or_path None later = later
or_path (Some path) later = Some path

-- the text of the path of a name, if it stands for this number and a way leads there
abbrev pub shown_text_if : State → ℕ → NameOf → Option (List ℕ)
shown_text_if s i n = option_map names_text (path_if s i n)

-- of the first of these names of which it is one
unfoldable pub first_path_text : State → ℕ → List NameOf → Option (List ℕ)
first_path_text s i [] = None
first_path_text s i (n ∷ rest) = or_path (shown_text_if s i n) (first_path_text s i rest)

abbrev pub root_text : ℕ → Option (List ℕ)
root_text i = if i == 1 then Some [] else None

-- the text of the first path that leads to a number, in order of the numbers of directories and
-- then of names; the root's has no name
abbrev pub shown_path : State → ℕ → Option (List ℕ)
shown_path s i = or_path (root_text i) (first_path_text s i (all_entries s))

-- these are the texts of the first paths
abbrev pub AreShownPaths : State → Paths → Type 0
AreShownPaths s paths = (i : ℕ) → path_in paths i ≡ shown_path s i
