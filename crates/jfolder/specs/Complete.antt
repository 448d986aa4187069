-- Each name that the host tells is read or left out.
use Rattle.std.specs.Prelude.{◌≡◌, ◌==◌, ◌++◌, ◌∷◌, [], ℕ, List, map, All, IfSome, IsPermutation, Option, Some, None, ⊤, if◌then◌else◌}
use Rattle.std.specs.List.{flat_map}
use Rattle.std.specs.String.{string_bytes}
use Rattle.jfolder.specs.Known.{Known, Named, inside, named_of}
use Rattle.jfolder.specs.declared.host.Names.{Names}
use Rattle.jfolder.specs.declared.reason.Reason.{Reason}
use Rattle.jfolder.specs.declared.tree.Item.{Item}
use Rattle.jfolder.specs.declared.tree.What.{What}
use Rattle.jfolder.specs.declared.tree.What.TheVariants as what

-- a path that is left out, and why
abbrev pub LeftOut : Type 0
LeftOut = List ℕ × Reason

abbrev pub left_paths : List LeftOut → List (List ℕ)
left_paths lefts = map (λ left. left.0) lefts

abbrev pub item_paths : List Item → List (List ℕ)
item_paths items = map (λ i. string_bytes i.path) items

-- ---- names and paths

-- the path of a name in the directory of this path
abbrev pub child : List ℕ → List ℕ → List ℕ
child directory name = directory ++ 47 ∷ name

-- the path that stands for all names in a directory that are no text, if there are any: that of the
-- empty name
abbrev pub unnamed_paths : List ℕ → ℕ → List (List ℕ)
unnamed_paths directory others = if others == 0 then [] else child directory [] ∷ []

-- the path of each name in the directory of this path
abbrev pub children : List ℕ → Named → List (List ℕ)
children directory names = map (child directory) names.texts ++ unnamed_paths directory names.others

-- ---- directories

abbrev pub path_if_directory : List ℕ → What → List (List ℕ)
path_if_directory path what.Directory = path ∷ []
path_if_directory path _ = []

-- the folder itself, whose path is empty, and each item that is a directory
abbrev pub listed_directories : List Item → List (List ℕ)
listed_directories items = [] ∷ flat_map (λ i. path_if_directory (string_bytes i.path) i.what) items

-- a directory by its path, and the names that were told in it
abbrev pub Opened : Type 0
Opened = List ℕ × Named

-- these are the names that the host tells there, where that is known
abbrev pub IsNamed : Known → Opened → Type 0
IsNamed known opened = IfSome (known.names (inside opened.0)) (λ told. opened.1 ≡ told)

-- ---- completeness

-- Names were told in each directory of these items, and they give these paths, each as often as it
-- is told.
pub record Covers (known : Known) (items : List Item) (paths : List (List ℕ)) : Type 0 where
  pub opened : List Opened
  pub each : map (λ o. o.0) opened ≡ listed_directories items
  pub told : All (IsNamed known) opened
  pub paths_are : IsPermutation (flat_map (λ o. children o.0 o.1) opened) paths

-- rule: Listings: Each name of a folder is read or left out.
--   definitions: jfolder.Complete.IsComplete, jfolder.Complete.Covers
--   code: jfolder::reading::read_folder
-- Each path of a name is that of an item, or is left out.
abbrev pub IsComplete : Known → List Item → List LeftOut → Type 0
IsComplete known items lefts = Covers known items (item_paths items ++ left_paths lefts)

-- ---- parts of a walk

-- a directory has the names that the host tells there, and nothing else has names
abbrev pub NamesFit : Option Named → What → Option Names → Type 0
NamesFit known what.Directory (Some names) = IfSome known (λ told. named_of names ≡ told)
NamesFit known what.Directory None = ⊥
NamesFit known _ (Some names) = ⊥
NamesFit known _ None = ⊤

abbrev pub children_of : List ℕ → Option Names → List (List ℕ)
children_of directory None = []
children_of directory (Some names) = children directory (named_of names)

-- Paths that were still to visit were read or left out, and others came in their place.
abbrev pub StaysCovered : Known → List Item → List (List ℕ) → List Item → List (List ℕ)
    → List LeftOut → Type 0
StaysCovered known items pending new later lefts = (before : List LeftOut)
    → Covers known items (item_paths items ++ (pending ++ left_paths before))
    → Covers known new (item_paths new ++ (later ++ left_paths (before ++ lefts)))
