-- Items that make up a tree: each lies in a directory that was made before it, under a name that is
-- new there.
use Rattle.std.specs.Prelude.{◌≡◌, ◌≢◌, ◌≤◌, ◌<◌, ◌⊎◌, ℕ, List, [], ◌∷◌, ◌++◌, length, All, Contains, ⊤, IsTrue}
use Rattle.std.specs.String.{string_bytes}
use Rattle.jmount.specs.Find.{IsPath, path_text}
use Rattle.jmount.specs.Tree.{greatest_target}
use Rattle.jfolder.specs.Order.{is_before}
use Rattle.jfolder.specs.declared.tree.Item.{Item}
use Rattle.jfolder.specs.declared.tree.What.{What}
use Rattle.jfolder.specs.declared.tree.What.TheVariants as what

-- these names lead to the root, or to an earlier directory
abbrev pub HasDirectory : List Item → List (List ℕ) → Type 0
HasDirectory before way = (way ≡ []) ⊎ ((i : Item) × Contains before i
    × (string_bytes i.path ≡ path_text way) × (i.what ≡ what.Directory))

abbrev pub IsRegular : What → Type 0
IsRegular (what.Regular file) = Unit {0}
IsRegular _ = ⊥

-- a link is a further name of an earlier regular file
abbrev pub LinksBack : List Item → What → Type 0
LinksBack before (what.Link first) =
    (i : Item) × Contains before i × (string_bytes i.path ≡ string_bytes first) × IsRegular i.what
LinksBack before _ = Unit {0}

-- the target of a symlink is one that an image can have: neither empty nor of more than 4,095
-- bytes, and without a zero byte
abbrev pub HasTarget : What → Type 0
HasTarget (what.Symlink target) = (0 < length (string_bytes target))
    × (length (string_bytes target) ≤ greatest_target) × All (λ b. b ≢ 0) (string_bytes target)
HasTarget _ = Unit {0}

-- an item may follow these
pub record MayFollow (before : List Item) (i : Item) : Type 0 where
  pub way : List (List ℕ)
  pub name : List ℕ
  pub path : IsPath (string_bytes i.path) (way ++ name ∷ [])
  pub short : length name ≤ 254
  pub directory : HasDirectory before way
  pub new : (other : Item) → Contains before other → string_bytes other.path ≢ string_bytes i.path
  pub link : LinksBack before i.what
  pub target : HasTarget i.what

abbrev pub IsTreeAfter : List Item → List Item → Type 0
IsTreeAfter before [] = ⊤
IsTreeAfter before (i ∷ items) = MayFollow before i × IsTreeAfter (before ++ i ∷ []) items

-- rule: Listings: What items make up a tree, and in which order.
--   definitions: jfolder.Trees.IsTree, jfolder.Trees.Rise
--   code: jfolder::reading::read_folder
abbrev pub IsTree : List Item → Type 0
IsTree items = IsTreeAfter [] items

-- each path is after the one before it, so that one tree has one order
abbrev pub Rise : List Item → Type 0
Rise [] = ⊤
Rise (i ∷ []) = ⊤
Rise (i ∷ j ∷ items) =
    IsTrue (is_before (string_bytes i.path) (string_bytes j.path)) × Rise (j ∷ items)
