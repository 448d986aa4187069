-- How far a reading came that ends at a fault.
use Rattle.std.specs.Prelude.{◌≡◌, ◌⊎◌, ◌++◌, [], ℕ, List, map, All, IsPermutation, Option}
use Rattle.jfolder.specs.Complete.{Covers, LeftOut, child, children, children_of, item_paths, left_paths, unnamed_paths}
use Rattle.jfolder.specs.Known.{Known, Named}
use Rattle.jfolder.specs.Objects.{IsObjectTold}
use Rattle.jfolder.specs.Reasons.{IsRight, IsUnlisted, IsUnlistedIn, IsUnnamed, IsWrongChild}
use Rattle.jfolder.specs.Walking.{IsItemTold}
use Rattle.jfolder.specs.declared.found.Options.{Options}
use Rattle.jfolder.specs.declared.host.Names.{Names}
use Rattle.jfolder.specs.declared.tree.Item.{Item}

-- ---- the names in a directory

-- these are some of the paths, each as often as it is among them at most
abbrev pub AreAmong : List (List ℕ) → List LeftOut → Type 0
AreAmong paths lefts = (others : List (List ℕ)) × IsPermutation paths (others ++ left_paths lefts)

-- those of some of the names, which a listing can't have
abbrev pub SomeWrong : List ℕ → List (List ℕ) → List LeftOut → Type 0
SomeWrong directory names lefts =
    AreAmong (map (child directory) names) lefts × All (IsWrongChild directory names) lefts

-- that of the names that are no text, or none
abbrev pub SomeUnnamed : List ℕ → ℕ → List LeftOut → Type 0
SomeUnnamed directory others lefts =
    AreAmong (unnamed_paths directory others) lefts × All (IsUnnamed directory others) lefts

-- some of both
abbrev pub SomeUnlisted : List ℕ → Named → List LeftOut → Type 0
SomeUnlisted directory names lefts =
    AreAmong (children directory names) lefts × All (IsUnlisted directory names) lefts

-- the same, if the names were asked for
abbrev pub SomeUnlistedIn : List ℕ → Option Names → List LeftOut → Type 0
SomeUnlistedIn directory names lefts =
    AreAmong (children_of directory names) lefts × All (IsUnlistedIn directory names) lefts

-- ---- the whole

-- What was read is right, and each path that the host tells of is read, is still to visit, or is
-- left out for a reason that is right.
pub record HasReached (known : Known) (options : Options) (items : List Item)
    (pending : List (List ℕ)) (lefts : List LeftOut) : Type 0 where
  pub told : All (IsItemTold known.looked options) items
  pub objects : All (IsObjectTold known) items
  pub covers : Covers known items (item_paths items ++ (pending ++ left_paths lefts))
  pub right : All (IsRight known options items) lefts

-- rule: Listings: Those lines before a fault.
--   definitions: jfolder.SoFar.IsBeginning, jfolder.SoFar.HasReached
--   code: jfolder::reading::read_folder
-- These paths were left out up to somewhere in a reading. Before the names in the folder itself are
-- told there are none.
abbrev pub IsBeginning : Known → Options → List LeftOut → Type 0
IsBeginning known options lefts = (lefts ≡ [])
    ⊎ ((items : List Item) × (pending : List (List ℕ))
    × HasReached known options items pending lefts)

-- from there on these are left out further
abbrev pub LeadsOn : Known → Options → List Item → List (List ℕ) → List LeftOut → Type 0
LeadsOn known options items pending lefts = (before : List LeftOut)
    → HasReached known options items pending before
    → (new : List Item) × (later : List (List ℕ))
    × HasReached known options new later (before ++ lefts)
