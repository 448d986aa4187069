-- What a folder of the host is made to hold.
use Rattle.std.specs.Prelude.{◌≡◌, ℕ, List, [], ◌∷◌, ◌++◌, Option, Some, None, Result, Ok, Err, ⊤}
use Rattle.flashbase.specs.Device.{next_count}
use Rattle.jextract.specs.Cells.{Cells}
use Rattle.jextract.specs.declared.folder.Attributes.{Attributes}
use Rattle.jextract.specs.declared.folder.FolderFault.{FolderFault}
use Rattle.jextract.specs.declared.folder.FolderFault.TheVariants.{Refused, NoSpace, OutOfMemory}

-- what is done at a path: what is made there anew, and what is made of what is there
pub data Deed : Type 0 where
  -- an empty directory
  Directory : Deed
  -- an empty file
  File : Deed
  -- the file has this at its places, and these attributes
  Content : Cells → Attributes → Deed
  -- a symlink to this target
  Symlink : List ℕ → Attributes → Deed
  -- a further name of the file at this path
  Link : List ℕ → Deed
  -- the directory has these attributes
  Attributed : Attributes → Deed

-- A path is that of an object below the folder: names with a slash between two. The empty path is
-- the folder itself.
pub record Made : Type 0 where
  pub path : List ℕ
  pub deed : Deed

-- known deeds are followed by these
abbrev pub ReportsMore : Option (List Made) → Option (List Made) → List Made → Type 0
ReportsMore None new more = ⊤
ReportsMore (Some made) None more = ⊥
ReportsMore (Some made) (Some after) more = after ≡ made ++ more

-- how often a folder refused, and how often it had no space, each modulo 2^64
pub record Failures : Type 0 where
  pub refused : ℕ
  pub full : ℕ

-- a folder before and after: what is known of what was made in it, and how often it failed
pub record FolderChange : Type 0 where
  pub old : Option (List Made)
  pub new : Option (List Made)
  pub before : Failures
  pub now : Failures

abbrev pub refused_once : Failures → Failures
refused_once n = record n { refused = next_count n.refused }

abbrev pub full_once : Failures → Failures
full_once n = record n { full = next_count n.full }

-- the count after a fault; the host is not to blame for want of memory
abbrev pub counted_fault : FolderFault → Failures → Failures
counted_fault Refused n = refused_once n
counted_fault NoSpace n = full_once n
counted_fault OutOfMemory n = n

-- the folder's count after a call
abbrev pub Counts : {T : Type 0} → Failures → Failures → Result T FolderFault → Type 0
Counts before now (Ok _) = now ≡ before
Counts before now (Err fault) = now ≡ counted_fault fault before

-- the same after a file failed, if it did
abbrev pub counted_if : Option FolderFault → Failures → Failures
counted_if None n = n
counted_if (Some fault) n = counted_fault fault n

-- a call does this, or at a fault nothing
abbrev pub AddsOne : {T : Type 0} → Option (List Made) → Option (List Made) → Made
    → Result T FolderFault → Type 0
AddsOne old new made (Ok _) = ReportsMore old new (made ∷ [])
AddsOne old new made (Err Refused) = ReportsMore old new []
AddsOne old new made (Err NoSpace) = ReportsMore old new []
AddsOne old new made (Err OutOfMemory) = ReportsMore old new []

-- a file has no places yet, where the folder says what was made in it
abbrev pub IsEmptyIn : Option (List Made) → Option Cells → Type 0
IsEmptyIn None cells = ⊤
IsEmptyIn (Some made) None = ⊥
IsEmptyIn (Some made) (Some cells) = cells ≡ []

-- a file of these places is made to have them and these attributes, or at a fault nothing is done
abbrev pub AddsContent : {T : Type 0} → Option (List Made) → Option (List Made) → List ℕ
    → Option Cells → Attributes → Result T FolderFault → Type 0
AddsContent old new path known attributes result =
    (cells : Cells) → known ≡ Some cells
    → AddsOne old new (record { path = path; deed = Content cells attributes }) result
