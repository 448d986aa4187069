-- What a look at an image has in common with its mount through its compression.
use Rattle.std.specs.Prelude.{◌≡◌, ◌↔◌, ◌⊎◌, ◌<◌, ℕ, true, IsTrue, List, length, Result, Ok, Err}
use Rattle.jnode.specs.declared.order.Endian.{Endian}
use Rattle.jmount.specs.Mount.{Mount}
use Rattle.jmount.specs.StateOf.{state_of}
use Rattle.jmount.specs.Tree.{State, object, outline}
use Rattle.jexpand.specs.Expanded.{compressed_node_at, contents_of_tiles}
use Rattle.jview.specs.Through.{MountsThroughAs, greatest_contents}
use Rattle.jthrough.specs.MountsThrough.{AnswersThrough}
use Rattle.jthrough.specs.Refusals.{nodes_of_tiles}
use Rattle.jthrough.specs.declared.fault.ViewFault.{ViewFault}
use Rattle.jthrough.specs.declared.fault.ViewFault.TheVariants as fault
use Rattle.jlook.specs.Looked.{Wants, looked_tiles}
use Rattle.jlook.specs.Looks.{AnswersLook, LooksAs}

-- ---- two mounts

-- Of the same image they have the same names, and the same objects with the same attributes and
-- sizes. Each object that is wanted has the same bytes.
pub record ShowsSame (wants : Wants) (full looked : Mount) : Type 0 where
  pub image : looked.image ≡ full.image
  pub outline_is : outline looked.state ≡ outline full.state
  pub wanted : (i : ℕ) → IsTrue (wants i) → object looked.state i ≡ object full.state i
  pub tops : looked.tops ≡ full.tops
  pub findings : looked.findings ≡ full.findings
  pub read_only : looked.read_only ≡ full.read_only

-- the answer shows the same as this mount, or memory ran out
abbrev pub ShowsSameOr : Wants → Mount → Result Mount ViewFault → Type 0
ShowsSameOr wants full (Ok looked) = ShowsSame wants full looked
ShowsSameOr wants full (Err why) = why ≡ fault.OutOfMemory

-- ---- laws

-- An image that mounts through its compression mounts as it is looked at, whatever is wanted,
abbrev pub LookingMounts : Type 0
LookingMounts = (wants : Wants) (e : Endian) (size : ℕ) (image : List ℕ) (s : State)
    → MountsThroughAs e size image s
    → LooksAs wants e size image (state_of (nodes_of_tiles e size image (looked_tiles wants e size
    image)))

-- and shows the same.
abbrev pub LookingShowsTheTree : Type 0
LookingShowsTheTree = (wants : Wants) (e : Endian) (size : ℕ) (image : List ℕ) (full : Mount)
    (answer : Result Mount ViewFault)
    → AnswersThrough e size image (Ok full) → AnswersLook wants e size image answer
    → ShowsSameOr wants full answer

-- If all is wanted, then a look is the mount through.
abbrev pub AllWantedIsThrough : Type 0
AllWantedIsThrough = (wants : Wants) (e : Endian) (size : ℕ) (image : List ℕ)
    (answer : Result Mount ViewFault)
    → ((i : ℕ) → wants i ≡ true)
    → AnswersLook wants e size image answer ↔ AnswersThrough e size image answer

-- ---- refusals

-- the compressed node at the address is one of an object that is wanted
abbrev pub IsOfWanted : Wants → Endian → ℕ → List ℕ → ℕ → Type 0
IsOfWanted wants e size image addr = IsTrue (wants (compressed_node_at e size image addr).ino)

-- the contents that are wanted are more bytes than may be held
abbrev pub AreTooManyWanted : Wants → Endian → ℕ → List ℕ → Type 0
AreTooManyWanted wants e size image =
    greatest_contents < length (contents_of_tiles e size image (looked_tiles wants e size image))

-- if compressed data refuse an image, then they are wanted
abbrev pub BlamesWanted : Wants → Endian → ℕ → List ℕ → ViewFault → Type 0
BlamesWanted wants e size image (fault.Compressed addr compr) = IsOfWanted wants e size image addr
BlamesWanted wants e size image (fault.Data addr) = IsOfWanted wants e size image addr
BlamesWanted wants e size image (fault.TooLong addr) =
    IsOfWanted wants e size image addr ⊎ AreTooManyWanted wants e size image
BlamesWanted wants e size image (fault.Incompatible addr nodetype) = Unit {0}
BlamesWanted wants e size image (fault.Clash addr) = Unit {0}
BlamesWanted wants e size image fault.BlockSize = Unit {0}
BlamesWanted wants e size image fault.TooLarge = Unit {0}
BlamesWanted wants e size image fault.RootKind = Unit {0}
BlamesWanted wants e size image fault.OutOfMemory = Unit {0}

-- So the data of what is not wanted refuse nothing, whether they are broken or not.
abbrev pub OnlyTheWantedRefuse : Type 0
OnlyTheWantedRefuse = (wants : Wants) (e : Endian) (size : ℕ) (image : List ℕ) (why : ViewFault)
    → AnswersLook wants e size image (Err why) → BlamesWanted wants e size image why
