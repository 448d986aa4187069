-- Updates that no stop tears, of images seen through their compression: whatever the forms of the
-- nodes, in the tail of an image and in its blank blocks.
use Rattle.std.specs.Prelude.{ℕ, ◌+◌, ◌≤◌, List, length}
use Rattle.std.specs.List.{AllByRecursion}
use Rattle.flashbase.specs.Ranges.{AreBytes}
use Rattle.jnode.specs.declared.order.Endian.{Endian}
use Rattle.jmount.specs.Tree.{State}
use Rattle.jscan.specs.Pages.{IsPage}
use Rattle.jsteps.specs.Laws.{OpFits}
use Rattle.jsteps.specs.declared.op.Op.{Op}
use Rattle.jview.specs.Through.{MountsThroughAs}
use Rattle.jlog.specs.Forms.{NoFormWeak}
use Rattle.jlog.specs.Headline.{resume_address}
use Rattle.jlog.specs.HeadlineThrough.{state_through, IsBaseThrough, AreAcceptedAs}
use Rattle.jlog.specs.Left.{IsLeft}
use Rattle.jlog.specs.Output.{output}
use Rattle.jrow.specs.HeadlineInRow.{AreAcceptedInRow}
use Rattle.jrow.specs.RowLeft.{IsLeftOfForms}
use Rattle.jtree.specs.Updates.{IsUpdate, FilesAreWhole}

-- an image mounts through as a file system of which each regular file is whole
abbrev pub ShowsWholeFiles : Endian → ℕ → List ℕ → List Op → List ℕ → Type 0
ShowsWholeFiles e size base ops image =
    (s : State) × MountsThroughAs e size image s × FilesAreWhole (state_through e size base) ops s

-- So it is of what a stop leaves of updates whose nodes go out in any of their forms,
abbrev pub UpdatesAreWholeThrough : Type 0
UpdatesAreWholeThrough = (page : ℕ) (e : Endian) (size blocks n : ℕ) (base : List ℕ)
    (ops : List Op) (forms : List (List ℕ)) → IsPage page → page + 80 ≤ size
    → IsBaseThrough e size blocks base → AreBytes base → AllByRecursion OpFits ops
    → AllByRecursion IsUpdate ops → AreAcceptedAs page e size blocks base ops n forms
    → let from = resume_address e size blocks base in
    let out = output e size from forms in
    NoFormWeak e forms
    → (k : ℕ) (image : List ℕ) → k ≤ length out → IsLeft e size blocks base from out k image
    → ShowsWholeFiles e size base ops image

-- and the same in the blank blocks of an image, wherever they lie.
abbrev pub UpdatesAreWholeInRow : Type 0
UpdatesAreWholeInRow = (page : ℕ) (e : Endian) (size blocks n : ℕ) (base : List ℕ) (ops : List Op)
    (forms : List (List ℕ)) → IsPage page → page + 80 ≤ size → IsBaseThrough e size blocks base
    → AreBytes base → AllByRecursion OpFits ops → AllByRecursion IsUpdate ops
    → AreAcceptedInRow page e size blocks base ops n forms → NoFormWeak e forms
    → (k : ℕ) (image : List ℕ) → k ≤ length (output e size 0 forms)
    → IsLeftOfForms e size blocks base forms k image → ShowsWholeFiles e size base ops image
