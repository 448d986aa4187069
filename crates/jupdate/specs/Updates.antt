-- Updates that no stop tears, written into the openings of an image.
use Rattle.std.specs.Prelude.{ℕ, ◌+◌, ◌≤◌, List}
use Rattle.std.specs.List.{AllByRecursion}
use Rattle.flashbase.specs.Ranges.{AreBytes}
use Rattle.jnode.specs.declared.order.Endian.{Endian}
use Rattle.jscan.specs.Pages.{IsPage}
use Rattle.jsteps.specs.Laws.{OpFits}
use Rattle.jsteps.specs.declared.op.Op.{Op}
use Rattle.jlog.specs.Forms.{NoFormWeak}
use Rattle.jlog.specs.HeadlineThrough.{IsBaseThrough}
use Rattle.jrests.specs.Left.{IsLeftOfShares}
use Rattle.jrests.specs.Openings.{AreOpeningsOf}
use Rattle.jrests.specs.Shares.{shares}
use Rattle.jrests.specs.Survives.{AreAcceptedInOpenings}
use Rattle.jrests.specs.declared.opening.Opening.{Opening}
use Rattle.jtree.specs.Updates.{IsUpdate}
use Rattle.jtree.specs.UpdatesThrough.{ShowsWholeFiles}

-- What a stop leaves of updates whose nodes go out to openings, in any of their forms, mounts
-- through as a file system of which each regular file is whole.
abbrev pub UpdatesAreWholeInOpenings : Type 0
UpdatesAreWholeInOpenings = (page : ℕ) (e : Endian) (size blocks n : ℕ) (base : List ℕ)
    (row : List Opening) (ops : List Op) (forms : List (List ℕ)) → IsPage page → page + 80 ≤ size
    → IsBaseThrough e size blocks base → AreBytes base → AllByRecursion OpFits ops
    → AllByRecursion IsUpdate ops → AreOpeningsOf e size blocks base row
    → AreAcceptedInOpenings page e size base row ops n forms → NoFormWeak e forms
    → (k : ℕ) (image : List ℕ) → IsLeftOfShares e size blocks base (shares size row forms) k image
    → ShowsWholeFiles e size base ops image
