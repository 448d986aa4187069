-- The texts that are given of an image: the lines of `ls`, and the report of `check`.
use Rattle.std.specs.Prelude.{◌≡◌, ◌⊎◌, ℕ, Bool, List}
use Rattle.jnode.specs.declared.order.Endian.{Endian}
use Rattle.jscan.specs.Scans.{IsScannable}
use Rattle.jmount.specs.Tree.{State}
use Rattle.jreport.specs.TreeText.{Item, IsItemAt, IsTextFrom}
use Rattle.jreport.specs.WholeImage.{IsCheck}
use Rattle.jcalls.specs.Counting.{CountRefused}
use Rattle.jcalls.specs.Told.{told_at}
use Rattle.jcalls.specs.declared.told.Told.{Told}

-- ---- the lines of `ls`

-- those of the object that a path names, and of what lies below it
abbrev pub IsListing : State → List ℕ → List ℕ → Type 0
IsListing s path text = (item : Item) × IsItemAt s path item × IsTextFrom s item text

-- ---- the report of `check`

-- the report and the verdict, with the shape of the tree if it is asked for
abbrev pub IsReport : Endian → ℕ → Bool → List ℕ → List ℕ → Type 0
IsReport e size shape image text =
    IsScannable size image × ((found : Bool) × IsCheck e size image shape text found)

-- why there is none: the image is not scanned, or memory runs out
abbrev pub ReportRefused : ℕ → List ℕ → Told → Type 0
ReportRefused size image told =
    CountRefused size image told ⊎ (IsScannable size image × (told ≡ told_at 7 0 0))
