-- What is told of stops: the lines of `cuts`.
use Rattle.std.specs.Prelude.{◌≡◌, ◌⊎◌, ℕ, List, Some}
use Rattle.jnode.specs.declared.order.Endian.{Endian}
use Rattle.jscan.specs.declared.page.Page.{Page}
use Rattle.jcuts.specs.Cuts.{base_point, AreCutsTold, Asked, DeclinesNext}
use Rattle.jcuts.specs.declared.lines.Telling.TheVariants.{Nodes}
use Rattle.jlog.specs.declared.fault.SessionFault.{SessionFault}
use Rattle.jlog.specs.declared.start.Flash.{Flash}
use Rattle.jsteps.specs.declared.op.Op.{Op}
use Rattle.jcalls.specs.Asked.{asked_order}
use Rattle.jcalls.specs.Told.{session_told, told_number}
use Rattle.jcalls.specs.Works.{AreOpsOf, ImageRefused, IsGoneOn, OpsRefused, PageRefused, Listed, flash_by, page_with, sink_with}
use Rattle.jcalls.specs.declared.how.How.{How}
use Rattle.jcalls.specs.declared.told.Told.{Told}
use Rattle.jcalls.specs.declared.working.Target.{Target}

abbrev pub asked_nodes : List Op → List ℕ → Asked
asked_nodes ops numbers = record { telling = Nodes; ops = ops; lines = numbers }

-- the lines on operations on a base
pub record AreCuts (e : Endian) (flash : Flash) (image : List ℕ) (ops : List Op)
    (numbers : List ℕ) (text : List ℕ) : Type 0 where
  pub base : IsGoneOn e flash image
  pub weak : ℕ
  pub told : AreCutsTold e flash (asked_nodes ops numbers) (base_point e flash image)
      (sink_with text 0) weak

-- an operation is declined
abbrev pub IsDeclinedAt : Endian → Flash → List ℕ → List Op → List ℕ → Told → Type 0
IsDeclinedAt e flash image ops numbers told = (n line : ℕ) × (why : SessionFault)
    × DeclinesNext e flash (asked_nodes ops numbers) (base_point e flash image) n line why
    × (told ≡ session_told (told_number line) why)

-- ---- of a listing

abbrev pub AreCutsBy : Endian → Flash → List ℕ → Listed → List ℕ → Type 0
AreCutsBy e flash image l text = (ops : List Op) × (numbers : List ℕ)
    × AreOpsOf e l ops numbers
    × AreCuts e flash image ops numbers text

abbrev pub CutsRefusedBy : Endian → Flash → List ℕ → Listed → Told → Type 0
CutsRefusedBy e flash image l told =
    OpsRefused l told ⊎ ImageRefused e flash image told
    ⊎ ((ops : List Op) × (numbers : List ℕ)
    × AreOpsOf e l ops numbers
    × IsDeclinedAt e flash image ops numbers told)

-- ---- as a caller asks

abbrev pub AreCutsAsked : How → List ℕ → Target → Listed → List ℕ → Type 0
AreCutsAsked how image target l text =
    (page : Page) × (page_with target.page ≡ Some page)
    × AreCutsBy (asked_order how) (flash_by how.block target.blocks page) image l text

abbrev pub CutsRefused : How → List ℕ → Target → Listed → Told → Type 0
CutsRefused how image target l told = PageRefused target.page told
    ⊎ ((page : Page) × (page_with target.page ≡ Some page)
    × CutsRefusedBy (asked_order how) (flash_by how.block target.blocks page) image l told)
