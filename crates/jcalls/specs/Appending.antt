-- An image with further nodes behind its own, as `append` writes it.
use Rattle.std.specs.Prelude.{◌≡◌, ◌≢◌, ◌⊎◌, ◌<◌, ℕ, List, ◌++◌, length, drop, Option, Some, None}
use Rattle.jnode.specs.declared.order.Endian.{Endian}
use Rattle.jscan.specs.declared.page.Page.{Page}
use Rattle.jbuild.specs.Emitting.{IsEmitted}
use Rattle.jlog.specs.View.{written_flash}
use Rattle.jlog.specs.declared.fault.SessionFault.{SessionFault}
use Rattle.jlog.specs.declared.report.Place.{Place}
use Rattle.jlog.specs.declared.start.Flash.{Flash}
use Rattle.jsteps.specs.declared.op.Op.{Op}
use Rattle.jcalls.specs.Asked.{asked_order}
use Rattle.jcalls.specs.Told.{session_told, told_at, told_number}
use Rattle.jcalls.specs.Works.{AreOpsOf, ImageRefused, IsGoneOn, OpsRefused, PageRefused, Listed, flash_by, line_number_at, page_with, sink_with}
use Rattle.jcalls.specs.declared.appending.Written.{Written}
use Rattle.jcalls.specs.declared.how.How.{How}
use Rattle.jcalls.specs.declared.told.Told.{Told}
use Rattle.jcalls.specs.declared.working.Target.{Target}

-- what is told of the operation that stopped the others, if one did
abbrev pub stop_told : ℕ → Option SessionFault → Told
stop_told line None = told_at 0 0 0
stop_told line (Some why) = session_told line why

-- what a row says of that
abbrev pub stop_in : Written → Told
stop_in row = told_at row.stop row.line row.detail

-- These bytes are the image up to where writing goes on, and then the nodes of the operations, or
-- of those before the first one that is declined; and memory did not run out.
pub record IsWrittenOn (e : Endian) (flash : Flash) (image : List ℕ) (ops : List Op)
    (numbers bytes : List ℕ) (row : Written) : Type 0 where
  pub places : List Place
  pub stopped : Option SessionFault
  pub failures : ℕ
  pub emitted : IsEmitted (written_flash e flash) image ops row.accepted places stopped
      (sink_with bytes failures)
  pub length_is : row.bytes ≡ length bytes
  pub nodes_are : row.nodes ≡ length places
  pub stop_is : stop_in row ≡ stop_told (told_number (line_number_at numbers row.accepted)) stopped
  pub memory : row.stop ≢ 7
  pub spare_is : row.spare ≡ 0

abbrev pub IsAppended : Endian → Flash → List ℕ → List Op → List ℕ → List ℕ → Written → Type 0
IsAppended e flash image ops numbers bytes row =
    IsGoneOn e flash image × IsWrittenOn e flash image ops numbers bytes row

-- ---- of a listing

abbrev pub IsAppendedBy : Endian → Flash → List ℕ → Listed → List ℕ → Written → Type 0
IsAppendedBy e flash image l bytes row = (ops : List Op) × (numbers : List ℕ)
    × AreOpsOf e l ops numbers
    × IsAppended e flash image ops numbers bytes row

abbrev pub AppendRefusedBy : Endian → Flash → List ℕ → Listed → Told → Type 0
AppendRefusedBy e flash image l told =
    OpsRefused l told ⊎ ImageRefused e flash image told

-- ---- as a caller asks

abbrev pub IsAppendedAsked : How → List ℕ → Target → Listed → List ℕ → Written → Type 0
IsAppendedAsked how image target l bytes row =
    (page : Page) × (page_with target.page ≡ Some page)
    × IsAppendedBy (asked_order how) (flash_by how.block target.blocks page) image l bytes
    row

abbrev pub AppendRefused : How → List ℕ → Target → Listed → Told → Type 0
AppendRefused how image target l told = PageRefused target.page told
    ⊎ ((page : Page) × (page_with target.page ≡ Some page)
    × AppendRefusedBy (asked_order how) (flash_by how.block target.blocks page) image l
    told)

-- ---- giving it

-- it is at the front of the caller's memory, which is as it was behind it, and the row is told
abbrev pub GivesAppended : How → List ℕ → Target → Listed → List ℕ → List ℕ → Written → Type 0
GivesAppended how image target l old new row = (bytes : List ℕ)
    × IsAppendedAsked how image target l bytes row × (new ≡ bytes ++ drop (length bytes) old)

-- there is no room for it, and the row is told
abbrev pub NeedsForAppended : How → List ℕ → Target → Listed → List ℕ → Written → Type 0
NeedsForAppended how image target l old row = (bytes : List ℕ)
    × IsAppendedAsked how image target l bytes row × (length old < row.bytes)
