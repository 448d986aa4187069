-- An image with further nodes in its openings, as `update` writes it.
use Rattle.std.specs.Prelude.{◌≡◌, ◌≢◌, ◌⊎◌, ◌<◌, ℕ, Bool, false, List, [], ◌++◌, length, take, drop, IsOk, Option, Some, Ok, Err}
use Rattle.jnode.specs.declared.order.Endian.{Endian}
use Rattle.jscan.specs.Pages.{page_size}
use Rattle.jscan.specs.declared.page.Page.{Page}
use Rattle.jexpand.specs.Expanded.{unpacked_bytes}
use Rattle.jmount.specs.Mount.{Mount}
use Rattle.jthrough.specs.MountsThrough.{AnswersThrough}
use Rattle.jthrough.specs.declared.fault.ViewFault.{ViewFault}
use Rattle.jsteps.specs.declared.op.Op.{Op}
use Rattle.jsteps.specs.declared.step.Step.{Step}
use Rattle.jlog.specs.DoneThrough.{steps_through}
use Rattle.jlog.specs.HeadlineThrough.{index_through}
use Rattle.jlog.specs.Resuming.{resumes}
use Rattle.jlog.specs.SessionAs.{FlashAs, flash_as}
use Rattle.jlog.specs.View.{written_flash}
use Rattle.jlog.specs.declared.fault.SessionFault.{SessionFault}
use Rattle.jlog.specs.declared.start.Flash.{Flash}
use Rattle.jrests.specs.Left.{all_bytes}
use Rattle.jrests.specs.Openings.{openings}
use Rattle.jrests.specs.Shares.{shares}
use Rattle.jrests.specs.declared.opening.Opening.{Opening}
use Rattle.jopenings.specs.Placed.{placed_image, PlacedSurvives}
use Rattle.jupdate.specs.SessionIn.{StateIn, RunsIn}
use Rattle.jupdate.specs.Writing.{log_in}
use Rattle.jcalls.specs.Appending.{stop_in, stop_told}
use Rattle.jcalls.specs.Asked.{asked_order, is_asked}
use Rattle.jcalls.specs.Told.{session_told, told_number, view_told}
use Rattle.jcalls.specs.Works.{AreOpsOf, Listed, OpsRefused, PageRefused, flash_by, line_number_at, page_with, sink_with}
use Rattle.jcalls.specs.declared.appending.Written.{Written}
use Rattle.jcalls.specs.declared.how.How.{How}
use Rattle.jcalls.specs.declared.told.Told.{Told}
use Rattle.jcalls.specs.declared.working.Target.{Target}

-- ---- where writing goes on

-- all openings of the image: its blank blocks, and the rests of its begun ones
abbrev pub openings_on : Endian → Flash → List ℕ → List Opening
openings_on e flash image = openings e flash.geometry.block flash.blocks image

-- the flash as one that may pack sees it: so many bytes are held for compressed nodes of the image
abbrev pub flash_packed : Endian → Flash → Bool → List ℕ → FlashAs
flash_packed e flash packs image =
    flash_as packs (length (unpacked_bytes e flash.geometry.block image)) (written_flash e flash)

-- a log that goes on in all openings, of what the image shows through its compression
abbrev pub begun_on : Endian → Flash → List ℕ → StateIn
begun_on e flash image = record {
  log = log_in (openings_on e flash image) (index_through e flash.geometry.block image) [];
  broken = false;
}

-- the steps of operations on what the image shows
abbrev pub device_steps : Endian → Flash → List ℕ → List Op → List Step
device_steps e flash image ops =
    steps_through (page_size flash.page) e flash.geometry.block image ops

-- ---- the image

-- the image with all that goes out for forms, each in its opening
abbrev pub updated_image : Endian → Flash → List ℕ → List (List ℕ) → List ℕ
updated_image e flash image forms =
    let size = flash.geometry.block in
    let row = openings_on e flash image in
    placed_image e size flash.blocks image row forms (all_bytes e size (shares size row forms))

-- These bytes are the image with the nodes of the operations in its openings, or of those before
-- the first one that is declined; and memory did not run out. They show what these operations make
-- of the file system that the image shows through its compression, and a stop at any byte of what
-- went out leaves the first steps, none in part.
pub record IsUpdatedOn (e : Endian) (flash : Flash) (packs : Bool) (image : List ℕ)
    (ops : List Op) (numbers bytes : List ℕ) (row : Written) : Type 0 where
  pub forms : List (List ℕ)
  pub to : StateIn
  pub out : List ℕ
  pub stopped : Option SessionFault
  pub runs : RunsIn (flash_packed e flash packs image) (begun_on e flash image) ops row.accepted
      forms to (sink_with out 0) stopped
  pub bytes_are : bytes ≡ updated_image e flash image forms
  pub survives : PlacedSurvives e flash.geometry.block flash.blocks image
      (openings_on e flash image) (device_steps e flash image (take row.accepted ops)) forms
  pub length_is : row.bytes ≡ length bytes
  pub nodes_are : row.nodes ≡ length to.log.places
  pub stop_is : stop_in row ≡ stop_told (told_number (line_number_at numbers row.accepted)) stopped
  pub memory : row.stop ≢ 7
  pub spare_is : row.spare ≡ 0

-- the image mounts through its compression, and is gone on from
abbrev pub IsGoneOnThrough : Endian → Flash → List ℕ → Type 0
IsGoneOnThrough e flash image = (m : Mount)
    × AnswersThrough e flash.geometry.block image (Ok m) × IsOk (resumes e flash m)

abbrev pub IsUpdated : Endian → Flash → Bool → List ℕ → List Op → List ℕ → List ℕ → Written
    → Type 0
IsUpdated e flash packs image ops numbers bytes row = IsGoneOnThrough e flash image
    × IsUpdatedOn e flash packs image ops numbers bytes row

-- ---- why there is none

-- it does not mount through
abbrev pub ThroughRefused : Endian → ℕ → List ℕ → Told → Type 0
ThroughRefused e size image told =
    (why : ViewFault) × AnswersThrough e size image (Err why) × (told ≡ view_told why)

-- it does, and is not gone on from
abbrev pub StartThroughRefused : Endian → Flash → List ℕ → Told → Type 0
StartThroughRefused e flash image told = (m : Mount) × (why : SessionFault)
    × AnswersThrough e flash.geometry.block image (Ok m) × (resumes e flash m ≡ Err why)
    × (told ≡ session_told 0 why)

abbrev pub DeviceRefused : Endian → Flash → List ℕ → Told → Type 0
DeviceRefused e flash image told = ThroughRefused e flash.geometry.block image told
    ⊎ StartThroughRefused e flash image told

-- ---- of a listing

abbrev pub IsUpdatedBy : Endian → Flash → Bool → List ℕ → Listed → List ℕ → Written → Type 0
IsUpdatedBy e flash packs image l bytes row = (ops : List Op) × (numbers : List ℕ)
    × AreOpsOf e l ops numbers × IsUpdated e flash packs image ops numbers bytes row

abbrev pub UpdateRefusedBy : Endian → Flash → List ℕ → Listed → Told → Type 0
UpdateRefusedBy e flash image l told = OpsRefused l told ⊎ DeviceRefused e flash image told

-- ---- as a caller asks

abbrev pub IsUpdatedAsked : How → List ℕ → Target → ℕ → Listed → List ℕ → Written → Type 0
IsUpdatedAsked how image target pack l bytes row =
    (page : Page) × (page_with target.page ≡ Some page)
    × IsUpdatedBy (asked_order how) (flash_by how.block target.blocks page) (is_asked pack) image l
    bytes row

abbrev pub UpdateRefused : How → List ℕ → Target → Listed → Told → Type 0
UpdateRefused how image target l told = PageRefused target.page told
    ⊎ ((page : Page) × (page_with target.page ≡ Some page)
    × UpdateRefusedBy (asked_order how) (flash_by how.block target.blocks page) image l told)

-- ---- giving it

-- it is at the front of the caller's memory, which is as it was behind it, and the row is told
abbrev pub GivesUpdated : How → List ℕ → Target → ℕ → Listed → List ℕ → List ℕ → Written → Type 0
GivesUpdated how image target pack l old new row = (bytes : List ℕ)
    × IsUpdatedAsked how image target pack l bytes row × (new ≡ bytes ++ drop (length bytes) old)

-- there is no room for it, and the row is told
abbrev pub NeedsForUpdated : How → List ℕ → Target → ℕ → Listed → List ℕ → Written → Type 0
NeedsForUpdated how image target pack l old row = (bytes : List ℕ)
    × IsUpdatedAsked how image target pack l bytes row × (length old < row.bytes)
