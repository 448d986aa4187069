-- What a run of operations in the openings of a device's image did, in memory, and the image with
-- it.
use Rattle.std.specs.Prelude.{◌≡◌, ℕ, Bool, true, false, not, IsTrue, List, [], length, take, Option, Some, None}
use Rattle.flashbase.specs.Sinks.{SinkChange}
use Rattle.jnode.specs.declared.order.Endian.{Endian}
use Rattle.jscan.specs.Pages.{page_size}
use Rattle.jexpand.specs.Expanded.{unpacked_bytes}
use Rattle.jsteps.specs.declared.op.Op.{Op}
use Rattle.jsteps.specs.declared.step.Step.{Step}
use Rattle.jlog.specs.DoneThrough.{steps_through}
use Rattle.jlog.specs.HeadlineThrough.{index_through}
use Rattle.jlog.specs.SessionAs.{FlashAs, flash_as}
use Rattle.jlog.specs.View.{written_flash}
use Rattle.jlog.specs.declared.fault.SessionFault.{SessionFault}
use Rattle.jlog.specs.declared.fault.SessionFault.TheVariants as fault
use Rattle.jlog.specs.declared.report.Place.{Place}
use Rattle.jrests.specs.Shares.{shares}
use Rattle.jrests.specs.declared.opening.Opening.{Opening}
use Rattle.jopenings.specs.After.{output_to_all}
use Rattle.jopenings.specs.Placed.{PlacedSurvives}
use Rattle.jopenings.specs.Stretches.{AreStretches, image_with, stretches_of}
use Rattle.jopenings.specs.declared.placing.Stretch.{Stretch}
use Rattle.jupdate.specs.SessionIn.{StateIn, RunsIn}
use Rattle.jupdate.specs.Writing.{log_in}
use Rattle.jdevice.specs.Taken.{openings_taken}
use Rattle.jdevice.specs.declared.running.DevicePlan.{DevicePlan}
use Rattle.jdevice.specs.declared.running.DeviceRun.{DeviceRun}

-- ---- where it begins

-- the openings that are written
abbrev pub openings_planned : Endian → DevicePlan → List ℕ → List Opening
openings_planned e on image =
    openings_taken on.tail e on.flash.geometry.block on.flash.blocks image

-- The flash as a session sees it, which packs unless nodes go out plain: so many bytes are held for
-- compressed nodes of the image.
abbrev pub device_flash : Endian → DevicePlan → List ℕ → FlashAs
device_flash e on image =
    flash_as (not on.plain) (length (unpacked_bytes e on.flash.geometry.block image))
    (written_flash e on.flash)

-- a log that goes on in those openings, of what the image shows through its compression
abbrev pub device_log : Endian → DevicePlan → List ℕ → StateIn
device_log e on image = record {
  log = log_in (openings_planned e on image) (index_through e on.flash.geometry.block image) [];
  broken = false;
}

-- the steps of operations on what the image shows
abbrev pub steps_on_device : Endian → DevicePlan → List ℕ → List Op → List Step
steps_on_device e on image ops =
    steps_through (page_size on.flash.page) e on.flash.geometry.block image ops

-- ---- what it did

-- So many operations were accepted, and their nodes have these places; this stopped it, if
-- anything did. These bytes went out for them, one after the other, to these stretches of the
-- flash.
pub record DeviceDone : Type 0 where
  pub accepted : ℕ
  pub places : List Place
  pub stopped : Option SessionFault
  pub stretches : List Stretch
  pub bytes : List ℕ

abbrev pub device_done : DeviceRun → DeviceDone
device_done run = record {
  accepted = run.report.accepted;
  places = run.report.places.items;
  stopped = run.report.stopped;
  stretches = run.stretches.items;
  bytes = run.bytes.items;
}

-- it went to its end, or to an operation that is refused or has no room: memory did not run out
abbrev pub stops_at_op : Option SessionFault → Bool
stops_at_op None = true
stops_at_op (Some (fault.Refused why)) = true
stops_at_op (Some (fault.Full needed free)) = true
stops_at_op (Some fault.ReadOnly) = false
stops_at_op (Some fault.Sink) = false
stops_at_op (Some fault.OutOfMemory) = false
stops_at_op (Some fault.Broken) = false
stops_at_op (Some fault.Geometry) = false

-- memory took these bytes, and did not fail
abbrev pub memory_took : List ℕ → SinkChange
memory_took bytes = record { old = Some []; new = Some bytes; before = 0; now = 0 }

-- rule: Building and extending: What a run of operations in the openings of a device's image did.
--   definitions: jdevice.Run.IsDeviceRun, jdevice.Run.device_image
--   code: jdevice::running::run_on_device, jdevice::placing::put_device
-- It accepted so many operations, and the next one stopped it, if there is one. What went out for
-- their nodes lies in stretches of the openings that are taken. There it shows what these
-- operations make of the file system that the image shows through its compression, and a stop at
-- any byte of it leaves the first steps, none in part.
pub record IsDeviceRun (e : Endian) (on : DevicePlan) (image : List ℕ) (ops : List Op)
    (run : DeviceDone) : Type 0 where
  pub forms : List (List ℕ)
  pub to : StateIn
  pub runs : RunsIn (device_flash e on image) (device_log e on image) ops run.accepted forms to
      (memory_took run.bytes) run.stopped
  pub places_are : to.log.places ≡ run.places
  pub stops : IsTrue (stops_at_op run.stopped)
  pub stretches_are : run.stretches ≡ stretches_of e on.flash.geometry.block
      (shares on.flash.geometry.block (openings_planned e on image) forms)
  pub bytes_are : run.bytes ≡ output_to_all e on.flash.geometry.block
      (shares on.flash.geometry.block (openings_planned e on image) forms)
  pub lie : AreStretches on.flash.geometry.block 0 on.flash.blocks run.stretches
  pub survives : PlacedSurvives e on.flash.geometry.block on.flash.blocks image
      (openings_planned e on image) (steps_on_device e on image (take run.accepted ops)) forms

-- the image with it: each byte that is not in those openings is as it was
abbrev pub device_image : DevicePlan → List ℕ → DeviceDone → List ℕ
device_image on image run =
    image_with on.flash.geometry.block on.flash.blocks image run.stretches run.bytes
