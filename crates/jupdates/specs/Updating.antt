-- What `update` does with a mounted image: operations run in its openings, in memory, and the image
-- with what they make goes to a file.
use Rattle.std.specs.Prelude.{◌≡◌, ◌&&◌, ℕ, Bool, true, false, if◌then◌else◌, is_none, List, length, Option, None, Result, Ok, Err}
use Rattle.jnode.specs.declared.order.Endian.{Endian}
use Rattle.jmount.specs.Mount.{Mount}
use Rattle.jsteps.specs.declared.op.Op.{Op}
use Rattle.jdevice.specs.Blank.{blank_left, reserve_on}
use Rattle.jdevice.specs.Line.{updated_line}
use Rattle.jdevice.specs.Run.{DeviceDone, IsDeviceRun, device_image}
use Rattle.jdevice.specs.declared.running.DevicePlan.{DevicePlan}
use Rattle.jedge.specs.Acts.{Act, Then, answers, prints_put}
use Rattle.jedge.specs.Commands.{left_told, shown_told}
use Rattle.jedge.specs.Showing.{IsFrontOf}
use Rattle.jedge.specs.Told.{Told}
use Rattle.jedge.specs.declared.fault.Fault.{Fault}
use Rattle.jedge.specs.declared.fault.Fault.TheVariants as fault
use Rattle.jmakes.specs.Making.{FileMade, FileSaying, makes}
use Rattle.jmakes.specs.Writing.{Done, Emission, EndsAs, HasLaterMemory, IsStartedBehind, Numbered, Ran, Run, WholeLine, ending_of, plan_on}
use Rattle.jupdates.specs.Asked.{DeviceWanted}
use Rattle.jupdates.specs.declared.making.DeviceMade.{DeviceMade}

-- ---- what is judged before a file is made

-- operations run in the openings of an image, in memory, which may run out
abbrev pub RunsOnDevice : Endian → DevicePlan → List ℕ → List Op → Result DeviceDone Fault → Type 0
RunsOnDevice e on image ops (Ok run) = IsDeviceRun e on image ops run
RunsOnDevice e on image ops (Err f) = f ≡ fault.OutOfMemory

-- ---- what goes to the file

-- all of an image; or a beginning of it, where the file failed
abbrev pub PutsImage : List ℕ → FileSaying Bool
PutsImage image text failures true = (text ≡ image) × (failures ≡ 0)
PutsImage image text failures false = IsFrontOf image text × (failures ≡ 1)

-- the file takes its name, if it is to take one, when all of the image was put, and no operation
-- was refused
abbrev pub ends_well : DeviceDone → Bool → Bool
ends_well run put = put && is_none run.stopped

abbrev pub device_made : DeviceMade → FileMade Bool
device_made made = record { answer = made.put; closed = made.closed }

-- ---- what it comes to

-- a run as `append` tells it, but of blocks that would hold what found no room nothing is known
abbrev pub ran_of : DeviceDone → Emission
ran_of run = Ran (record {
  accepted = run.accepted;
  places = run.places;
  stopped = run.stopped;
  blocks = Ok None;
})

-- the line on what was done, of so many bytes
abbrev pub prints_updated : ℕ → Told → Done → Act Told
prints_updated bytes told done = prints_put
    (WholeLine (updated_line done.accepted (length done.places) bytes) told)

-- The image with what a run did goes to the file, which takes its name if no operation was refused,
-- and then the line on it is printed.
abbrev pub writes_device : DeviceWanted → List ℕ → List ℕ → DeviceDone → Told → Act Told
writes_device wanted image numbers run told =
    Then (answers HasLaterMemory) (λ _.
    Then (makes wanted.file (PutsImage (device_image wanted.on image run)) (ends_well run)) (λ made.
    Then (answers (EndsAs wanted.file.name
    (ending_of (plan_on wanted.on.flash image) numbers (ran_of run) made.closed)))
    (prints_updated (length run.bytes) told)))

-- ---- a mounted image

-- What is told where an image is shown: with `notes_left` also that fewer blank blocks are left
-- than Linux keeps in reserve.
abbrev pub updated_told : DeviceWanted → Option ℕ → Mount → DeviceDone → Told
updated_told wanted others m run = if wanted.notes_left
    then left_told others (blank_left wanted.on m.image run) (reserve_on wanted.on) m
    else shown_told others m

-- It is judged whether it is gone on from; operations run in its openings; and it goes to the file.
abbrev pub updates_mounted : Endian → DeviceWanted → Mount → Numbered → Option ℕ → Act Told
updates_mounted e wanted m of others =
    Then (answers (IsStartedBehind e wanted.on.flash m)) (λ _.
    Then (answers (RunsOnDevice e wanted.on m.image of.ops)) (λ run.
    writes_device wanted m.image of.numbers run (updated_told wanted others m run)))
