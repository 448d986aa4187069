-- What is true of the acts that write images.
use Rattle.std.specs.Prelude.{◌≡◌, ◌⊎◌, ℕ, true, List, Option, Err}
use Rattle.jlog.specs.declared.fault.SessionFault.{SessionFault}
use Rattle.jlog.specs.declared.fault.SessionFault.TheVariants as session
use Rattle.jreport.specs.declared.cause.Cause.{Cause}
use Rattle.jreport.specs.declared.faults.ProgramFault.TheVariants as program
use Rattle.jreport.specs.declared.reason.Reason.{Reason}
use Rattle.jedge.specs.Acts.{Act}
use Rattle.jedge.specs.Calls.{Event}
use Rattle.jedge.specs.Laws.{BlamesEvent, LooksOnly}
use Rattle.jedge.specs.Told.{Told}
use Rattle.jedge.specs.declared.fault.Fault.{Fault}
use Rattle.jedge.specs.declared.fault.Fault.TheVariants as fault
use Rattle.jmakes.specs.Blaming.{HasFailedWriting, IsFileBlamed}
use Rattle.jmakes.specs.Commands.{ImageCommand, file_by, image_act}
use Rattle.jmakes.specs.Leaving.{LeavesFiles}
use Rattle.jmakes.specs.Making.{WantedFile}
use Rattle.jmakes.specs.Writing.{not_written}

-- ---- with `--atomic`, a fault leaves the files as they were

-- any fault but that of the output, which comes when the file has its name
abbrev pub LeavesAtFault : WantedFile → Act Told → Type 0
LeavesAtFault file act = (events : List Event) (f : Fault) → file.atomic ≡ true
    → (f ≡ fault.Output → ⊥) → act events (Err f) → LeavesFiles events

abbrev pub AtomicLeavesFiles : Type 0
AtomicLeavesFiles =
    (command : ImageCommand) → LeavesAtFault (file_by command) (image_act command)

-- ---- all is judged before a file is made

-- a fault of writing an image that goes on
abbrev pub IsOfWriting : SessionFault → Type 0
IsOfWriting (session.Refused refused) = Unit {0}
IsOfWriting (session.Full needed free) = Unit {0}
IsOfWriting session.Sink = Unit {0}
IsOfWriting session.OutOfMemory = Unit {0}
IsOfWriting session.Broken = Unit {0}
IsOfWriting session.ReadOnly = ⊥
IsOfWriting session.Geometry = ⊥

-- A fault that may come when a file of this name was made, or is: a call that makes it failed,
-- writing stopped, the output failed, or memory ran out.
abbrev pub ComesLate : List ℕ → Fault → List Event → Type 0
ComesLate name f events = IsFileBlamed name f events
    ⊎ (((why : SessionFault) × (line : Option ℕ) × (cause : Cause)
    × (f ≡ fault.Refused (program.Session why line cause)) × IsOfWriting why)
    ⊎ ((f ≡ fault.Output) ⊎ (f ≡ fault.OutOfMemory)))

-- at any other, nothing was made, and no file was changed
abbrev pub JudgesBeforeMaking : WantedFile → Act Told → Type 0
JudgesBeforeMaking file act = (events : List Event) (f : Fault) → act events (Err f)
    → LooksOnly events ⊎ ComesLate file.name f events

abbrev pub JudgedBeforeMade : Type 0
JudgedBeforeMade =
    (command : ImageCommand) → JudgesBeforeMaking (file_by command) (image_act command)

-- ---- a fault is an event

-- a write failed, for the reason that is told
abbrev pub IsWriteBlamed : Fault → List Event → Type 0
IsWriteBlamed f events = (line : Option ℕ) × (reason : Reason)
    × (f ≡ fault.Refused (not_written line reason)) × HasFailedWriting reason events

-- A fault that names a file comes with a call on that file that failed, for the same reason: one
-- that was read, or the one that is made. That of a sink comes with a write that failed, and that
-- of the output with a print.
abbrev pub BlamesMaking : WantedFile → Act Told → Type 0
BlamesMaking file act = (events : List Event) (f : Fault) → act events (Err f)
    → BlamesEvent f events ⊎ (IsFileBlamed file.name f events ⊎ IsWriteBlamed f events)

abbrev pub BlamesMade : Type 0
BlamesMade = (command : ImageCommand) → BlamesMaking (file_by command) (image_act command)
