-- What a command does that writes an image: the operations of a listing run on a base, and a line
-- tells what they did.
use Rattle.std.specs.Prelude.{◌≡◌, ◌⊎◌, ◌==◌, ◌*◌, ◌++◌, ℕ, Bool, true, false, is_none, IsTrue, IfOk, OnErr, List, [], map, slice_get, take, length, if◌then◌else◌, Option, Some, None, Result, Ok, Err, string_bytes}
use Rattle.std.specs.declared.alloc.AllocError.{AllocError}
use Rattle.flashbase.specs.Sinks.{SinkChange}
use Rattle.jnode.specs.declared.order.Endian.{Endian}
use Rattle.jmount.specs.Mount.{Mount}
use Rattle.jsteps.specs.declared.op.Op.{Op}
use Rattle.jlisting.specs.Broken.{IsBadLine}
use Rattle.jlisting.specs.Listing.{lines_of}
use Rattle.jlisting.specs.declared.fault.BadLine.{BadLine}
use Rattle.jlisting.specs.declared.line.Line.{Line}
use Rattle.jlog.specs.Resuming.{resumes}
use Rattle.jlog.specs.Session.{Flash as LogFlash}
use Rattle.jlog.specs.View.{written_flash}
use Rattle.jlog.specs.declared.fault.SessionFault.{SessionFault}
use Rattle.jlog.specs.declared.fault.SessionFault.TheVariants as session
use Rattle.jlog.specs.declared.report.Place.{Place}
use Rattle.jlog.specs.declared.start.Flash.{Flash}
use Rattle.jbuild.specs.Accepted.{accepted_line}
use Rattle.jbuild.specs.Blocks.{IsFull, TellsRefusedOn}
use Rattle.jbuild.specs.Emitting.{IsEmitted, IsNotRun, session_fault}
use Rattle.jbuild.specs.Operations.{ops_in}
use Rattle.jbuild.specs.declared.emitting.EmitFault.{EmitFault}
use Rattle.jbuild.specs.declared.emitting.EmitFault.TheVariants as emit
use Rattle.jcommand.specs.declared.parsed.Target.{Target}
use Rattle.jreport.specs.Causes.{cause_of}
use Rattle.jreport.specs.Notes.{noted as findings}
use Rattle.jreport.specs.declared.cause.Cause.TheVariants as causes
use Rattle.jreport.specs.declared.cause.Plan.{Plan}
use Rattle.jreport.specs.declared.faults.ProgramFault.{ProgramFault}
use Rattle.jreport.specs.declared.faults.ProgramFault.TheVariants as program
use Rattle.jreport.specs.declared.findings.Found.{Found}
use Rattle.jreport.specs.declared.reason.Reason.{Reason}
use Rattle.jreport.specs.declared.reason.Reason.TheVariants as because
use Rattle.jedge.specs.Acts.{Act, Saying, Then, answers, prints_put}
use Rattle.jedge.specs.Images.{MountsOrRefuses}
use Rattle.jedge.specs.Told.{Told}
use Rattle.jedge.specs.Views.{Viewed}
use Rattle.jedge.specs.declared.fault.FailedFile.{FailedFile}
use Rattle.jedge.specs.declared.fault.Fault.{Fault}
use Rattle.jedge.specs.declared.fault.Fault.TheVariants as fault
use Rattle.jmakes.specs.Making.{FileMade, FileSaying, WantedFile, makes}
use Rattle.jmakes.specs.Notes.{WeakNotes, TakesNotes, base_told, none_told, written_told}
use Rattle.jmakes.specs.declared.wanted.CloseFault.{CloseFault}
use Rattle.jmakes.specs.declared.wanted.CloseFault.TheVariants as close
use Rattle.jmakes.specs.declared.wanted.Filling.{Filling}
use Rattle.jmakes.specs.declared.wanted.Filling.TheVariants as filling

-- ---- what is asked for

-- the order and the flash that are written, the file that is made, and whether weak nodes are noted
pub record ImageWanted : Type 0 where
  pub order : Endian
  pub flash : Flash
  pub file : WantedFile
  pub weak : Bool

abbrev pub flash_of_asked : Target (List ℕ) → Flash
flash_of_asked target =
    record { geometry = target.options.geometry; blocks = target.blocks; page = target.page }

-- with `--pad`, up to the end of the flash
abbrev pub filling_asked : Target (List ℕ) → Option Filling
filling_asked target =
    if target.placing.pad
    then Some (filling.Length (target.blocks * target.options.geometry.block))
    else None

abbrev pub file_asked : Target (List ℕ) → WantedFile
file_asked target = record {
  name = target.output;
  atomic = target.placing.atomic;
  filling = filling_asked target;
}

abbrev pub image_asked : Endian → Target (List ℕ) → ImageWanted
image_asked e target = record {
  order = e;
  flash = flash_of_asked target;
  file = file_asked target;
  weak = target.weak;
}

-- ---- what is judged before a file is made

-- a listing's lines, or the first that means nothing; memory may run out
abbrev pub ReadsListingLines : List ℕ → Result (List Line) Fault → Type 0
ReadsListingLines text (Ok lines) = lines_of text ≡ Ok lines
ReadsListingLines text (Err f) =
    ((bad : BadLine) × (f ≡ fault.Refused (program.Listing bad)) × IsBadLine text bad)
    ⊎ (f ≡ fault.OutOfMemory)

-- operations, and the numbers of the lines that they are from
pub record Numbered : Type 0 where
  pub ops : List Op
  pub numbers : List ℕ

-- those of a listing's lines, with the bytes of the files that they name; memory may run out
abbrev pub HasOps : Endian → (List ℕ → List ℕ) → List Line → Result Numbered Fault → Type 0
HasOps e files lines (Ok of) =
    (of.ops ≡ ops_in e files lines) × (of.numbers ≡ map (λ line. line.number) lines)
HasOps e files lines (Err f) = f ≡ fault.OutOfMemory

-- a flash, and an image on it
abbrev pub plan_on : Flash → List ℕ → Plan
plan_on flash image = record {
  geometry = flash.geometry;
  blocks = flash.blocks;
  page = flash.page;
  length = length image;
}

-- The address where writing goes on behind a mounted image; or why it does not, with the cause, of
-- which no file is any.
abbrev pub IsStartedBehind : Endian → Flash → Mount → Result ℕ Fault → Type 0
IsStartedBehind e flash m (Ok from) = resumes e flash m ≡ Ok from
IsStartedBehind e flash m (Err f) = (why : SessionFault) × (resumes e flash m ≡ Err why)
    × (f ≡ fault.Refused (program.Session why None
    (cause_of (plan_on flash m.image) why because.Other None)))

-- there is memory for what is wanted later: the name of the file, and the line that is printed
abbrev pub HasLaterMemory : Result Unit Fault → Type 0
HasLaterMemory (Ok _) = Unit {0}
HasLaterMemory (Err f) = f ≡ fault.OutOfMemory

-- ---- what goes out to the file

-- what came of a run: so many operations were accepted, their nodes have these places, and this
-- stopped it; so many blocks would hold an operation that was refused for want of room
pub record Run : Type 0 where
  pub accepted : ℕ
  pub places : List Place
  pub stopped : Option SessionFault
  pub blocks : Result (Option ℕ) AllocError

-- operations were run, or none was
pub data Emission : Type 0 where
  Ran : Run → Emission
  NotRun : EmitFault → Emission

abbrev pub all_ran : Emission → Bool
all_ran (Ran run) = is_none run.stopped
all_ran (NotRun why) = false

-- a sink that was empty took a text, and failed so often
abbrev pub sink_of : List ℕ → ℕ → SinkChange
sink_of text failures =
    record { old = Some []; new = Some text; before = 0; now = failures }

-- The base's bytes up to where writing goes on, and what the operations make behind them. Of the
-- blocks nothing is known only where memory ran out for them.
abbrev pub Emits : LogFlash → List ℕ → List Op → FileSaying Emission
Emits flash base ops text failures (Ran run) =
    IsEmitted flash base ops run.accepted run.places run.stopped (sink_of text failures)
    × IfOk run.blocks (TellsRefusedOn flash base ops run.accepted run.stopped)
    × OnErr run.blocks (IsFull run.stopped)
Emits flash base ops text failures (NotRun why) =
    IsNotRun flash base (sink_of text failures) why

-- ---- what it comes to

-- All is done: so many operations, of which the nodes have these places. Or it is refused; or the
-- file did not take its name.
pub data Ending : Type 0 where
  Complete : ℕ → List Place → Ending
  Refuses : ProgramFault → Ending
  Nameless : Reason → Ending

-- why a file failed
abbrev pub close_reason : Result Unit CloseFault → Reason
close_reason (Ok _) = because.Other
close_reason (Err (close.NotWritten reason)) = reason
close_reason (Err (close.NotNamed reason)) = reason

-- the file was not written, for this reason, at the operation of a line if it came to one
abbrev pub not_written : Option ℕ → Reason → ProgramFault
not_written line reason = program.Session session.Sink line (causes.Host reason)

-- what is known of blocks, unless memory ran out for it
abbrev pub blocks_if_known : Result (Option ℕ) AllocError → Option ℕ
blocks_if_known (Ok blocks) = blocks
blocks_if_known (Err _) = None

-- where an operation was refused: that is told if the file has all before it
abbrev pub refused_at : Plan → Option ℕ → SessionFault → Option ℕ → Result Unit CloseFault
    → ProgramFault
refused_at plan line why blocks (Ok _) =
    program.Session why line (cause_of plan why because.Other blocks)
refused_at plan line why blocks (Err (close.NotWritten reason)) = not_written None reason
refused_at plan line why blocks (Err (close.NotNamed reason)) = not_written None reason

-- of a file that failed the operation at which it did is told
abbrev pub stopped_at : Plan → Option ℕ → SessionFault → Option ℕ → Result Unit CloseFault
    → ProgramFault
stopped_at plan line session.Sink blocks closed = not_written line (close_reason closed)
stopped_at plan line (session.Refused refused) blocks closed =
    refused_at plan line (session.Refused refused) blocks closed
stopped_at plan line (session.Full needed free) blocks closed =
    refused_at plan line (session.Full needed free) blocks closed
stopped_at plan line session.ReadOnly blocks closed =
    refused_at plan line session.ReadOnly blocks closed
stopped_at plan line session.OutOfMemory blocks closed =
    refused_at plan line session.OutOfMemory blocks closed
stopped_at plan line session.Broken blocks closed =
    refused_at plan line session.Broken blocks closed
stopped_at plan line session.Geometry blocks closed =
    refused_at plan line session.Geometry blocks closed

-- a run that nothing stopped, by how the file ended
abbrev pub ending_of_all : ℕ → List Place → Result Unit CloseFault → Ending
ending_of_all accepted places (Ok _) = Complete accepted places
ending_of_all accepted places (Err (close.NotWritten reason)) = Refuses (not_written None reason)
ending_of_all accepted places (Err (close.NotNamed reason)) = Nameless reason

abbrev pub ending_of_run : Plan → Option ℕ → Run → Option SessionFault → Result Unit CloseFault
    → Ending
ending_of_run plan line run None closed = ending_of_all run.accepted run.places closed
ending_of_run plan line run (Some why) closed =
    Refuses (stopped_at plan line why (blocks_if_known run.blocks) closed)

-- operations have the numbers of their lines
abbrev pub ending_of : Plan → List ℕ → Emission → Result Unit CloseFault → Ending
ending_of plan numbers (Ran run) closed =
    ending_of_run plan (slice_get numbers run.accepted) run run.stopped closed
ending_of plan numbers (NotRun emit.Sink) closed = Refuses (not_written None (close_reason closed))
ending_of plan numbers (NotRun emit.OutOfMemory) closed =
    Refuses (program.Session session.OutOfMemory None causes.Unknown)

-- so many operations were accepted, and their nodes have these places
pub record Done : Type 0 where
  pub accepted : ℕ
  pub places : List Place

-- the answer, of the file of a name
abbrev pub EndsAs : List ℕ → Ending → Result Done Fault → Type 0
EndsAs name (Complete accepted places) result =
    result ≡ Ok (record { accepted = accepted; places = places })
EndsAs name (Refuses why) result = result ≡ Err (fault.Refused why)
EndsAs name (Nameless reason) result = (file : FailedFile) × (result ≡ Err (fault.File file))
    × (string_bytes file.name ≡ name) × (file.reason ≡ reason)

-- ---- acts

-- how many findings are noted of a base: those of the image that was read
abbrev pub findings_shown : Option Found → ℕ → ℕ
findings_shown None n = n
findings_shown (Some read) n = read.noted

-- how many nodes of extended attributes that image has, of which the base has none
abbrev pub attributes_lost : Option Found → ℕ
attributes_lost None = 0
attributes_lost (Some read) = read.attributes

-- what is told of a base that was read, if it was
abbrev pub told_on : Option Viewed → Mount → Told
told_on None m = none_told
told_on (Some view) m =
    base_told (findings_shown view.found (findings m)) (attributes_lost view.found) view.others

abbrev pub base_image : Option Viewed → List ℕ
base_image None = []
base_image (Some view) = view.image

-- All of this line, and then this answer; or a beginning of it, where the output fails. It takes no
-- memory.
abbrev pub WholeLine : List ℕ → Told → Saying Told
WholeLine line told text (Ok answer) = (text ≡ line) × (answer ≡ told)
WholeLine line told text (Err f) = (f ≡ fault.Output) × ((n : ℕ) × (text ≡ take n line))

-- by whether all of it was put
abbrev pub line_answer : {E : Type 0} → Told → Result Unit E → Result Told Fault
line_answer told (Ok _) = Ok told
line_answer told (Err _) = Err fault.Output

-- the line on what was done from an address on
abbrev pub prints_accepted : ℕ → Told → Done → Act Told
prints_accepted from told done =
    prints_put (WholeLine (accepted_line from done.accepted done.places) told)

-- From an address on behind a mounted image operations go to the file, which takes its name; and
-- then the line on them is printed.
abbrev pub writes_from : ImageWanted → Mount → Numbered → ℕ → Told → Act Told
writes_from wanted m of from told =
    Then (answers HasLaterMemory) (λ _.
    Then (makes wanted.file (Emits (written_flash wanted.order wanted.flash) m.image of.ops)
    all_ran) (λ made.
    Then (answers (EndsAs wanted.file.name
    (ending_of (plan_on wanted.flash m.image) of.numbers made.answer made.closed)))
    (prints_accepted from told)))

-- where writing goes on is judged, and the notes are taken
abbrev pub writes_on : ImageWanted → Told → Mount → Numbered → Act Told
writes_on wanted base m of =
    Then (answers (IsStartedBehind wanted.order wanted.flash m)) (λ from.
    Then (answers (TakesNotes wanted.weak wanted.order wanted.flash m of.ops)) (λ notes.
    writes_from wanted m of from (written_told base notes)))

-- an image is mounted in the order that is written, by its blocks
abbrev pub mounts_in : ImageWanted → List ℕ → Act Mount
mounts_in wanted image =
    answers (MountsOrRefuses wanted.order wanted.flash.geometry.block image)

-- The lines of a listing, with the bytes of the files that they name, are written on a base.
abbrev pub writes_lines : ImageWanted → Option Viewed → (List ℕ → List ℕ) → List Line → Act Told
writes_lines wanted base files lines =
    Then (answers (HasOps wanted.order files lines)) (λ of.
    Then (mounts_in wanted (base_image base)) (λ m.
    writes_on wanted (told_on base m) m of))
