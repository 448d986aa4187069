-- The image that operations make on an empty flash, in memory.
use Rattle.std.specs.Prelude.{◌≡◌, ℕ, IfOk, OnErr, List, [], slice_get, Option, Some, None, Result, Ok, Err}
use Rattle.flashbase.specs.Sinks.{SinkChange}
use Rattle.jnode.specs.declared.order.Endian.{Endian}
use Rattle.jmount.specs.Mount.{Mount}
use Rattle.jsteps.specs.declared.op.Op.{Op}
use Rattle.jlog.specs.Session.{Flash as LogFlash}
use Rattle.jlog.specs.View.{written_flash}
use Rattle.jlog.specs.declared.fault.SessionFault.{SessionFault}
use Rattle.jlog.specs.declared.fault.SessionFault.TheVariants as session
use Rattle.jlog.specs.declared.start.Flash.{Flash}
use Rattle.jbuild.specs.Blocks.{IsFull, TellsRefusedOn}
use Rattle.jbuild.specs.Emitting.{IsEmitted, IsNotRun}
use Rattle.jreport.specs.Causes.{cause_of}
use Rattle.jreport.specs.declared.cause.Plan.{Plan}
use Rattle.jreport.specs.declared.faults.ProgramFault.TheVariants as program
use Rattle.jreport.specs.declared.reason.Reason.TheVariants as because
use Rattle.jedge.specs.Acts.{Act, Then, answers}
use Rattle.jedge.specs.Images.{MountsOrRefuses}
use Rattle.jedge.specs.declared.fault.Fault.{Fault}
use Rattle.jedge.specs.declared.fault.Fault.TheVariants as fault
use Rattle.jmakes.specs.Writing.{Emission, IsStartedBehind, NotRun, Numbered, Ran, Run, blocks_if_known, plan_on}

-- ---- what goes out

-- a sink in memory that was empty took a text; it failed so often before, and so often until now
abbrev pub memory_of : List ℕ → ℕ → ℕ → SinkChange
memory_of text before now =
    record { old = Some []; new = Some text; before = before; now = now }

-- what went out for operations on a base, as it does to a file
abbrev pub EmitsInMemory : LogFlash → List ℕ → List Op → List ℕ → Emission → Type 0
EmitsInMemory flash base ops text (Ran run) = ((before : ℕ) × (now : ℕ)
    × IsEmitted flash base ops run.accepted run.places run.stopped (memory_of text before now))
    × IfOk run.blocks (TellsRefusedOn flash base ops run.accepted run.stopped)
    × OnErr run.blocks (IsFull run.stopped)
EmitsInMemory flash base ops text (NotRun why) =
    (before : ℕ) × (now : ℕ) × IsNotRun flash base (memory_of text before now) why

-- ---- what it comes to

-- an operation of a line is refused
abbrev pub refused_in_memory : Plan → Option ℕ → SessionFault → Option ℕ → Fault
refused_in_memory plan line why blocks =
    fault.Refused (program.Session why line (cause_of plan why because.Other blocks))

-- where the sink failed, memory ran out
abbrev pub stopped_in_memory : Plan → Option ℕ → SessionFault → Option ℕ → Fault
stopped_in_memory plan line session.Sink blocks = fault.OutOfMemory
stopped_in_memory plan line (session.Refused refused) blocks =
    refused_in_memory plan line (session.Refused refused) blocks
stopped_in_memory plan line (session.Full needed free) blocks =
    refused_in_memory plan line (session.Full needed free) blocks
stopped_in_memory plan line session.ReadOnly blocks =
    refused_in_memory plan line session.ReadOnly blocks
stopped_in_memory plan line session.OutOfMemory blocks =
    refused_in_memory plan line session.OutOfMemory blocks
stopped_in_memory plan line session.Broken blocks =
    refused_in_memory plan line session.Broken blocks
stopped_in_memory plan line session.Geometry blocks =
    refused_in_memory plan line session.Geometry blocks

abbrev pub made_of_run : Plan → Option ℕ → Run → List ℕ → Option SessionFault
    → Result (List ℕ) Fault
made_of_run plan line run text None = Ok text
made_of_run plan line run text (Some why) =
    Err (stopped_in_memory plan line why (blocks_if_known run.blocks))

-- all that went out, where each operation was accepted; the operations have the numbers of their
-- lines
abbrev pub made_in_memory : Plan → List ℕ → List ℕ → Emission → Result (List ℕ) Fault
made_in_memory plan numbers text (Ran run) =
    made_of_run plan (slice_get numbers run.accepted) run text run.stopped
made_in_memory plan numbers text (NotRun why) = Err fault.OutOfMemory

abbrev pub IsMadeInMemory : Endian → Flash → Mount → Numbered → Result (List ℕ) Fault → Type 0
IsMadeInMemory e flash m of result = (text : List ℕ) × (emission : Emission)
    × EmitsInMemory (written_flash e flash) m.image of.ops text emission
    × (result ≡ made_in_memory (plan_on flash m.image) of.numbers text emission)

-- ---- acts

-- where writing goes on behind a mounted image is judged, and operations are run from there
abbrev pub makes_on : Endian → Flash → Mount → Numbered → Act (List ℕ)
makes_on e flash m of = Then (answers (IsStartedBehind e flash m)) (λ from.
    answers (IsMadeInMemory e flash m of))

-- the same behind an empty image
abbrev pub makes_in_memory : Endian → Flash → Numbered → Act (List ℕ)
makes_in_memory e flash of =
    Then (answers (MountsOrRefuses e flash.geometry.block [])) (λ m. makes_on e flash m of)
