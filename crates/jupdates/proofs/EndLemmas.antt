-- What an update comes to whose file did not end well.
use Rattle.std.proofs.Common.{◌≡◌, ◌⊎◌, ℕ, Bool, true, false, List, Option, None, Some, Result, Ok, Err, refl, sym, ap, subst, ◌∙◌, inl, inr}
use Rattle.std.specs.Prelude.{◌&&◌, IsTrue, is_none, slice_get, string_bytes}
use Rattle.jlog.specs.declared.fault.SessionFault.{SessionFault}
use Rattle.jlog.specs.declared.fault.SessionFault.TheVariants as session
use Rattle.jreport.specs.declared.cause.Cause.{Cause}
use Rattle.jreport.specs.declared.cause.Plan.{Plan}
use Rattle.jreport.specs.declared.faults.ProgramFault.TheVariants as program
use Rattle.jreport.specs.declared.reason.Reason.{Reason}
use Rattle.jedge.specs.Acts.{and_closed, closes}
use Rattle.jedge.specs.Calls.{Answers, Event}
use Rattle.jedge.specs.Told.{Told}
use Rattle.jedge.specs.declared.fault.FailedFile.{FailedFile}
use Rattle.jedge.specs.declared.fault.Fault.{Fault}
use Rattle.jedge.specs.declared.fault.Fault.TheVariants as fault
use Rattle.jdevice.specs.Run.{DeviceDone, stops_at_op}
use Rattle.jmakes.specs.Blaming.{HasFailedMaking, IsEndBlamed}
use Rattle.jmakes.specs.Laws.{ComesLate, IsOfWriting}
use Rattle.jmakes.specs.Leaving.{EndsUnnamed}
use Rattle.jmakes.specs.Writing.{Done, EndsAs, Run, WholeLine, blocks_if_known, close_reason, ending_of, ending_of_run, not_written, plan_on, refused_at, stopped_at}
use Rattle.jmakes.specs.declared.wanted.CloseFault.{CloseFault}
use Rattle.jmakes.specs.declared.wanted.CloseFault.TheVariants as close
use Rattle.jmakes.proofs.EndingLemmas.{unnamed_at_fault}
use Rattle.jupdates.specs.Updating.{ends_well, prints_updated, ran_of}

-- ---- the line fails with the output alone

closed_by_output : (failures : ℕ) (text : List ℕ) (events : List Event) (f : Fault) → closes Answers failures text events (Err f) → f ≡ fault.Output
closed_by_output failures text events (fault.File file) is = absurd is
closed_by_output failures text events (fault.NotRead file) is = absurd is
closed_by_output failures text events (fault.NoNodes of others) is = absurd is
closed_by_output failures text events (fault.NoSpace folder) is = absurd is
closed_by_output failures text events (fault.Findings of findings) is = absurd is
closed_by_output failures text events (fault.Refused why) is = absurd is
closed_by_output failures text events fault.Output is = refl
closed_by_output failures text events fault.OutOfMemory is = absurd is

line_by_output : (line : List ℕ) (told : Told) (text : List ℕ) (failures : ℕ) (events : List Event) (f : Fault) (answer : Result Told Fault) (closed : Result Unit Fault)
    → WholeLine line told text answer → closes Answers failures text events closed → Err f ≡ and_closed answer closed → f ≡ fault.Output
line_by_output line told text failures events f (Ok x) (Ok _) says out is = let no : ⊥ = cc in absurd no
line_by_output line told text failures events f (Ok x) (Err g) says out is = let alike : f ≡ g = cc in alike ∙ closed_by_output failures text events g out
line_by_output line told text failures events f (Err g) closed says out is = let alike : f ≡ g = cc in alike ∙ says.0

pub printed_by_output : (bytes : ℕ) (told : Told) (done : Done) (events : List Event) (f : Fault) → prints_updated bytes told done events (Err f) → f ≡ fault.Output
printed_by_output bytes told done events f put = line_by_output _ told put.text put.failures events f put.answer put.closed put.says put.out put.comes_to

-- ---- the file takes no name

unnamed_too : (put none : Bool) (closed : Result Unit CloseFault) → EndsUnnamed none closed → EndsUnnamed (put && none) closed
unnamed_too false none (Ok _) is = refl
unnamed_too true none (Ok _) is = is
unnamed_too put none (Err why) is = tt

pub update_unnamed : (name : List ℕ) (f : Fault) (plan : Plan) (numbers : List ℕ) (run : DeviceDone) (put : Bool) (closed : Result Unit CloseFault)
    → EndsAs name (ending_of plan numbers (ran_of run) closed) (Err f) → EndsUnnamed (ends_well run put) closed
update_unnamed name f plan numbers run put closed is = unnamed_too put (is_none run.stopped) closed (unnamed_at_fault name f plan numbers (ran_of run) closed is)

-- ---- it comes late

err_is : {A : Type 0} {f g : Fault} → ◌≡◌ {A = Result A Fault} (Err f) (Err g) → f ≡ g
err_is is = cc

by_writing : (name : List ℕ) (f : Fault) (events : List Event) (why : SessionFault) (line : Option ℕ) (cause : Cause) → f ≡ fault.Refused (program.Session why line cause) → IsOfWriting why → ComesLate name f events
by_writing name f events why line cause is of = inr (inl (why, line, cause, is, of))

refused_late : (name : List ℕ) (f : Fault) (events : List Event) (plan : Plan) (line : Option ℕ) (why : SessionFault) (blocks : Option ℕ) (closed : Result Unit CloseFault)
    → IsOfWriting why → f ≡ fault.Refused (refused_at plan line why blocks closed) → ComesLate name f events
refused_late name f events plan line why blocks (Ok _) of is = by_writing name f events why line _ is of
refused_late name f events plan line why blocks (Err (close.NotWritten reason)) of is = by_writing name f events session.Sink None _ is tt
refused_late name f events plan line why blocks (Err (close.NotNamed reason)) of is = by_writing name f events session.Sink None _ is tt

stopped_late : (name : List ℕ) (f : Fault) (events : List Event) (plan : Plan) (line : Option ℕ) (why : SessionFault) (blocks : Option ℕ) (closed : Result Unit CloseFault)
    → IsTrue (stops_at_op (Some why)) → f ≡ fault.Refused (stopped_at plan line why blocks closed) → ComesLate name f events
stopped_late name f events plan line (session.Refused why) blocks closed stops is = refused_late name f events plan line (session.Refused why) blocks closed tt is
stopped_late name f events plan line (session.Full needed free) blocks closed stops is = refused_late name f events plan line (session.Full needed free) blocks closed tt is
stopped_late name f events plan line session.Sink blocks closed stops is = let no : ⊥ = cc in absurd no
stopped_late name f events plan line session.OutOfMemory blocks closed stops is = let no : ⊥ = cc in absurd no
stopped_late name f events plan line session.Broken blocks closed stops is = let no : ⊥ = cc in absurd no
stopped_late name f events plan line session.ReadOnly blocks closed stops is = let no : ⊥ = cc in absurd no
stopped_late name f events plan line session.Geometry blocks closed stops is = let no : ⊥ = cc in absurd no

run_late : (name : List ℕ) (f : Fault) (events : List Event) (plan : Plan) (line : Option ℕ) (run : Run) (stopped : Option SessionFault) (closed : Result Unit CloseFault)
    → IsTrue (stops_at_op stopped) → IsEndBlamed closed events → EndsAs name (ending_of_run plan line run stopped closed) (Err f) → ComesLate name f events
run_late name f events plan line run None (Ok _) stops blamed is = let no : ⊥ = cc in absurd no
run_late name f events plan line run None (Err (close.NotWritten reason)) stops blamed is = by_writing name f events session.Sink None _ (err_is is) tt
run_late name f events plan line run None (Err (close.NotNamed reason)) stops blamed is =
    inl (is.0, err_is is.1, is.2, subst (λ (r : Reason). HasFailedMaking r events) (sym is.3) blamed)
run_late name f events plan line run (Some why) closed stops blamed is = stopped_late name f events plan line why (blocks_if_known run.blocks) closed stops (err_is is)

pub update_late : (name : List ℕ) (f : Fault) (events : List Event) (plan : Plan) (numbers : List ℕ) (run : DeviceDone) (closed : Result Unit CloseFault)
    → IsTrue (stops_at_op run.stopped) → IsEndBlamed closed events → EndsAs name (ending_of plan numbers (ran_of run) closed) (Err f) → ComesLate name f events
update_late name f events plan numbers run closed stops blamed is = run_late name f events plan (slice_get numbers run.accepted) (record { accepted = run.accepted; places = run.places; stopped = run.stopped; blocks = Ok None }) run.stopped closed stops blamed is
