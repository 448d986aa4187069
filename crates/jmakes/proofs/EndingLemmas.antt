-- What a making comes to that did not end well, and by which call.
use Rattle.std.proofs.Common.{◌≡◌, ◌⊎◌, ℕ, Bool, true, false, List, Option, None, Some, Result, Ok, Err, arith, refl, sym, ap, subst, ◌∙◌, inl, inr}
use Rattle.std.specs.Prelude.{is_none, string_bytes}
use Rattle.flashbase.specs.Device.{next_count}
use Rattle.flashbase.specs.Sinks.{SinkChange}
use Rattle.jsteps.specs.declared.op.Op.{Op}
use Rattle.jlog.specs.Session.{Flash}
use Rattle.jlog.specs.declared.fault.SessionFault.{SessionFault}
use Rattle.jlog.specs.declared.fault.SessionFault.TheVariants as session
use Rattle.jlog.specs.declared.report.Place.{Place}
use Rattle.jbuild.specs.Emitting.{IsEmitted}
use Rattle.jbuild.specs.declared.emitting.EmitFault.TheVariants as emit
use Rattle.jreport.specs.declared.cause.Cause.{Cause}
use Rattle.jreport.specs.declared.cause.Plan.{Plan}
use Rattle.jreport.specs.declared.faults.ProgramFault.{ProgramFault}
use Rattle.jreport.specs.declared.faults.ProgramFault.TheVariants as program
use Rattle.jreport.specs.declared.reason.Reason.{Reason}
use Rattle.jedge.specs.Acts.{Ends, GoesOn}
use Rattle.jedge.specs.Calls.{Event}
use Rattle.jedge.specs.declared.fault.FailedFile.{FailedFile}
use Rattle.jedge.specs.declared.fault.Fault.{Fault}
use Rattle.jedge.specs.declared.fault.Fault.TheVariants as fault
use Rattle.jmakes.specs.Blaming.{HasFailedMaking, HasFailedWriting, IsEndBlamed, IsFileBlamed}
use Rattle.jmakes.specs.Leaving.{EndsUnnamed}
use Rattle.jmakes.specs.Laws.{IsWriteBlamed}
use Rattle.jmakes.specs.Making.{Beside, EndsInPlace, FileMade, FilePlace, FileSaying, InPlace, WantedFile, closes_file, makes}
use Rattle.jmakes.specs.Writing.{Emission, Emits, EndsAs, NotRun, Ran, Run, all_ran, blocks_if_known, ending_of, ending_of_run, not_written, refused_at, sink_of, stopped_at}
use Rattle.jmakes.specs.declared.wanted.CloseFault.{CloseFault}
use Rattle.jmakes.specs.declared.wanted.CloseFault.TheVariants as close
use Rattle.jmakes.specs.declared.wanted.Filling.{Filling}

-- ---- a run that stopped

-- a fault at which writing stops, but that of the sink
abbrev pub IsOfStop : SessionFault → Type 0
IsOfStop (session.Refused refused) = Unit {0}
IsOfStop (session.Full needed free) = Unit {0}
IsOfStop session.Sink = ⊥
IsOfStop session.OutOfMemory = Unit {0}
IsOfStop session.Broken = Unit {0}
IsOfStop session.ReadOnly = ⊥
IsOfStop session.Geometry = ⊥

-- an image that is gone on from is not read only, and its flash is one
no_start : (flash : Flash) (base : List ℕ) (ops : List Op) (n : ℕ) (places : List Place) (sink : SinkChange) → IsEmitted flash base ops n places (Some session.ReadOnly) sink → ⊥
no_start flash base ops n places sink is = is.runs.stop

no_geometry : (flash : Flash) (base : List ℕ) (ops : List Op) (n : ℕ) (places : List Place) (sink : SinkChange) → IsEmitted flash base ops n places (Some session.Geometry) sink → ⊥
no_geometry flash base ops n places sink is = is.runs.stop

sink_failed : (flash : Flash) (base : List ℕ) (ops : List Op) (n : ℕ) (places : List Place) (text : List ℕ) (failures : ℕ) → IsEmitted flash base ops n places (Some session.Sink) (sink_of text failures) → failures ≡ next_count 0
sink_failed flash base ops n places text failures is = is.runs.stop.2

-- ---- how its file ended

one_not_none : {n : ℕ} → n ≡ next_count 0 → n ≡ 0 → ⊥
one_not_none one none = let no : 0 ≡ 1 = sym none ∙ one in omega (arith, no)

abbrev pub IsNotWritten : Result Unit CloseFault → Type 0
IsNotWritten closed = (reason : Reason) × (closed ≡ Err (close.NotWritten reason))

in_place_failed : (name : List ℕ) (failures : ℕ) (text : List ℕ) (events : List Event) (closed : Result Unit CloseFault) → failures ≡ next_count 0 → EndsInPlace name failures text events closed → IsNotWritten closed
in_place_failed name failures text events (Ok _) one is = absurd (one_not_none one is.0)
in_place_failed name failures text events (Err (close.NotWritten reason)) one is = (reason, refl)
in_place_failed name failures text events (Err (close.NotNamed reason)) one is = absurd is

-- a file that failed was not written
closed_failed : (place : FilePlace) (to : Option Filling) (failures : ℕ) (text : List ℕ) (events : List Event) (closed : Result Unit CloseFault) → failures ≡ next_count 0
    → closes_file place to false failures text events (Ok closed) → IsNotWritten closed
closed_failed (InPlace name) to failures text events closed one is = in_place_failed name failures text events closed one is
closed_failed (Beside other target) to failures text events closed one is = in_place_failed other failures text is.first closed one is.ends

-- one that is not wanted any more takes no name
not_nameless : (place : FilePlace) (to : Option Filling) (failures : ℕ) (text : List ℕ) (events : List Event) (reason : Reason) → closes_file place to false failures text events (Ok (Err (close.NotNamed reason))) → ⊥
not_nameless (InPlace name) to failures text events reason is = is
not_nameless (Beside other target) to failures text events reason is = is.ends

-- ---- what it comes to

-- The file of the name is blamed, or a write is; or writing stopped.
abbrev pub EndsBadly : List ℕ → Fault → List Event → Type 0
EndsBadly name f events = IsFileBlamed name f events
    ⊎ (IsWriteBlamed f events ⊎ ((why : SessionFault) × (line : Option ℕ) × (cause : Cause) × (f ≡ fault.Refused (program.Session why line cause)) × IsOfStop why))

err_is : {A : Type 0} {f g : Fault} → ◌≡◌ {A = Result A Fault} (Err f) (Err g) → f ≡ g
err_is is = cc

by_write : (name : List ℕ) (f : Fault) (events : List Event) (line : Option ℕ) (reason : Reason) → f ≡ fault.Refused (not_written line reason) → HasFailedWriting reason events → EndsBadly name f events
by_write name f events line reason is failed = inr (inl (line, reason, is, failed))

by_stop : (name : List ℕ) (f : Fault) (events : List Event) (why : SessionFault) (line : Option ℕ) (cause : Cause) → f ≡ fault.Refused (program.Session why line cause) → IsOfStop why → EndsBadly name f events
by_stop name f events why line cause is stop = inr (inr (why, line, cause, is, stop))

refused_badly : (name : List ℕ) (f : Fault) (events : List Event) (plan : Plan) (line : Option ℕ) (why : SessionFault) (blocks : Option ℕ) (place : FilePlace) (to : Option Filling) (failures : ℕ) (text : List ℕ) (after : List Event) (closed : Result Unit CloseFault)
    → IsOfStop why → closes_file place to false failures text after (Ok closed) → IsEndBlamed closed events → f ≡ fault.Refused (refused_at plan line why blocks closed) → EndsBadly name f events
refused_badly name f events plan line why blocks place to failures text after (Ok _) stop ends blamed is = by_stop name f events why line _ is stop
refused_badly name f events plan line why blocks place to failures text after (Err (close.NotWritten reason)) stop ends blamed is = by_write name f events None reason is blamed
refused_badly name f events plan line why blocks place to failures text after (Err (close.NotNamed reason)) stop ends blamed is = absurd (not_nameless place to failures text after reason ends)

-- a write failed at an operation, if the sink did
failed_badly : (name : List ℕ) (f : Fault) (events : List Event) (plan : Plan) (line : Option ℕ) (blocks : Option ℕ) (closed : Result Unit CloseFault)
    → IsNotWritten closed → IsEndBlamed closed events → f ≡ fault.Refused (stopped_at plan line session.Sink blocks closed) → EndsBadly name f events
failed_badly name f events plan line blocks closed not blamed is =
    by_write name f events line not.0
    (subst (λ (c : Result Unit CloseFault). f ≡ fault.Refused (stopped_at plan line session.Sink blocks c)) not.1 is)
    (subst (λ (c : Result Unit CloseFault). IsEndBlamed c events) not.1 blamed)

stopped_badly : (name : List ℕ) (f : Fault) (events : List Event) (flash : Flash) (base : List ℕ) (ops : List Op) (n : ℕ) (places : List Place) (plan : Plan) (line : Option ℕ) (why : SessionFault) (blocks : Option ℕ)
    (place : FilePlace) (to : Option Filling) (failures : ℕ) (text : List ℕ) (after : List Event) (closed : Result Unit CloseFault)
    → IsEmitted flash base ops n places (Some why) (sink_of text failures) → closes_file place to false failures text after (Ok closed) → IsEndBlamed closed events
    → f ≡ fault.Refused (stopped_at plan line why blocks closed) → EndsBadly name f events
stopped_badly name f events flash base ops n places plan line session.Sink blocks place to failures text after closed put ends blamed is =
    failed_badly name f events plan line blocks closed (closed_failed place to failures text after closed (sink_failed flash base ops n places text failures put) ends) blamed is
stopped_badly name f events flash base ops n places plan line (session.Refused why) blocks place to failures text after closed put ends blamed is = refused_badly name f events plan line (session.Refused why) blocks place to failures text after closed tt ends blamed is
stopped_badly name f events flash base ops n places plan line (session.Full needed free) blocks place to failures text after closed put ends blamed is = refused_badly name f events plan line (session.Full needed free) blocks place to failures text after closed tt ends blamed is
stopped_badly name f events flash base ops n places plan line session.OutOfMemory blocks place to failures text after closed put ends blamed is = refused_badly name f events plan line session.OutOfMemory blocks place to failures text after closed tt ends blamed is
stopped_badly name f events flash base ops n places plan line session.Broken blocks place to failures text after closed put ends blamed is = refused_badly name f events plan line session.Broken blocks place to failures text after closed tt ends blamed is
stopped_badly name f events flash base ops n places plan line session.ReadOnly blocks place to failures text after closed put ends blamed is = absurd (no_start flash base ops n places (sink_of text failures) put)
stopped_badly name f events flash base ops n places plan line session.Geometry blocks place to failures text after closed put ends blamed is = absurd (no_geometry flash base ops n places (sink_of text failures) put)

ran_badly : (name : List ℕ) (f : Fault) (events : List Event) (flash : Flash) (base : List ℕ) (ops : List Op) (plan : Plan) (line : Option ℕ) (run : Run) (stopped : Option SessionFault)
    (place : FilePlace) (to : Option Filling) (failures : ℕ) (text : List ℕ) (after : List Event) (closed : Result Unit CloseFault)
    → IsEmitted flash base ops run.accepted run.places stopped (sink_of text failures) → closes_file place to (is_none stopped) failures text after (Ok closed) → IsEndBlamed closed events
    → EndsAs name (ending_of_run plan line run stopped closed) (Err f) → EndsBadly name f events
ran_badly name f events flash base ops plan line run None place to failures text after (Ok _) put ends blamed is = let no : ⊥ = cc in absurd no
ran_badly name f events flash base ops plan line run None place to failures text after (Err (close.NotWritten reason)) put ends blamed is = by_write name f events None reason (err_is is) blamed
ran_badly name f events flash base ops plan line run None place to failures text after (Err (close.NotNamed reason)) put ends blamed is =
    inl (is.0, err_is is.1, is.2, subst (λ (r : Reason). HasFailedMaking r events) (sym is.3) blamed)
ran_badly name f events flash base ops plan line run (Some why) place to failures text after closed put ends blamed is =
    stopped_badly name f events flash base ops run.accepted run.places plan line why (blocks_if_known run.blocks) place to failures text after closed put ends blamed (err_is is)

-- by the answer, and by how the file ended
ends_badly_at : (name : List ℕ) (f : Fault) (events : List Event) (flash : Flash) (base : List ℕ) (ops : List Op) (plan : Plan) (numbers : List ℕ) (answer : Emission)
    (place : FilePlace) (to : Option Filling) (failures : ℕ) (text : List ℕ) (after : List Event) (closed : Result Unit CloseFault)
    → Emits flash base ops text failures answer → closes_file place to (all_ran answer) failures text after (Ok closed) → IsEndBlamed closed events
    → EndsAs name (ending_of plan numbers answer closed) (Err f) → EndsBadly name f events
ends_badly_at name f events flash base ops plan numbers (Ran run) place to failures text after closed put ends blamed is =
    ran_badly name f events flash base ops plan _ run run.stopped place to failures text after closed put.0 ends blamed is
ends_badly_at name f events flash base ops plan numbers (NotRun emit.Sink) place to failures text after closed put ends blamed is =
    failed_badly name f events plan None None closed (closed_failed place to failures text after closed put.1 ends) blamed (err_is is)
ends_badly_at name f events flash base ops plan numbers (NotRun emit.OutOfMemory) place to failures text after closed put ends blamed is =
    by_stop name f events session.OutOfMemory None _ (err_is is) tt

-- the same of a file that was made by such events
pub ends_badly : (file : WantedFile) (f : Fault) (events more : List Event) (flash : Flash) (base : List ℕ) (ops : List Op) (plan : Plan) (numbers : List ℕ) (made : FileMade Emission)
    → makes file (Emits flash base ops) all_ran events (Ok made) → IsEndBlamed made.closed more
    → EndsAs file.name (ending_of plan numbers made.answer made.closed) (Err f) → EndsBadly file.name f more
ends_badly file f events others flash base ops plan numbers made (Ends g did is) blamed ends = let no : ⊥ = cc in absurd no
ends_badly file f events others flash base ops plan numbers made (GoesOn place before after did more is) blamed ends =
    let same : made ≡ more.made = (let out = more.is in cc) in
    let closed = subst (λ (m : FileMade Emission). IsEndBlamed m.closed others) same blamed in
    let ended = subst (λ (m : FileMade Emission). EndsAs file.name (ending_of plan numbers m.answer m.closed) (Err f)) same ends in
    ends_badly_at file.name f others flash base ops plan numbers more.made.answer place file.filling more.failures more.text after more.made.closed more.puts more.ends closed ended

-- ---- no file took its name

run_unnamed : (name : List ℕ) (f : Fault) (plan : Plan) (line : Option ℕ) (run : Run) (stopped : Option SessionFault) (closed : Result Unit CloseFault)
    → EndsAs name (ending_of_run plan line run stopped closed) (Err f) → EndsUnnamed (is_none stopped) closed
run_unnamed name f plan line run None (Ok _) is = let no : ⊥ = cc in absurd no
run_unnamed name f plan line run (Some why) (Ok _) is = refl
run_unnamed name f plan line run stopped (Err why) is = tt

not_run_unnamed : (closed : Result Unit CloseFault) → EndsUnnamed false closed
not_run_unnamed (Ok _) = refl
not_run_unnamed (Err why) = tt

pub unnamed_at_fault : (name : List ℕ) (f : Fault) (plan : Plan) (numbers : List ℕ) (answer : Emission) (closed : Result Unit CloseFault)
    → EndsAs name (ending_of plan numbers answer closed) (Err f) → EndsUnnamed (all_ran answer) closed
unnamed_at_fault name f plan numbers (Ran run) closed is = run_unnamed name f plan _ run run.stopped closed is
unnamed_at_fault name f plan numbers (NotRun why) closed is = not_run_unnamed closed
