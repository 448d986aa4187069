-- What goes out for operations on a base, to a sink of which nothing is known, is a text.
use Rattle.std.proofs.Common.{◌≡◌, ℕ, ◌≤◌, Bool, List, [], ◌++◌, take, Option, None, Some, Result, Ok, Err, refl, ap, subst, ◌∙◌, inl, inr, append_assoc}
use Rattle.std.specs.Io.KnownBytes.{Appends}
use Rattle.std.specs.Prelude.{IfOk, OnErr}
use Rattle.std.specs.declared.alloc.AllocError.{AllocError}
use Rattle.flashbase.specs.Sinks.{SinkChange}
use Rattle.jsteps.specs.Refusals.{steps_of_first}
use Rattle.jsteps.specs.declared.op.Op.{Op}
use Rattle.jsteps.specs.declared.step.Step.{Step}
use Rattle.jlog.specs.Output.{output}
use Rattle.jlog.specs.Running.{IsBegun, IsWritten, Log, written}
use Rattle.jlog.specs.Session.{Applies, BreaksWithin, Flash, IsRun, IsUntouched, LogState, Runs, StopsAt}
use Rattle.jlog.specs.declared.fault.SessionFault.{SessionFault}
use Rattle.jlog.specs.declared.fault.SessionFault.TheVariants as session
use Rattle.jlog.specs.declared.report.Place.{Place}
use Rattle.jbuild.specs.Blocks.{IsFull, TellsRefusedOn}
use Rattle.jbuild.specs.Emitting.{IsEmitted, IsNotRun, front_before}
use Rattle.jbuild.specs.declared.emitting.EmitFault.{EmitFault}
use Rattle.jbuild.specs.declared.emitting.EmitFault.TheVariants as emit
use Rattle.jmakes.specs.Writing.{Emits, NotRun, Ran, Run, sink_of}

appends_then : (a b c : Option (List ℕ)) (x y : List ℕ) → Appends a b x → Appends b c y → Appends a c (x ++ y)
appends_then None b c x y one two = tt
appends_then (Some xs) None c x y one two = absurd one
appends_then (Some xs) (Some ys) None x y one two = absurd two
appends_then (Some xs) (Some ys) (Some zs) x y one two = two ∙ ap (λ (l : List ℕ). l ++ y) one ∙ append_assoc xs x y

-- a sink that had these bytes took a text
abbrev pub after : List ℕ → List ℕ → SinkChange → SinkChange
after start text sink = record { old = Some start; new = Some (start ++ text); before = sink.before; now = sink.now }

-- ---- operations that are accepted

abbrev pub bytes_of_run : Flash → Log → List Op → ℕ → List ℕ
bytes_of_run flash from ops n = output flash.order flash.size from.cursor (written flash.order from.index (steps_of_first flash.page from.index ops n))

run_known : (flash : Flash) (from : Log) (ops : List Op) (n : ℕ) (to : Log) (old new : Option (List ℕ)) (start : List ℕ)
    → IsRun flash from ops n to old new → IsRun flash from ops n to (Some start) (Some (start ++ bytes_of_run flash from ops n))
run_known flash from ops n to old new start run = record {
  planned = run.planned;
  fits = run.fits;
  wrote = record { cursor = run.wrote.cursor; index = run.wrote.index; bytes = refl; places = run.wrote.places };
}

-- ---- the one that stopped them

untouched_known : (from to : Log) (broken : Bool) (sink : SinkChange) (start : List ℕ) → IsUntouched from to broken sink → IsUntouched from to broken (after start [] sink)
untouched_known from to broken sink start is =
    record { whole = is.whole; cursor = is.cursor; index = is.index; bytes = refl; places = is.places; none_failed = is.none_failed }

-- it is refused, or put in part, as text is known
abbrev pub StopsKnown : Flash → LogState → Op → LogState → SinkChange → SessionFault → List ℕ → Type 0
StopsKnown flash from op to sink f start = (text : List ℕ) × Applies {T = Unit {0}} flash from op to (after start text sink) (Err f) × Appends sink.old sink.new text

begun_known : (flash : Flash) (from : Log) (op : Op) (to : LogState) (least : ℕ) (sink : SinkChange) (start : List ℕ) → BreaksWithin flash from op to least sink
    → (text : List ℕ) × BreaksWithin flash from op to least (after start text sink) × Appends sink.old sink.new text
begun_known flash from op to least sink start is = (
  take is.1.1 (output flash.order flash.size from.cursor (written flash.order from.index is.1.0)),
  (is.0, (is.1.0, is.1.1, is.1.2, is.1.3, record { within = is.1.4.within; bytes = refl; places = is.1.4.places })),
  is.1.4.bytes,
)

stop_known : (flash : Flash) (from : LogState) (op : Op) (to : LogState) (sink : SinkChange) (f : SessionFault) (start : List ℕ)
    → Applies {T = Unit {0}} flash from op to sink (Err f) → StopsKnown flash from op to sink f start
stop_known flash from op to sink (session.Refused why) start is = ([], (is.0, is.1, untouched_known from.log to.log to.broken sink start is.2), is.2.bytes)
stop_known flash from op to sink (session.Full needed free) start is = ([], (is.0, is.1, untouched_known from.log to.log to.broken sink start is.2), is.2.bytes)
stop_known flash from op to sink session.Sink start is = let begun = begun_known flash from.log op to 0 sink start is.1 in (begun.0, (is.0, begun.1, is.2), begun.2)
stop_known flash from op to sink session.OutOfMemory start (whole, inl is) = ([], (whole, inl (untouched_known from.log to.log to.broken sink start is)), is.bytes)
stop_known flash from op to sink session.OutOfMemory start (whole, inr is) = let begun = begun_known flash from.log op to 1 sink start is.0 in (begun.0, (whole, inr (begun.1, is.1)), begun.2)
stop_known flash from op to sink session.Broken start is = ([], (is.0, is.1, refl, is.3, is.4), is.2)
stop_known flash from op to sink session.ReadOnly start is = absurd is
stop_known flash from op to sink session.Geometry start is = absurd is

-- ---- a run

abbrev pub RunsKnown : Flash → LogState → List Op → ℕ → LogState → SinkChange → Option SessionFault → List ℕ → Type 0
RunsKnown flash from ops n to sink stopped start = (text : List ℕ) × Runs flash from ops n to (after start text sink) stopped × Appends sink.old sink.new text

runs_known : (flash : Flash) (from : LogState) (ops : List Op) (n : ℕ) (to : LogState) (sink : SinkChange) (stopped : Option SessionFault) (start : List ℕ)
    → Runs flash from ops n to sink stopped → RunsKnown flash from ops n to sink stopped start
runs_known flash from ops n to sink None start is =
    (bytes_of_run flash from.log ops n, (is.0, is.1, run_known flash from.log ops n to.log sink.old sink.new start is.2, is.3), is.2.wrote.bytes)
runs_known flash from ops n to sink (Some f) start is =
    let first : List ℕ = bytes_of_run flash from.log ops n in
    let stop = stop_known flash (record { log = is.mid; broken = from.broken }) is.op to (record sink { old = is.between }) f (start ++ first) is.stop in (
      first ++ stop.0,
      record {
        mid = is.mid;
        between = Some (start ++ first);
        op = is.op;
        run = run_known flash from.log ops n is.mid sink.old is.between start is.run;
        next = is.next;
        stop = subst (λ (all : List ℕ). Applies {T = Unit {0}} flash (record { log = is.mid; broken = from.broken }) is.op to (record { old = Some (start ++ first); new = Some all; before = sink.before; now = sink.now }) (Err f))
            (append_assoc start first stop.0) stop.1;
      },
      appends_then sink.old is.between sink.new first stop.0 is.run.wrote.bytes stop.2,
    )

pub emitted_known : (flash : Flash) (base : List ℕ) (ops : List Op) (n : ℕ) (places : List Place) (stopped : Option SessionFault) (sink : SinkChange) → IsEmitted flash base ops n places stopped sink
    → (text : List ℕ) × IsEmitted flash base ops n places stopped (after [] text sink) × Appends sink.old sink.new text
emitted_known flash base ops n places stopped sink is =
    let front : List ℕ = front_before flash.order flash.size flash.blocks base in
    let runs = runs_known flash _ ops n _ (record sink { old = is.between }) stopped front is.runs in (
      front ++ runs.0,
      record { between = Some front; end = is.end; index = is.index; broken = is.broken; front = refl; runs = runs.1; survives = is.survives },
      appends_then sink.old is.between sink.new front runs.0 is.front runs.2,
    )

pub not_run_known : (flash : Flash) (base : List ℕ) (sink : SinkChange) (why : EmitFault) → IsNotRun flash base sink why
    → (text : List ℕ) × IsNotRun flash base (after [] text sink) why × Appends sink.old sink.new text
not_run_known flash base sink emit.Sink is = (take is.0.0 (front_before flash.order flash.size flash.blocks base), ((is.0.0, refl), is.1), is.0.1)
not_run_known flash base sink emit.OutOfMemory is = (front_before flash.order flash.size flash.blocks base, (refl, is.1), is.0)

-- ---- what is said of a file that was empty

pub ran_emits : (flash : Flash) (base : List ℕ) (ops : List Op) (run : Run) (sink : SinkChange) → sink.before ≡ 0 → IsEmitted flash base ops run.accepted run.places run.stopped sink
    → IfOk run.blocks (TellsRefusedOn flash base ops run.accepted run.stopped) → OnErr run.blocks (IsFull run.stopped)
    → (text : List ℕ) × Appends sink.old sink.new text × Emits flash base ops text sink.now (Ran run)
ran_emits flash base ops run sink none is blocks memory = let known = emitted_known flash base ops run.accepted run.places run.stopped sink is in (
  known.0,
  known.2,
  (subst (λ (n : ℕ). IsEmitted flash base ops run.accepted run.places run.stopped (record { old = Some []; new = Some known.0; before = n; now = sink.now })) none known.1, blocks, memory),
)

pub not_ran_emits : (flash : Flash) (base : List ℕ) (ops : List Op) (why : EmitFault) (sink : SinkChange) → sink.before ≡ 0 → IsNotRun flash base sink why
    → (text : List ℕ) × Appends sink.old sink.new text × Emits flash base ops text sink.now (NotRun why)
not_ran_emits flash base ops why sink none is = let known = not_run_known flash base sink why is in (
  known.0,
  known.2,
  subst (λ (n : ℕ). IsNotRun flash base (record { old = Some []; new = Some known.0; before = n; now = sink.now }) why) none known.1,
)
