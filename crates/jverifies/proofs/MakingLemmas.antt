-- What operations make in memory.
use Rattle.std.proofs.Common.{◌≡◌, ◌∙◌, ℕ, List, [], Option, None, Some, Result, Ok, Err, ap, refl, subst, sym}
use Rattle.std.specs.Prelude.{IfOk, IsOk, OnErr}
use Rattle.jnode.specs.declared.order.Endian.{Endian}
use Rattle.jmount.specs.Mount.{Mount}
use Rattle.jsteps.specs.declared.op.Op.{Op}
use Rattle.jlog.specs.Resuming.{resumes_by}
use Rattle.jlog.specs.Session.{Flash as LogFlash}
use Rattle.jlog.specs.View.{written_flash}
use Rattle.jlog.specs.declared.fault.SessionFault.{SessionFault}
use Rattle.jlog.specs.declared.fault.SessionFault.TheVariants as session
use Rattle.jlog.specs.declared.start.Flash.{Flash}
use Rattle.jbuild.specs.Blocks.{IsFull, TellsRefusedOn}
use Rattle.jbuild.specs.Emitting.{IsEmitted, IsNotRun}
use Rattle.jbuild.specs.Operations.{ops_in}
use Rattle.jbuild.specs.declared.emitting.EmitFault.{EmitFault}
use Rattle.jlisting.specs.declared.line.Line.{Line}
use Rattle.jtree.specs.Making.{Files}
use Rattle.jtree.specs.Written.{IsPutOut}
use Rattle.jreport.specs.declared.cause.Plan.{Plan}
use Rattle.jedge.specs.Calls.{Event}
use Rattle.jedge.specs.Laws.{BlamesEvent, BlamesFailed}
use Rattle.jedge.specs.Acts.{answers}
use Rattle.jedge.specs.declared.fault.Fault.{Fault}
use Rattle.jedge.specs.declared.fault.Fault.TheVariants as fault
use Rattle.jedge.proofs.BlamingLemmas.{mounts_blame, then_blames}
use Rattle.jreads.proofs.KeptLemmas.{both_done}
use Rattle.jmakes.specs.Writing.{Emission, IsStartedBehind, NotRun, Numbered, Ran, Run, blocks_if_known, plan_on}
use Rattle.jmakes.proofs.LawLemmas.{start_of_bytes}
use Rattle.jverifies.specs.Making.{EmitsInMemory, IsMadeInMemory, made_in_memory, made_of_run, makes_in_memory, memory_of, stopped_in_memory}

-- ---- what goes out to a sink that had nothing

pub emitted_in_memory : (flash : LogFlash) (base : List ℕ) (ops : List Op) (run : Run) (had text : List ℕ) (before now : ℕ) → had ≡ []
    → IsEmitted flash base ops run.accepted run.places run.stopped (record { old = Some had; new = Some text; before = before; now = now })
    → IfOk run.blocks (TellsRefusedOn flash base ops run.accepted run.stopped) → OnErr run.blocks (IsFull run.stopped) → EmitsInMemory flash base ops text (Ran run)
emitted_in_memory flash base ops run had text before now none emitted blocks memory = (
  (
    before,
    now,
    subst (λ (l : List ℕ). IsEmitted flash base ops run.accepted run.places run.stopped (record { old = Some l; new = Some text; before = before; now = now })) none emitted,
  ),
  blocks,
  memory,
)

pub not_run_in_memory : (flash : LogFlash) (base : List ℕ) (ops : List Op) (why : EmitFault) (had text : List ℕ) (before now : ℕ) → had ≡ []
    → IsNotRun flash base (record { old = Some had; new = Some text; before = before; now = now }) why → EmitsInMemory flash base ops text (NotRun why)
not_run_in_memory flash base ops why had text before now none is =
    (before, now, subst (λ (l : List ℕ). IsNotRun flash base (record { old = Some l; new = Some text; before = before; now = now }) why) none is)

-- ---- what it comes to, where its words are known by others

pub made_at : (e : Endian) {flash known : Flash} {m mounted : Mount} {ops read : List Op} {numbers these : List ℕ} {plan : Plan} (text : List ℕ) (emission : Emission) (r : Result (List ℕ) Fault)
    → known ≡ flash → mounted ≡ m → read ≡ ops → these ≡ numbers → plan ≡ plan_on known mounted.image
    → EmitsInMemory (written_flash e known) mounted.image read text emission → r ≡ made_in_memory plan these text emission
    → IsMadeInMemory e flash m (record { ops = ops; numbers = numbers }) r
made_at e {flash} {known} {m} {mounted} {ops} {read} {numbers} {these} {plan} text emission r same_flash same_mount same_ops same_numbers same_plan emits is =
    let planned : plan ≡ plan_on flash m.image = same_plan ∙ ap (λ (f : Flash). plan_on f mounted.image) same_flash ∙ ap (λ (k : Mount). plan_on flash k.image) same_mount in (
      text,
      emission,
      subst (λ (f : Flash). EmitsInMemory (written_flash e f) m.image ops text emission) same_flash
          (subst (λ (k : Mount). EmitsInMemory (written_flash e known) k.image ops text emission) same_mount
          (subst (λ (o : List Op). EmitsInMemory (written_flash e known) mounted.image o text emission) same_ops emits)),
      is ∙ ap (λ (p : Plan). made_in_memory p these text emission) planned ∙ ap (λ (l : List ℕ). made_in_memory (plan_on flash m.image) l text emission) same_numbers,
    )

-- ---- all of them ran

-- where a run comes to bytes, nothing stopped it, and they are what went out
record IsAllRun (flash : LogFlash) (base : List ℕ) (ops : List Op) (image : List ℕ) (run : Run) : Type 0 where
  before : ℕ
  now : ℕ
  emitted : IsEmitted flash base ops run.accepted run.places None (memory_of image before now)

no_fault : {A F : Type 0} {x : A} {f : F} → ◌≡◌ {A = Result A F} (Ok x) (Err f) → ⊥
no_fault is = cc

all_run_by : (flash : LogFlash) (base : List ℕ) (ops : List Op) (plan : Plan) (line : Option ℕ) (run : Run) (text image : List ℕ) (before now : ℕ) (stopped : Option SessionFault)
    → IsEmitted flash base ops run.accepted run.places stopped (memory_of text before now) → Ok image ≡ made_of_run plan line run text stopped → IsAllRun flash base ops image run
all_run_by flash base ops plan line run text image before now (Some why) emitted is = absurd (no_fault is)
all_run_by flash base ops plan line run text image before now None emitted is = let same : text ≡ image = cc in record {
  before = before;
  now = now;
  emitted = subst (λ (l : List ℕ). IsEmitted flash base ops run.accepted run.places None (memory_of l before now)) same emitted;
}

all_run : (flash : LogFlash) (base : List ℕ) (ops : List Op) (plan : Plan) (numbers text image : List ℕ) (emission : Emission) → EmitsInMemory flash base ops text emission
    → Ok image ≡ made_in_memory plan numbers text emission → (run : Run) × IsAllRun flash base ops image run
all_run flash base ops plan numbers text image (Ran run) emits is = (run, all_run_by flash base ops plan _ run text image emits.0.0 emits.0.1 run.stopped emits.0.2 is)
all_run flash base ops plan numbers text image (NotRun why) emits is = absurd (no_fault is)

resumed : (r : Result ℕ SessionFault) (n : ℕ) → r ≡ Ok n → IsOk r
resumed (Ok m) n is = refl
resumed (Err why) n is = let no : ⊥ = cc in absurd no

-- what is made in memory of lines was put out on the empty image
pub made_is_put : (e : Endian) (flash : Flash) (files : Files) (lines : List Line) (of : Numbered) (events : List Event) (image : List ℕ) → of.ops ≡ ops_in e files lines
    → makes_in_memory e flash of events (Ok image) → IsPutOut flash.page e flash.geometry.block flash.blocks files lines image
made_is_put e flash files lines of events image same did =
    let mounts = both_done did in
    let starts = both_done mounts.two in
    let m : Mount = mounts.x in
    let made = starts.two.1 in
    let run = all_run (written_flash e flash) m.image of.ops (plan_on flash m.image) of.numbers made.0 image made.1 made.2 made.3 in
    let all = run.1 in record {
      mount = m;
      accepted = run.0.accepted;
      places = run.0.places;
      before = all.before;
      now = all.now;
      mounts = mounts.one.1;
      resumes = resumed _ starts.x starts.one.1;
      emitted = subst (λ (l : List Op). IsEmitted (written_flash e flash) m.image l run.0.accepted run.0.places None (memory_of image all.before all.now)) same all.emitted;
    }

-- ---- a fault of it names no file

stop_blames : (plan : Plan) (line : Option ℕ) (why : SessionFault) (blocks : Option ℕ) (events : List Event) → BlamesEvent (stopped_in_memory plan line why blocks) events
stop_blames plan line session.Sink blocks events = tt
stop_blames plan line (session.Refused refused) blocks events = tt
stop_blames plan line (session.Full needed free) blocks events = tt
stop_blames plan line session.ReadOnly blocks events = tt
stop_blames plan line session.OutOfMemory blocks events = tt
stop_blames plan line session.Broken blocks events = tt
stop_blames plan line session.Geometry blocks events = tt

run_blames : (plan : Plan) (line : Option ℕ) (run : Run) (text : List ℕ) (stopped : Option SessionFault) (events : List Event) (f : Fault) → Err f ≡ made_of_run plan line run text stopped → BlamesEvent f events
run_blames plan line run text None events f is = let no : ⊥ = cc in absurd no
run_blames plan line run text (Some why) events f is =
    let alike : f ≡ stopped_in_memory plan line why (blocks_if_known run.blocks) = cc in
    subst (λ (g : Fault). BlamesEvent g events) (sym alike) (stop_blames plan line why (blocks_if_known run.blocks) events)

emission_blames : (plan : Plan) (numbers text : List ℕ) (emission : Emission) (events : List Event) (f : Fault) → Err f ≡ made_in_memory plan numbers text emission → BlamesEvent f events
emission_blames plan numbers text (Ran run) events f is = run_blames plan _ run text run.stopped events f is
emission_blames plan numbers text (NotRun why) events f is =
    let alike : f ≡ fault.OutOfMemory = cc in
    subst (λ (g : Fault). BlamesEvent g events) (sym alike) tt

start_blames : (e : Endian) (flash : Flash) (m : Mount) → BlamesFailed (answers (IsStartedBehind e flash m))
start_blames e flash m events f is = start_of_bytes e flash m events f is.1

run_in_memory_blames : (e : Endian) (flash : Flash) (m : Mount) (of : Numbered) → BlamesFailed (answers (IsMadeInMemory e flash m of))
run_in_memory_blames e flash m of events f is = emission_blames (plan_on flash m.image) of.numbers is.1.0 is.1.1 events f is.1.3

pub in_memory_blames : (e : Endian) (flash : Flash) (of : Numbered) → BlamesFailed (makes_in_memory e flash of)
in_memory_blames e flash of = then_blames _ _ (mounts_blame e flash.geometry.block []) (λ (m : Mount).
    then_blames _ _ (start_blames e flash m) (λ (from : ℕ). run_in_memory_blames e flash m of))
