-- The line on what was done.
use Rattle.std.proofs.Common.{◌≡◌, ◌∙◌, ℕ, Bool, List, length, Result, Ok, Err, ap, refl, subst, sym, take}
use Rattle.std.proofs.lemmas.List.{length-map}
use Rattle.jnode.specs.declared.order.Endian.{Endian}
use Rattle.jmount.specs.Mount.{Mount}
use Rattle.jsteps.specs.declared.op.Op.{Op}
use Rattle.jlisting.specs.declared.line.Line.{Line}
use Rattle.jlog.specs.declared.start.Flash.{Flash}
use Rattle.jbuild.specs.Operations.{op_in}
use Rattle.jmakes.specs.Notes.{TakesNotes, WeakNotes}
use Rattle.flashbase.specs.Device.{Puts}
use Rattle.flashbase.specs.Sinks.{SinkChange}
use Rattle.jedge.specs.Acts.{PutsBy}
use Rattle.jedge.specs.Told.{Told}
use Rattle.jreport.specs.declared.cause.Plan.{Plan}
use Rattle.jedge.specs.declared.fault.Fault.{Fault}
use Rattle.jmakes.specs.Writing.{Done, Emission, EndsAs, HasOps, Numbered, WholeLine, ending_of, line_answer}
use Rattle.jmakes.specs.declared.wanted.CloseFault.{CloseFault}

pub line_put : {E : Type 0} (line : List ℕ) (told : Told) (s : SinkChange) (put : Result Unit E) → Puts s.old s.new s.before s.now line put → PutsBy (WholeLine line told) s (line_answer told put)
line_put line told s (Ok _) is = record { text = line; says = (refl, refl); put = is.0; counts = is.1 }
line_put line told s (Err _) is = record { text = take is.0.0 line; says = (refl, (is.0.0, refl)); put = is.0.1; counts = is.1 }

-- what a making comes to, where its words are known by others
pub ended_at : {name other : List ℕ} {plan known : Plan} {numbers read : List ℕ} (answer : Emission) (closed : Result Unit CloseFault) (r : Result Done Fault)
    → other ≡ name → known ≡ plan → read ≡ numbers → EndsAs other (ending_of known read answer closed) r → EndsAs name (ending_of plan numbers answer closed) r
ended_at {name} {other} {plan} {known} {numbers} {read} answer closed r same_name same_plan same_numbers is =
    subst (λ (n : List ℕ). EndsAs n (ending_of plan numbers answer closed) r) same_name
    (subst (λ (p : Plan). EndsAs other (ending_of p numbers answer closed) r) same_plan
    (subst (λ (l : List ℕ). EndsAs other (ending_of known l answer closed) r) same_numbers is))

-- notes that are taken, where their words are known by others
pub takes_at : (asked : Bool) (e : Endian) {flash known : Flash} {m mounted : Mount} {ops read : List Op} (r : Result WeakNotes Fault)
    → known ≡ flash → mounted ≡ m → read ≡ ops → TakesNotes asked e known mounted read r → TakesNotes asked e flash m ops r
takes_at asked e {flash} {known} {m} {mounted} {ops} {read} r same_flash same_mount same_ops is =
    subst (λ (f : Flash). TakesNotes asked e f m ops r) same_flash
    (subst (λ (k : Mount). TakesNotes asked e known k ops r) same_mount
    (subst (λ (o : List Op). TakesNotes asked e known mounted o r) same_ops is))

-- operations and the numbers of their lines are as many
pub same_length : (e : Endian) (files : List ℕ → List ℕ) (lines : List Line) (of : Numbered) → HasOps e files lines (Ok of) → length of.numbers ≡ length of.ops
same_length e files lines of is =
    ap length is.1 ∙ (length-map lines (λ (l : Line). l.number) ∙ sym (ap length is.0 ∙ length-map lines (op_in e files)))
