-- What a session promises, by the parts of its flash, its states and its sink.
use Rattle.std.proofs.Common.{◌≡◌, ℕ, Bool, List, [], Option, Some, Result, Err}
use Rattle.std.specs.Prelude.{slice_get}
use Rattle.flashbase.specs.Sinks.{SinkChange}
use Rattle.jnode.specs.declared.order.Endian.{Endian}
use Rattle.jsteps.specs.Nodes.{Indexed}
use Rattle.jsteps.specs.declared.op.Op.{Op}
use Rattle.jsteps.specs.declared.step.Step.{Step}
use Rattle.jlog.specs.Running.{log_at, IsWritten, IsBegun, Writes}
use Rattle.jlog.specs.Session.{Flash, LogState, IsUntouched, BreaksWithin, Applies, IsRun, StopsAt, Runs}
use Rattle.jlog.specs.declared.fault.SessionFault.{SessionFault}
use Rattle.jlog.specs.declared.report.Place.{Place}
use Rattle.jlog.specs.declared.writing.Stop.{Stop}

abbrev pub flash_by : ℕ → Endian → ℕ → ℕ → Flash
flash_by page e size blocks = record { order = e; size = size; blocks = blocks; page = page }

abbrev pub state_by : ℕ → Indexed → Bool → List Place → LogState
state_by from x broken places = record { log = log_at from x places; broken = broken }

abbrev pub change_by : Option (List ℕ) → Option (List ℕ) → ℕ → ℕ → SinkChange
change_by old new failures now = record { old = old; new = new; before = failures; now = now }

abbrev pub WrittenBy : Endian → ℕ → ℕ → Indexed → List Step → ℕ → Indexed → Option (List ℕ) → Option (List ℕ) → List Place → List Place → Type 0
WrittenBy e size from x steps end y old new before after = IsWritten e size (log_at from x before) steps (log_at end y after) old new

abbrev pub BegunBy : Endian → ℕ → ℕ → Indexed → List Step → ℕ → Option (List ℕ) → Option (List ℕ) → List Place → List Place → Type 0
BegunBy e size from x steps t old new before after = IsBegun e size (log_at from x before) steps t after old new

abbrev pub WritesBy : Endian → ℕ → ℕ → Indexed → List Step → Indexed → Option (List ℕ) → Option (List ℕ) → ℕ → ℕ → List Place → List Place → Result ℕ Stop → Type 0
WritesBy e size from x steps y old new failures now before after r = Writes e size (log_at from x before) steps y after (change_by old new failures now) r

abbrev pub UntouchedBy : ℕ → Indexed → ℕ → Indexed → Bool → Option (List ℕ) → Option (List ℕ) → ℕ → ℕ → List Place → List Place → Type 0
UntouchedBy from x end y is old new failures now before after = IsUntouched (log_at from x before) (log_at end y after) is (change_by old new failures now)

abbrev pub AppliesBy : {T : Type 0} → ℕ → Endian → ℕ → ℕ → ℕ → Indexed → Op → Bool → ℕ → Indexed → Bool → Option (List ℕ) → Option (List ℕ) → ℕ → ℕ → List Place → List Place → Result T SessionFault → Type 0
AppliesBy page e size blocks from x o was end y is old new failures now before after r =
    Applies (flash_by page e size blocks) (state_by from x was before) o (state_by end y is after) (change_by old new failures now) r

abbrev pub BreaksBy : ℕ → Endian → ℕ → ℕ → ℕ → Indexed → Op → Bool → ℕ → Option (List ℕ) → Option (List ℕ) → List Place → List Place → Type 0
BreaksBy page e size blocks from x o is least old new before after =
    BreaksWithin (flash_by page e size blocks) (log_at from x before) o (state_by from x is after) least (change_by old new 0 0)

abbrev pub RunBy : ℕ → Endian → ℕ → ℕ → ℕ → Indexed → List Op → ℕ → ℕ → Indexed → Option (List ℕ) → Option (List ℕ) → List Place → Type 0
RunBy page e size blocks from x ops n end y old new places = IsRun (flash_by page e size blocks) (log_at from x []) ops n (log_at end y places) old new

abbrev pub RunsBy : ℕ → Endian → ℕ → ℕ → ℕ → Indexed → List Op → Bool → ℕ → ℕ → Indexed → Bool → Option (List ℕ) → Option (List ℕ) → ℕ → ℕ → List Place → Option SessionFault → Type 0
RunsBy page e size blocks from x ops was n end y is old new failures now places stopped =
    Runs (flash_by page e size blocks) (state_by from x was []) ops n (state_by end y is places) (change_by old new failures now) stopped

-- an operation stopped them, from what the others left
pub record StoppedBy (page : ℕ) (e : Endian) (size blocks from : ℕ) (x : Indexed) (ops : List Op) (was : Bool) (n end : ℕ) (y : Indexed) (is : Bool) (old new : Option (List ℕ)) (failures now : ℕ) (places : List Place)
    (f : SessionFault) (mid : ℕ) (z : Indexed) (between : Option (List ℕ)) (before : List Place) (o : Op) : Type 0 where
  pub run : RunBy page e size blocks from x ops n mid z old between before
  pub next : slice_get ops n ≡ Some o
  pub stop : AppliesBy {T = Unit {0}} page e size blocks mid z o was end y is between new failures now before places (Err f)

pub stopped_by : {page : ℕ} {e : Endian} {size blocks from : ℕ} {x : Indexed} {ops : List Op} {was : Bool} {n end : ℕ} {y : Indexed} {is : Bool} {old new : Option (List ℕ)} {failures now : ℕ} {places : List Place} {f : SessionFault}
    → (at : StopsAt (flash_by page e size blocks) (state_by from x was []) ops n (state_by end y is places) (change_by old new failures now) f)
    → StoppedBy page e size blocks from x ops was n end y is old new failures now places f at.mid.cursor at.mid.index at.between at.mid.places at.op
stopped_by at = record { run = at.run; next = at.next; stop = at.stop }
