-- What is promised of forms that are put into a row, by the parts of logs and of the sink.
use Rattle.std.proofs.Common.{ℕ, List, Option, Result}
use Rattle.jnode.specs.declared.order.Endian.{Endian}
use Rattle.jsteps.specs.Nodes.{Indexed}
use Rattle.jsteps.specs.declared.step.Step.{Step}
use Rattle.jlog.specs.declared.report.Place.{Place}
use Rattle.jlog.specs.declared.writing.Stop.{Stop}
use Rattle.jpacked.proofs.Parts.{change_by}
use Rattle.jrests.specs.declared.opening.Opening.{Opening}
use Rattle.jupdate.specs.Writing.{log_in, IsPutIn, IsPutPartIn, PutsIn}

abbrev pub PutBy : Endian → ℕ → List Opening → Indexed → List Step → List (List ℕ) → List Opening → Indexed → Option (List ℕ) → Option (List ℕ) → List Place → List Place → Type 0
PutBy e size row x steps forms next y old new before after = IsPutIn e size (log_in row x before) steps forms (log_in next y after) old new

abbrev pub PartBy : Endian → ℕ → List Opening → Indexed → List (List ℕ) → ℕ → Option (List ℕ) → Option (List ℕ) → List Place → List Place → Type 0
PartBy e size row x forms t old new before after = IsPutPartIn e size (log_in row x before) forms t after old new

abbrev pub PutsBy : Endian → ℕ → List Opening → Indexed → List Step → List (List ℕ) → List Opening → Indexed → Option (List ℕ) → Option (List ℕ) → ℕ → ℕ → List Place → List Place → Result (Unit {0}) Stop → Type 0
PutsBy e size row x steps forms next y old new failures now before after r =
    PutsIn e size (log_in row x before) steps forms (log_in next y after) (change_by old new failures now) r
