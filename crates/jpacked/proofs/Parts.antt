-- What is promised of forms that are put, by the parts of logs and of the sink.
use Rattle.std.proofs.Common.{ℕ, List, Option, Result}
use Rattle.flashbase.specs.Sinks.{SinkChange}
use Rattle.jnode.specs.declared.order.Endian.{Endian}
use Rattle.jsteps.specs.Nodes.{Indexed}
use Rattle.jsteps.specs.declared.step.Step.{Step}
use Rattle.jlog.specs.Running.{log_at}
use Rattle.jlog.specs.declared.report.Place.{Place}
use Rattle.jlog.specs.declared.writing.Stop.{Stop}
use Rattle.jpacked.specs.Writing.{AreFormsPut, IsPutPart, PutsForms}

abbrev pub change_by : Option (List ℕ) → Option (List ℕ) → ℕ → ℕ → SinkChange
change_by old new failures now = record { old = old; new = new; before = failures; now = now }

abbrev pub PutBy : Endian → ℕ → ℕ → Indexed → List Step → List (List ℕ) → ℕ → Indexed → Option (List ℕ) → Option (List ℕ) → List Place → List Place → Type 0
PutBy e size from x steps forms end y old new before after = AreFormsPut e size (log_at from x before) steps forms (log_at end y after) old new

abbrev pub PartBy : Endian → ℕ → ℕ → Indexed → List (List ℕ) → ℕ → Option (List ℕ) → Option (List ℕ) → List Place → List Place → Type 0
PartBy e size from x forms t old new before after = IsPutPart e size (log_at from x before) forms t after old new

abbrev pub PutsBy : Endian → ℕ → ℕ → Indexed → List Step → List (List ℕ) → ℕ → Indexed → Option (List ℕ) → Option (List ℕ) → ℕ → ℕ → List Place → List Place → Result (Unit {0}) Stop → Type 0
PutsBy e size from x steps forms end y old new failures now before after r =
    PutsForms e size (log_at from x before) steps forms (log_at end y after) (change_by old new failures now) r
