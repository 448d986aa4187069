-- A sink before and after, by what is known of its bytes and how often it failed.
use Rattle.std.specs.Prelude.{ℕ, List, Option}
use Rattle.flashbase.specs.Sinks.{SinkChange}

abbrev pub sink_change : Option (List ℕ) → Option (List ℕ) → ℕ → ℕ → SinkChange
sink_change old new before now = record { old = old; new = new; before = before; now = now }
