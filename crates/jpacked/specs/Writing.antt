-- What is put for the forms of steps.
use Rattle.std.specs.Prelude.{◌≡◌, ℕ, ◌+◌, ◌<◌, ◌≤◌, nat_le, List, [], ◌++◌, length, map, filter, take, Option, Result, Ok, Err}
use Rattle.std.specs.Io.KnownBytes.{Appends}
use Rattle.flashbase.specs.Device.{next_count}
use Rattle.flashbase.specs.Sinks.{SinkChange}
use Rattle.jnode.specs.declared.order.Endian.{Endian}
use Rattle.jsteps.specs.Nodes.{advanced_all}
use Rattle.jsteps.specs.declared.step.Step.{Step}
use Rattle.jlog.specs.Places.{places, end_of_all}
use Rattle.jlog.specs.Output.{output}
use Rattle.jlog.specs.Running.{Log, shown_place}
use Rattle.jlog.specs.declared.report.Place.{Place}
use Rattle.jlog.specs.declared.writing.Stop.{Stop}
use Rattle.jlog.specs.declared.writing.Stop.TheVariants as stop

-- The sink took exactly what goes out for the forms, one a step, each at its place, and the log
-- goes on after them.
pub record AreFormsPut (e : Endian) (size : ℕ) (from : Log) (steps : List Step)
    (forms : List (List ℕ)) (to : Log) (old new : Option (List ℕ)) : Type 0 where
  pub cursor : to.cursor ≡ end_of_all size from.cursor forms
  pub index : to.index ≡ advanced_all from.index steps
  pub bytes : Appends old new (output e size from.cursor forms)
  pub places : to.places ≡ from.places ++ map shown_place (places size from.cursor forms)

-- The sink took exactly the first t bytes of it, and the places are those of the forms whose bytes
-- all went out.
pub record IsPutPart (e : Endian) (size : ℕ) (from : Log) (forms : List (List ℕ)) (t : ℕ)
    (told : List Place) (old new : Option (List ℕ)) : Type 0 where
  pub within : t ≤ length (output e size from.cursor forms)
  pub bytes : Appends old new (take t (output e size from.cursor forms))
  pub places : told ≡ from.places
      ++ map shown_place (filter (λ place. nat_le (place.0 + place.1) (from.cursor + t))
      (places size from.cursor forms))

-- Putting the forms of steps: all of them; or a beginning, where the sink failed, or where memory
-- ran out; or, out of memory, nothing.
abbrev pub PutsForms : Endian → ℕ → Log → List Step → List (List ℕ) → Log → SinkChange
    → Result (Unit {0}) Stop → Type 0
PutsForms e size from steps forms to sink (Ok _) =
    AreFormsPut e size from steps forms to sink.old sink.new × (sink.now ≡ sink.before)
PutsForms e size from steps forms to sink (Err stop.Sink) =
    ((t : ℕ) × IsPutPart e size from forms t to.places sink.old sink.new)
    × (sink.now ≡ next_count sink.before)
PutsForms e size from steps forms to sink (Err stop.Begun) =
    ((t : ℕ) × (0 < t) × IsPutPart e size from forms t to.places sink.old sink.new)
    × (sink.now ≡ sink.before)
PutsForms e size from steps forms to sink (Err stop.Unbegun) =
    (to.cursor ≡ from.cursor) × (to.index ≡ from.index) × Appends sink.old sink.new []
    × (to.places ≡ from.places) × (sink.now ≡ sink.before)
