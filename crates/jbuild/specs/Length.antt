-- How long what goes out is, by the places that are told.
use Rattle.std.specs.Prelude.{◌≡◌, ℕ, ◌-◌, ◌%◌, ◌<◌, IsTrue, List, length, map, None}
use Rattle.flashbase.specs.Sinks.{SinkChange}
use Rattle.jnode.specs.declared.order.Endian.{Endian}
use Rattle.jsteps.specs.Refusals.{steps_of_first}
use Rattle.jsteps.specs.declared.op.Op.{Op}
use Rattle.jlog.specs.Headline.{is_flash_of}
use Rattle.jlog.specs.Output.{output}
use Rattle.jlog.specs.Places.{places}
use Rattle.jlog.specs.Running.{shown_place, written}
use Rattle.jlog.specs.Session.{Flash}
use Rattle.jlog.specs.declared.report.Place.{Place}
use Rattle.jbuild.specs.Accepted.{end_of_places}
use Rattle.jbuild.specs.Emitting.{IsEmitted, index_on, resume_on}

-- what goes out after the base's front for the first operations
abbrev pub output_of_first : Flash → List ℕ → List Op → ℕ → List ℕ
output_of_first flash base ops accepted =
    let index = index_on flash base in
    output flash.order flash.size (resume_on flash base)
    (written flash.order index (steps_of_first flash.page index ops accepted))

-- the number of bytes that the line tells is its length
abbrev pub TellsLength : Flash → List ℕ → List Op → ℕ → List Place → Type 0
TellsLength flash base ops accepted places =
    end_of_places (resume_on flash base) places - resume_on flash base
    ≡ length (output_of_first flash base ops accepted)

-- The places of nodes end where what goes out for them ends,
abbrev pub PlacesTellLength : Type 0
PlacesTellLength = (e : Endian) (size from : ℕ) (nodes : List (List ℕ)) → size % 4 ≡ 0 → 12 < size
    → end_of_places from (map shown_place (places size from nodes)) - from
    ≡ length (output e size from nodes)

-- so the line tells how long what went out for operations is that were all accepted.
abbrev pub LineTellsLength : Type 0
LineTellsLength = (flash : Flash) (base : List ℕ) (ops : List Op) (accepted : ℕ)
    (places : List Place) (sink : SinkChange)
    → IsTrue (is_flash_of flash.size flash.blocks base)
    → IsEmitted flash base ops accepted places None sink
    → TellsLength flash base ops accepted places
