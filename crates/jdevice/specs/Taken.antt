-- Which openings of a device's image are taken.
use Rattle.std.specs.Prelude.{ℕ, Bool, true, false, List}
use Rattle.jnode.specs.declared.order.Endian.{Endian}
use Rattle.jopenings.specs.After.{fronts}
use Rattle.jrests.specs.Openings.{openings}
use Rattle.jrests.specs.declared.opening.Opening.{Opening}
use Rattle.jrow.specs.Row.{blank_blocks}

-- rule: The log: Which blocks of a device's image are written.
--   definitions: jdevice.Taken.openings_taken, jrow.Row.blank_blocks, jrests.Openings.openings
--   code: jdevice::taken::openings_taken
-- its blank blocks, wherever they lie; with `--tail` the rests of its begun ones too
abbrev pub openings_taken : Bool → Endian → ℕ → ℕ → List ℕ → List Opening
openings_taken false e size blocks image = fronts (blank_blocks e size blocks image)
openings_taken true e size blocks image = openings e size blocks image
