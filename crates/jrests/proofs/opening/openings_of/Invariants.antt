use Rattle.std.proofs.Common.{◌≡◌}
use Rattle.jrests.specs.Openings.{openings}
use Rattle.jrests.proofs.opening.openings_of.Given as goal

abbrev pub invariant-loop-block : goal.invariant-loop-block
invariant-loop-block g l = l.found.items ≡ openings g.E.Order.order l.geometry.block l.block l.image
