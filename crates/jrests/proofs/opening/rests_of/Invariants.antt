use Rattle.std.proofs.Common.{◌≡◌}
use Rattle.jrests.specs.Openings.{rests}
use Rattle.jrests.proofs.opening.rests_of.Given as goal

abbrev pub invariant-loop-block : goal.invariant-loop-block
invariant-loop-block g l = l.found.items ≡ rests g.E.Order.order l.geometry.block l.block l.image
