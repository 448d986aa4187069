use Rattle.jscan.specs.Extents.{extents}
use Rattle.jscan.specs.ExtentsLeft.{extents_left}
use Rattle.jinfo.proofs.TallyLemmas.{TallyGoesOn}
use Rattle.jinfo.proofs.census.tally_of.Given as goal

abbrev pub invariant-loop-extent : goal.invariant-loop-extent
invariant-loop-extent g l = TallyGoesOn g.E.Order.order l.block (extents g.E.Order.order 0 l.block) (extents_left l.extent-iterator) l.tally
