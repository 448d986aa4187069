use Rattle.jscan.specs.ImageLeft.{image_left}
use Rattle.jcalls.proofs.NodesLemmas.{NodesSoFar}
use Rattle.jcalls.proofs.finding.fill_nodes.Given as goal

abbrev pub invariant-loop-extent : goal.invariant-loop-extent
invariant-loop-extent g l =
    NodesSoFar g.E.Order.order l.block l.image (image_left l.extent-iterator) l.fn.rows l.rows l.count
