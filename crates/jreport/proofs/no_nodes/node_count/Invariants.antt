use Rattle.std.proofs.Common.{◌≡◌, ◌+◌, length}
use Rattle.jscan.specs.SightingsLeft.{sightings_left}
use Rattle.jreport.specs.NoNodes.{node_count}
use Rattle.jreport.proofs.no_nodes.node_count.Given as goal

abbrev pub invariant-loop-sighting : goal.invariant-loop-sighting
invariant-loop-sighting g l = l.count + length (sightings_left l._sighting-iterator) ≡ node_count g.E.Order.order l.fn.geometry.block l.image
