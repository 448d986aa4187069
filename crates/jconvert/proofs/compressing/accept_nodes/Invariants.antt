use Rattle.jscan.specs.SightingsLeft.{sightings_left}
use Rattle.jconvert.proofs.PackLemmas.{Accepting}
use Rattle.jconvert.proofs.compressing.accept_nodes.Given as goal

abbrev pub invariant-loop-addr : goal.invariant-loop-addr
invariant-loop-addr g l = Accepting g.E.Order.order l.fn.geometry.block l.image (sightings_left l.addr-iterator)
