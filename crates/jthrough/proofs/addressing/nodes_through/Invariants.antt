use Rattle.jscan.specs.Image.{sightings}
use Rattle.jscan.specs.SightingsLeft.{sightings_left}
use Rattle.jthrough.proofs.PlacedLemmas.{Placing}
use Rattle.jthrough.proofs.addressing.nodes_through.Given as goal

abbrev pub invariant-loop-addr : goal.invariant-loop-addr
invariant-loop-addr g l =
    Placing g.E.Order.order l.fn.geometry.block l.image (sightings g.E.Order.order l.fn.geometry.block l.image) (sightings_left l.addr-iterator) l.rest l.nodes.items
