use Rattle.jscan.specs.SightingsLeft.{sightings_left}
use Rattle.jconvert.proofs.LocateLemmas.{Locating}
use Rattle.jconvert.proofs.locating.located.Given as goal

abbrev pub invariant-loop-addr : goal.invariant-loop-addr
invariant-loop-addr g l = Locating g.E.Order.order l.fn.geometry.block l.image (sightings_left l.addr-iterator) l.held l.nodes.items
