use Rattle.jscan.specs.SightingsLeft.{sightings_left}
use Rattle.jversions.proofs.TakingLemmas.{Taking}
use Rattle.jversions.proofs.taking.take_tiles.Given as goal

abbrev pub invariant-loop-addr : goal.invariant-loop-addr
invariant-loop-addr g l = Taking l.fn.revision g.E.Order.order l.fn.geometry.block l.image (sightings_left l.addr-iterator) l.tiles.items l.contents.items
