use Rattle.std.proofs.Common.{◌≡◌, ◌++◌}
use Rattle.std.specs.Prelude.{filter_map}
use Rattle.jscan.specs.Image.{node_sighted, nodes}
use Rattle.jscan.specs.SightingsLeft.{sightings_left}
use Rattle.jcompact.proofs.image.nodes_of.Given as goal

abbrev pub invariant-loop-addr : goal.invariant-loop-addr
invariant-loop-addr g l = l.nodes.items ++ filter_map node_sighted (sightings_left l.addr-iterator) ≡ nodes g.E.Order.order l.fn.geometry.block l.image
