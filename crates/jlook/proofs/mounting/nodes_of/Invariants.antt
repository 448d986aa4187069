use Rattle.std.specs.Vec.Iter.{into_iter_items}
use Rattle.jlook.proofs.PlacingLemmas.{PlacingLooked}
use Rattle.jlook.proofs.mounting.nodes_of.Given as goal

abbrev pub invariant-loop-addr : goal.invariant-loop-addr
invariant-loop-addr g l = record {
  can : (goal.iterator-loop-addr g).can_next l.addr-iterator;
  finite : (goal.iterator-loop-addr g).is_finite l.addr-iterator;
  placing : PlacingLooked g.E.Order.order l.fn.geometry.block l.image l.fn.tiles.items (into_iter_items l.addr-iterator) l.rest l.nodes.items;
}
