use Rattle.std.proofs.Common.{◌≡◌, ◌++◌}
use Rattle.std.specs.Vec.Iter.{into_iter_items}
use Rattle.jmount.specs.Collected.{Collected, without_addresses, greatest_number}
use Rattle.jmount.proofs.collecting.collect_in_turn.Given as goal

abbrev pub invariant-loop-addr : goal.invariant-loop-addr
invariant-loop-addr l = record {
  can : (goal.iterator-loop-addr).can_next l.addr-iterator;
  finite : (goal.iterator-loop-addr).is_finite l.addr-iterator;
  collected : Collected l.names l.inodes l.yielded;
  number : l.greatest ≡ greatest_number (without_addresses l.yielded);
  whole : l.yielded ++ into_iter_items l.addr-iterator ≡ l.fn.nodes.items;
}
