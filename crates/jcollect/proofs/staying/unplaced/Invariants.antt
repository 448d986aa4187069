use Rattle.std.proofs.Common.{◌≡◌, ◌++◌}
use Rattle.std.specs.Vec.Iter.{into_iter_items}
use Rattle.jmount.specs.Collected.{without_addresses}
use Rattle.jcollect.proofs.staying.unplaced.Given as goal

abbrev pub invariant-loop-node : goal.invariant-loop-node
invariant-loop-node l = record {
  can : (goal.iterator-loop-node).can_next l.node-iterator;
  finite : (goal.iterator-loop-node).is_finite l.node-iterator;
  so_far : l.fn.nodes.items ≡ without_addresses l.placed.items ++ into_iter_items l.node-iterator;
}
