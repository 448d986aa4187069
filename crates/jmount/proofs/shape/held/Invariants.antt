use Rattle.std.proofs.Common.{List}
use Rattle.jmount.proofs.ShapingLemmas.{Name, AreHeld}
use Rattle.jmount.proofs.shape.held.Given as goal

abbrev pub invariant-loop-dir : goal.invariant-loop-dir
invariant-loop-dir l = record {
  can : (goal.iterator-loop-dir).can_next l.dir-iterator;
  finite : (goal.iterator-loop-dir).is_finite l.dir-iterator;
  so_far : (done : List Name) × AreHeld l.tree done l.dir-iterator l.held;
}
