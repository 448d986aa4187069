use Rattle.std.proofs.Common.{◌≡◌, ◌≤◌, ◌-◌, drop, length}
use Rattle.jfolder.specs.Order.{is_before}
use Rattle.jfolder.proofs.order.is_before.Given as goal

abbrev pub invariant-loop-i : goal.invariant-loop-i
invariant-loop-i l = record {
  within : l.i ≤ length l.left;
  also : l.i ≤ length l.right;
  same : is_before l.left l.right ≡ is_before (drop l.i l.left) (drop l.i l.right);
}

abbrev pub decreases-loop-i : goal.decreases-loop-i
decreases-loop-i l = length l.left - l.i
