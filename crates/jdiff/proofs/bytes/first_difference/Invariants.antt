use Rattle.std.proofs.Common.{◌-◌, ◌≤◌, ◌+◌}
use Rattle.jmount.specs.Shown.{readable}
use Rattle.jdiff.proofs.ByteLemmas.{SameBelow}
use Rattle.jdiff.proofs.bytes.first_difference.Given as goal

abbrev pub invariant-loop-offset : goal.invariant-loop-offset
invariant-loop-offset l = record {
  same : SameBelow (readable l.left.state l.left_ino) (readable l.right.state l.right_ino) l.offset;
  near : l.offset ≤ l.size + 4095;
}

abbrev pub decreases-loop-offset : goal.decreases-loop-offset
decreases-loop-offset l = l.size - l.offset
