use Rattle.std.proofs.Common.{◌≤◌, ◌-◌, length}
use Rattle.jdiff.proofs.ByteLemmas.{SameBelow}
use Rattle.jdiff.proofs.bytes.first_in.Given as goal

abbrev pub invariant-loop-i : goal.invariant-loop-i
invariant-loop-i l = record {
  same : SameBelow l.left l.right l.i;
  ours : l.i ≤ length l.left;
  theirs : l.i ≤ length l.right;
}

abbrev pub decreases-loop-i : goal.decreases-loop-i
decreases-loop-i l = length l.left - l.i
