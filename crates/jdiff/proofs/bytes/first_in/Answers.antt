use Rattle.std.proofs.Common.{arith, sym}
use Rattle.jdiff.proofs.ByteLemmas.{same_at_first, shorter_differs, longer_differs}
use Rattle.jdiff.proofs.bytes.first_in.Goals as goal
use Rattle.jdiff.proofs.bytes.first_in.Goals.{then-loop-i-test+else-i-right, else-loop-i-test}

pub loop-i-init : goal.loop-i-init
loop-i-init c = record { same = same_at_first c.args.left.now c.args.right.now; ours = omega arith; theirs = omega arith }

pub returns-else-left-right-clause-place : goal.returns-else-left-right-clause-place
returns-else-left-right-clause-place c =
    elim c.loop-i-test.branch [
      | then-loop-i-test+else-i-right w ↦ sym (shorter_differs c.args.left.now c.args.right.now c.loop-i.i c.loop-i.invariant.same (omega arith) (omega arith))
      | else-loop-i-test w ↦ sym (longer_differs c.args.left.now c.args.right.now c.loop-i.i c.loop-i.invariant.same (omega arith) (omega (arith, c.if-left-right.false)))
    ]
