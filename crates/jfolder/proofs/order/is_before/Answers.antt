use Rattle.std.proofs.Common.{◌∙◌, sym, inl, inr}
use Rattle.jfolder.proofs.OrderLemmas.{before_at_end}
use Rattle.jfolder.proofs.order.is_before.Goals as goal
use Rattle.jfolder.proofs.order.is_before.Goals.{then-loop-i-test+else-i-right, else-loop-i-test}

pub returns : goal.returns
returns c = elim c.loop-i-test.branch [
  | then-loop-i-test+else-i-right w ↦
      before_at_end c.loop-i.i c.args.left.now c.args.right.now c.loop-i.invariant.within c.loop-i.invariant.also (inr w.if-i-right.false) ∙ sym c.loop-i.invariant.same
  | else-loop-i-test w ↦
      before_at_end c.loop-i.i c.args.left.now c.args.right.now c.loop-i.invariant.within c.loop-i.invariant.also (inl w.loop-i-test.false) ∙ sym c.loop-i.invariant.same
]
