use Rattle.std.proofs.Common.{ℕ, refl}
use Rattle.jnode.specs.declared.node.Damage.{Damage}
use Rattle.jnode.specs.declared.node.Damage.TheVariants.{NodeCrc}
use Rattle.jdamage.specs.Hidden.{lost_if}
use Rattle.jdamage.proofs.HiddenLemmas.{lost_more}
use Rattle.jdamage.proofs.hidden.lost_of.Goals as goal

pub loop-addr-preserved : goal.loop-addr-preserved
loop-addr-preserved g c =
    let d : ℕ × Damage = (0, NodeCrc) in
    lost_more (lost_if g.E.Order.order c.args.image.now) c.args.damaged.now c.loop-addr.addr-index d _ _ _ c.loop-addr-test.true refl c.loop-addr.invariant c.in_ok-push_lost.ensures
