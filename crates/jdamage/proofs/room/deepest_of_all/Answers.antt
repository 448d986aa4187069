use Rattle.std.proofs.Common.{ℕ, ◌+◌, arith}
use Rattle.std.proofs.lemmas.Grind.{common_steps}
use Rattle.jnode.specs.declared.node.Damage.{Damage}
use Rattle.jnode.specs.declared.node.Damage.TheVariants.{NodeCrc}
use Rattle.jdamage.specs.Room.{NodePathsFit}
use Rattle.jdamage.proofs.DamageLemmas.{each_more}
use Rattle.jdamage.proofs.RoomLemmas.{fits_more}
use Rattle.jdamage.proofs.room.deepest_of_all.Goals as goal

pub deepest_of-requires-clause-number : goal.deepest_of-requires-clause-number
deepest_of-requires-clause-number g c = c.requires.numbers c.loop-addr.addr-index (0, NodeCrc) c.loop-addr-test.true

pub loop-addr-preserved : goal.loop-addr-preserved
loop-addr-preserved g c =
    let e = g.E.Order.order in
    let m = c.args.ways.now.up.mounted.now in
    let hidden = c.args.hidden.now in
    let most = c.max-most.result in
    let d : ℕ × Damage = (0, NodeCrc) in
    record {
      few = grind (arith, common_steps, c.max-most.ensures, c.loop-addr.invariant.few, c.deepest_of.ensures.few);
      below = each_more (NodePathsFit e m hidden (most + 1)) c.args.damaged.now c.loop-addr.addr-index d c.loop-addr-test.true
          (λ k x below. fits_more e m hidden (c.loop-addr.most + 1) (most + 1) _ (grind (arith, common_steps, c.max-most.ensures)) (c.loop-addr.invariant.below k x below))
          (fits_more e m hidden (c.deepest_of.result + 1) (most + 1) _ (grind (arith, common_steps, c.max-most.ensures)) c.deepest_of.ensures.room);
    }
