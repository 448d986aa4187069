use Rattle.std.proofs.Common.{ℕ, ◌-◌, ◌^◌, get_or, refl, arith, ◌∙◌, subst}
use Rattle.std.specs.Io.KnownBytes.{Appends}
use Rattle.std.proofs.KnownBytes.{Appends-trans}
use Rattle.jnode.specs.declared.node.Damage.{Damage}
use Rattle.jnode.specs.declared.node.Damage.TheVariants.{NodeCrc}
use Rattle.jline.proofs.TurnLemmas.{flat_map-next, item_failed}
use Rattle.jdamage.specs.Telling.{own_text, own_paths}
use Rattle.jdamage.proofs.DamageLemmas.{count_more}
use Rattle.jdamage.proofs.RoomLemmas.{fits_more}
use Rattle.jdamage.proofs.damage.put_nodes.Goals as goal

pub put_node-requires-clause-number : goal.put_node-requires-clause-number
put_node-requires-clause-number g c = c.requires.numbers c.loop-addr.addr-index (0, NodeCrc) c.loop-addr-test.true

pub put_node-requires-clause-room : goal.put_node-requires-clause-room
put_node-requires-clause-room g c =
    fits_more g.E.Order.order c.args.ways.now.up.mounted.now c.args.hidden.now _ _ _ c.loop-addr.invariant.capacity (c.requires.room c.loop-addr.addr-index (0, NodeCrc) c.loop-addr-test.true)

pub returns-in_err-more-clause-puts : goal.returns-in_err-more-clause-puts
returns-in_err-more-clause-puts g c =
    let put = c.in_err-more.ensures.puts in
    let before = c.loop-addr.invariant in
    let d : ℕ × Damage = (0, NodeCrc) in
    let node = get_or c.args.damaged.now c.loop-addr.addr-index d in
    item_failed (own_text g.E.Order.order c.args.ways.now.up.mounted.now c.args.hidden.now) c.args.damaged.now c.loop-addr.addr-index d node _ (g.T.Sink.taken c.loop-addr.sink) _ _ _ _ _
    c.from_residual.ensures.0 c.loop-addr-test.true refl before.put before.failed put.0 put.1

pub loop-addr-preserved : goal.loop-addr-preserved
loop-addr-preserved g c =
    let e = g.E.Order.order in
    let m = c.args.ways.now.up.mounted.now in
    let hidden = c.args.hidden.now in
    let put = c.in_ok-more.ensures.puts in
    let before = c.loop-addr.invariant in
    let i = c.loop-addr.addr-index in
    let d : ℕ × Damage = (0, NodeCrc) in
    let node = get_or c.args.damaged.now i d in
    record {
      put = subst (Appends (g.T.Sink.taken c.args.sink.now) (g.T.Sink.taken c.put_node.new.sink)) (flat_map-next (own_text e m hidden) c.args.damaged.now i d node c.loop-addr-test.true refl)
          (Appends-trans _ (g.T.Sink.taken c.loop-addr.sink) _ _ _ before.put put.0);
      failed = put.1 ∙ before.failed;
      count = count_more (own_paths e m hidden) c.args.damaged.now i d node (2 ^ 64 - 1) _ _ _ c.loop-addr-test.true refl before.count c.in_ok-more.ensures.count c.saturating_add-count.ensures;
      capacity = omega (arith, before.capacity, c.put_node.ensures.capacity);
    }
