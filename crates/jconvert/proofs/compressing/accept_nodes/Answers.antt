use Rattle.jconvert.proofs.PackLemmas.{accepting_head, accepting_next}
use Rattle.jconvert.proofs.compressing.accept_nodes.Goals as goal

pub accept_tile-requires-clause-sighted : goal.accept_tile-requires-clause-sighted
accept_tile-requires-clause-sighted g c =
    accepting_head g.E.Order.order c.args.geometry.block c.args.image.now _ _ c.in-Some.addr c.in-Some.seen c.loop-addr.invariant c.in-Some.ensures.steps

pub loop-addr-preserved : goal.loop-addr-preserved
loop-addr-preserved g c =
    accepting_next g.E.Order.order c.args.geometry.block c.args.image.now _ _ (c.in-Some.addr, c.in-Some.seen) c.loop-addr.invariant c.in-Some.ensures.steps
    c.in-Ok-accept_tile.ensures.plain c.in-Ok-accept_tile.ensures.none
