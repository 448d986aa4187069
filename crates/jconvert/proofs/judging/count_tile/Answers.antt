use Rattle.jconvert.proofs.CallLemmas.{len_small}
use Rattle.jconvert.proofs.judging.count_tile.Goals as goal

pub with_tile-requires-clause-len : goal.with_tile-requires-clause-len
with_tile-requires-clause-len g c =
    len_small g.E.Order.order c.args.geometry.block c.args.image.now c.args.addr c.args.seen.now c.in_ok-len.len c.requires.readable c.in_ok-len.ensures.len.0 c.in_ok-len.ensures.len.1
