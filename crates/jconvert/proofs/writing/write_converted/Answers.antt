use Rattle.std.proofs.Common.{◌∙◌}
use Rattle.jconvert.proofs.HoldingLemmas.{held_begins, held_next}
use Rattle.jconvert.proofs.TileLemmas.{head_written, tile_next, tile_failed}
use Rattle.jconvert.proofs.writing.write_converted.Goals as goal

pub put_tile-requires-clause-sighted : goal.put_tile-requires-clause-sighted
put_tile-requires-clause-sighted g c =
    head_written g.E.Order.order c.args.geometry.block c.args.image.now _ _ c.in-Some.addr c.in-Some.seen c.loop-addr.from _ _ c.loop-addr.invariant.wrote c.in-Some.ensures.steps

pub put_tile-requires-clause-held : goal.put_tile-requires-clause-held
put_tile-requires-clause-held g c =
    held_begins g.E.Order.order c.args.geometry.block c.args.image.now _ _ c.in-Some.addr c.in-Some.seen _ c.loop-addr.invariant.goes_on c.in-Some.ensures.steps

pub loop-addr-preserved : goal.loop-addr-preserved
loop-addr-preserved g c = record {
  wrote = tile_next g.E.Order.order c.args.geometry.block c.args.image.now _ _ c.in-Some.addr c.in-Some.seen c.loop-addr.from c.in-Ok-put_tile.next _ _ _ _ _
      c.loop-addr.invariant.wrote c.in-Some.ensures.steps c.in-Ok-put_tile.ensures.put;
  goes_on = held_next g.E.Order.order c.args.geometry.block c.args.image.now _ _ c.in-Some.addr c.in-Some.seen _ _ c.loop-addr.invariant.goes_on c.in-Some.ensures.steps c.in-Ok-put_tile.ensures.held;
  none_failed = c.in-Ok-put_tile.ensures.put.1 ∙ c.loop-addr.invariant.none_failed;
}

pub returns-in-Err-put_tile : goal.returns-in-Err-put_tile
returns-in-Err-put_tile g c =
    tile_failed g.E.Order.order c.args.geometry.block c.args.image.now _ _ c.in-Some.addr c.in-Some.seen c.loop-addr.from _ _ _ _ _ _ c.in-Err-put_tile.fault
    c.loop-addr.invariant.wrote c.in-Some.ensures.steps c.loop-addr.invariant.none_failed c.in-Err-put_tile.ensures.put
