use Rattle.std.proofs.Common.{◌∙◌, ◌+◌, drop, refl}
use Rattle.jconvert.proofs.KeepLemmas.{keeping_start, keeping_next, keeping_failed, keeping_end, slice_left, slice_end}
use Rattle.jconvert.proofs.keeping.write_nodes.Goals as goal

pub loop-node-init : goal.loop-node-init
loop-node-init g c = record {
  kept = keeping_start g.E.Order.order c.args.geometry.block c.args.nodes.now c.args.nodes.now (g.S.Sink.taken c.args.sink.now) refl;
  none_failed = refl;
}

pub loop-node-preserved : goal.loop-node-preserved
loop-node-preserved g c =
    let split = slice_left c.args.nodes.now c.loop-node.node-index c.node-item.result c.loop-node-test.true c.node-item.is in
    record {
      kept = keeping_next g.E.Order.order c.args.geometry.block c.args.nodes.now (drop c.loop-node.node-index c.args.nodes.now) (drop (c.loop-node.node-index + 1) c.args.nodes.now) c.node-item.result
          c.loop-node.from c.in-Ok.next _ _ _ _ _ c.loop-node.invariant.kept split c.in-Ok.ensures.puts;
      none_failed = c.in-Ok.ensures.puts.1 ∙ c.loop-node.invariant.none_failed;
    }

pub returns-in-Err : goal.returns-in-Err
returns-in-Err g c =
    let split = slice_left c.args.nodes.now c.loop-node.node-index c.node-item.result c.loop-node-test.true c.node-item.is in
    keeping_failed g.E.Order.order c.args.geometry.block c.args.nodes.now (drop c.loop-node.node-index c.args.nodes.now) (drop (c.loop-node.node-index + 1) c.args.nodes.now) c.node-item.result
    c.loop-node.from _ _ _ _ _ _ c.in-Err.fault c.loop-node.invariant.kept split c.loop-node.invariant.none_failed c.in-Err.ensures.puts

pub returns : goal.returns
returns g c =
    let done = keeping_end g.E.Order.order c.args.geometry.block c.args.nodes.now (drop c.loop-node.node-index c.args.nodes.now) c.loop-node.from _ _ c.loop-node.invariant.kept
    (slice_end c.args.nodes.now c.loop-node.node-index c.loop-node-test.false) in
    (done.0, done.1, c.from.ensures ∙ done.2, c.loop-node.invariant.none_failed)
