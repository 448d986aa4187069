use Rattle.std.proofs.Common.{ℕ, ◌<◌, ◌∙◌, subst}
use Rattle.jscan.specs.Image.{block_count}
use Rattle.jmap.specs.MapText.{block_map}
use Rattle.jmap.proofs.PutLemmas.{number_put, number_failed}
use Rattle.jmap.proofs.map.put_blocks.Goals as goal

pub loop-k-preserved : goal.loop-k-preserved
loop-k-preserved g c =
    let put = c.in_ok-put_block.ensures.puts in
    let before = c.loop-k.invariant in
    record {
      put = number_put (block_map g.E.Order.order c.args.size c.args.image.now c.args.kept.now) c.loop-k.k _ _ _ before.put put.0;
      failed = put.1 ∙ before.failed;
      total = c.in_ok-put_block.ensures.total;
    }

pub returns-in_err-put_block-clause-puts : goal.returns-in_err-put_block-clause-puts
returns-in_err-put_block-clause-puts g c =
    let k = c.loop-k.k in
    let put = c.in_err-put_block.ensures.puts in
    let before = c.loop-k.invariant in
    let next : k < block_count c.args.size c.args.image.now = subst (λ (n : ℕ). k < n) c.div_ceil-k-end.ensures c.loop-k-test.true in
    number_failed (block_map g.E.Order.order c.args.size c.args.image.now c.args.kept.now) k (block_count c.args.size c.args.image.now) _ (g.T.Sink.taken c.loop-k.sink) _ _ (g.T.Sink.failures c.loop-k.sink) _ _
    c.from_residual.ensures.0 next before.put before.failed put.0 put.1
