use Rattle.std.proofs.Common.{ℕ, ◌<◌, ◌∙◌, subst}
use Rattle.jscan.specs.Image.{block_count}
use Rattle.jmap.specs.Picture.{block_row}
use Rattle.jmap.proofs.PutLemmas.{number_put, number_failed}
use Rattle.jmap.proofs.picture.put_rows.Goals as goal

pub loop-k-preserved : goal.loop-k-preserved
loop-k-preserved g c =
    let put = c.in_ok-put_row.ensures in
    let before = c.loop-k.invariant in
    record {
      put = number_put (block_row g.E.Order.order c.args.size c.args.image.now c.args.kept.now c.args.paths.now) c.loop-k.k _ _ _ before.put put.0;
      failed = put.1 ∙ before.failed;
    }

pub returns-in_err-put_row : goal.returns-in_err-put_row
returns-in_err-put_row g c =
    let k = c.loop-k.k in
    let put = c.in_err-put_row.ensures in
    let before = c.loop-k.invariant in
    let next : k < block_count c.args.size c.args.image.now = subst (λ (n : ℕ). k < n) c.div_ceil-k-end.ensures c.loop-k-test.true in
    number_failed (block_row g.E.Order.order c.args.size c.args.image.now c.args.kept.now c.args.paths.now) k (block_count c.args.size c.args.image.now) _ (g.T.Sink.taken c.loop-k.sink) _ _ (g.T.Sink.failures c.loop-k.sink) _ _
    c.from_residual.ensures.0 next before.put before.failed put.0 put.1
