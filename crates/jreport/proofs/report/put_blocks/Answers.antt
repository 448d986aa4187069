use Rattle.std.proofs.Common.{◌<◌, ◌++◌, ℕ, ap, sym, ◌∙◌, subst}
use Rattle.std.specs.Io.KnownBytes.{Appends}
use Rattle.std.proofs.KnownBytes.{Appends-trans}
use Rattle.flashbase.specs.Device.{PutsPart, next_count}
use Rattle.flashbase.proofs.DeviceLemmas.{part_before, part_behind}
use Rattle.jscan.specs.Image.{block_count}
use Rattle.jreport.specs.Report.{lines_below, block_lines}
use Rattle.jreport.proofs.BlockLemmas.{lines_below_more, lines_begin}
use Rattle.jreport.proofs.PutLemmas.{puts_err}
use Rattle.jreport.proofs.report.put_blocks.Goals as goal

pub loop-k-preserved : goal.loop-k-preserved
loop-k-preserved g c =
    let e = g.E.Order.order in
    let size = c.args.size in
    let image = c.args.image.now in
    let k = c.loop-k.k in
    let put = c.in_ok-put_block_of.ensures.puts in
    let before = c.loop-k.invariant in
    record {
      put = subst (Appends (g.T.Sink.taken c.args.sink.now) (g.T.Sink.taken c.put_block_of.new.sink)) (sym (lines_below_more e size image k))
          (Appends-trans _ _ _ (lines_below e size image k) (block_lines e size image k) before.put put.0);
      failed = put.1 ∙ before.failed;
      counts = c.in_ok-put_block_of.ensures.counts;
      scan = c.in_ok-put_block_of.ensures.scan;
    }

pub returns-in_err-put_block_of-clause-puts : goal.returns-in_err-put_block_of-clause-puts
returns-in_err-put_block_of-clause-puts g c =
    let e = g.E.Order.order in
    let size = c.args.size in
    let image = c.args.image.now in
    let k = c.loop-k.k in
    let before = c.loop-k.invariant in
    let put = c.in_err-put_block_of.ensures.puts in
    let next : k < block_count size image = subst (λ (n : ℕ). k < n) c.div_ceil-k-end.ensures c.loop-k-test.true in
    let (rest, is) = lines_begin e size image k (block_count size image) next in
    let upto = part_behind (g.T.Sink.taken c.args.sink.now) (g.T.Sink.taken c.loop-k.sink) (g.T.Sink.taken c.put_block_of.new.sink)
    (lines_below e size image k) (block_lines e size image k) before.put put.0 in
    puts_err _ _ _ _ _ _ c.from_residual.ensures.0
    (subst (PutsPart (g.T.Sink.taken c.args.sink.now) (g.T.Sink.taken c.put_block_of.new.sink)) (sym is)
    (part_before (g.T.Sink.taken c.args.sink.now) (g.T.Sink.taken c.put_block_of.new.sink) (lines_below e size image k ++ block_lines e size image k) rest upto))
    (put.1 ∙ ap next_count before.failed)
