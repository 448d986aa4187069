use Rattle.std.proofs.Common.{◌<◌, refl, Ok, ap, subst, ◌∙◌, arith}
use Rattle.jscan.specs.Stream.{Gives, source_of}
use Rattle.jscan.proofs.StreamCounts.{readable_some}
use Rattle.jreport.proofs.StreamLemmas.{all_put, block_failed, block_left, ended_within, finished, gone_to_limit, is_limit, read_whole, sink_blamed, source_blamed, source_failed, source_left, streaming_end, streaming_next, streaming_start, total_failed, total_left}
use Rattle.jreport.proofs.stream.put_blocks.Goals as goal

pub loop-block-init : goal.loop-block-init
loop-block-init g c =
    let a = c.args in
    streaming_start g.E.Order.order (source_of a.reader.now) a.geometry.block c.nothing-counts.result a.reader.now (g.T.Sink.taken a.sink.now) (g.T.Sink.failures a.sink.now)
    c.nothing-counts.ensures c.requires refl

pub loop-block-preserved : goal.loop-block-preserved
loop-block-preserved g c =
    let gives = subst (Gives c.loop-block.reader c.next.follows.lender-at-none) (c.in_ok-block.was ∙ ap Ok c.in-Some.is) c.next.follows.holds-at-none in
    let put = c.in_ok-put_block.ensures.puts in
    streaming_next _ _ _ _ _ _ _ _ _ _ _ _ _ _ _ c.loop-block.invariant gives c.in_ok-put_block.ensures.counts put.0 put.1

-- ---- the source failed

pub returns-in_err-block-clause-put : goal.returns-in_err-block-clause-put
returns-in_err-block-clause-put g c =
    let gives = subst (Gives c.loop-block.reader c.next.follows.lender-at-none) c.in_err-block.was c.next.follows.holds-at-none in
    source_failed _ _ _ _ _ _ _ _ _ _ _ _ _ c.from_residual.ensures.1 c.loop-block.invariant gives

pub returns-in_err-block-clause-back : goal.returns-in_err-block-clause-back
returns-in_err-block-clause-back g c =
    let gives = subst (Gives c.loop-block.reader c.next.follows.lender-at-none) c.in_err-block.was c.next.follows.holds-at-none in
    source_blamed _ _ _ _ _ _ _ _ _ _ _ _ _ c.from_residual.ensures.1 c.loop-block.invariant gives

pub returns-in_err-block-clause-left : goal.returns-in_err-block-clause-left
returns-in_err-block-clause-left g c =
    let gives = subst (Gives c.loop-block.reader c.next.follows.lender-at-none) c.in_err-block.was c.next.follows.holds-at-none in
    source_left _ _ _ _ _ _ _ _ _ _ _ _ _ c.from_residual.ensures.1 c.loop-block.invariant gives

pub returns-in_err-block-clause-before_limit : goal.returns-in_err-block-clause-before_limit
returns-in_err-block-clause-before_limit g c = λ limit.
    let gives = subst (Gives c.loop-block.reader c.next.follows.lender-at-none) c.in_err-block.was c.next.follows.holds-at-none in
    gone_to_limit _ _ _ _ _ _ _ _ _ _ _ _ c.loop-block.invariant gives (is_limit _ _ c.from_residual.ensures.1 limit)

-- ---- the sink failed

pub returns-in_err-put_block-clause-put : goal.returns-in_err-put_block-clause-put
returns-in_err-put_block-clause-put g c =
    let gives = subst (Gives c.loop-block.reader c.next.follows.lender-at-none) (c.in_ok-block.was ∙ ap Ok c.in-Some.is) c.next.follows.holds-at-none in
    let put = c.in_err-put_block.ensures.puts in
    block_failed _ _ _ _ _ _ _ _ _ _ _ _ _ _ _ c.from_residual-in_err-put_block.ensures.1 c.loop-block.invariant gives put.0 put.1

pub returns-in_err-put_block-clause-back : goal.returns-in_err-put_block-clause-back
returns-in_err-put_block-clause-back g c =
    let gives = subst (Gives c.loop-block.reader c.next.follows.lender-at-none) (c.in_ok-block.was ∙ ap Ok c.in-Some.is) c.next.follows.holds-at-none in
    sink_blamed _ _ _ c.from_residual-in_err-put_block.ensures.1 (gives.none_failed ∙ c.loop-block.invariant.scanning.none_failed)

pub returns-in_err-put_block-clause-left : goal.returns-in_err-put_block-clause-left
returns-in_err-put_block-clause-left g c =
    let gives = subst (Gives c.loop-block.reader c.next.follows.lender-at-none) (c.in_ok-block.was ∙ ap Ok c.in-Some.is) c.next.follows.holds-at-none in
    block_left _ _ _ _ _ _ _ _ _ _ _ _ _ _ _ c.from_residual-in_err-put_block.ensures.1 c.loop-block.invariant gives c.in_err-put_block.ensures.puts.0

-- the reader gave no block, so it has given all
pub returns-in_err-put_total-clause-put : goal.returns-in_err-put_total-clause-put
returns-in_err-put_total-clause-put g c =
    let gives = subst (Gives c.loop-block.reader c.next.follows.lender-at-none) (c.in_ok-block.was ∙ ap Ok c.in_default.is) c.next.follows.holds-at-none in
    let so_far = c.loop-block.invariant in
    let some : 0 < c.args.geometry.block = omega (arith, readable_some c.args.geometry.block so_far.scanning.readable) in
    let all = finished _ _ _ _ _ _ some (streaming_end _ _ _ _ _ _ _ _ _ _ _ so_far gives) so_far.untold in
    total_failed _ _ _ _ _ _ _ _ _ _ _ c.from_residual-in_err-put_total.ensures.1 all c.in_err-put_total.ensures.0 so_far.none_failed c.in_err-put_total.ensures.1

pub returns-in_err-put_total-clause-back : goal.returns-in_err-put_total-clause-back
returns-in_err-put_total-clause-back g c =
    let gives = subst (Gives c.loop-block.reader c.next.follows.lender-at-none) (c.in_ok-block.was ∙ ap Ok c.in_default.is) c.next.follows.holds-at-none in
    sink_blamed _ _ _ c.from_residual-in_err-put_total.ensures.1 (gives.none_failed ∙ c.loop-block.invariant.scanning.none_failed)

pub returns-in_err-put_total-clause-left : goal.returns-in_err-put_total-clause-left
returns-in_err-put_total-clause-left g c =
    let gives = subst (Gives c.loop-block.reader c.next.follows.lender-at-none) (c.in_ok-block.was ∙ ap Ok c.in_default.is) c.next.follows.holds-at-none in
    total_left _ _ _ _ _ _ _ _ _ _ _ _ _ _ c.from_residual-in_err-put_total.ensures.1 c.loop-block.invariant gives c.in_err-put_total.ensures.0

-- ---- all was put

pub returns-clause-put : goal.returns-clause-put
returns-clause-put g c =
    let gives = subst (Gives c.loop-block.reader c.next.follows.lender-at-none) (c.in_ok-block.was ∙ ap Ok c.in_default.is) c.next.follows.holds-at-none in
    let so_far = c.loop-block.invariant in
    let some : 0 < c.args.geometry.block = omega (arith, readable_some c.args.geometry.block so_far.scanning.readable) in
    let all = finished _ _ _ _ _ _ some (streaming_end _ _ _ _ _ _ _ _ _ _ _ so_far gives) so_far.untold in
    all_put _ _ _ _ _ _ _ _ _ _ all c.in_ok-put_total.ensures.0 so_far.none_failed c.in_ok-put_total.ensures.1

pub returns-clause-within : goal.returns-clause-within
returns-clause-within g c =
    let gives = subst (Gives c.loop-block.reader c.next.follows.lender-at-none) (c.in_ok-block.was ∙ ap Ok c.in_default.is) c.next.follows.holds-at-none in
    ended_within _ _ _ _ _ _ (streaming_end _ _ _ _ _ _ _ _ _ _ _ c.loop-block.invariant gives)

pub returns-clause-back : goal.returns-clause-back
returns-clause-back g c =
    let gives = subst (Gives c.loop-block.reader c.next.follows.lender-at-none) (c.in_ok-block.was ∙ ap Ok c.in_default.is) c.next.follows.holds-at-none in
    gives.none_failed ∙ c.loop-block.invariant.scanning.none_failed

pub returns-clause-left : goal.returns-clause-left
returns-clause-left g c =
    let gives = subst (Gives c.loop-block.reader c.next.follows.lender-at-none) (c.in_ok-block.was ∙ ap Ok c.in_default.is) c.next.follows.holds-at-none in
    read_whole (source_of c.args.reader.now) _ _ gives
