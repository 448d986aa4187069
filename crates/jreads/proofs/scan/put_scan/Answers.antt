use Rattle.std.proofs.Common.{List, Option, subst, ℕ}
use Rattle.std.specs.Prelude.{IfSome, option_map}
use Rattle.flashbase.specs.Sinks.{SinkChange, change_of}
use Rattle.jreport.specs.Stream.{HandsBack, ReadsTo}
use Rattle.jreads.proofs.ScanPutLemmas.{scanned, unscanned}
use Rattle.jreads.proofs.scan.put_scan.Goals as goal

pub returns-in-Some : goal.returns-in-Some
returns-in-Some g c =
    let said = c.stream_lines-left.ensures in
    let start = c.stream-streamed.result.1 in
    let left = c.in-Some.source in
    let failures = g.H.Source.Source.failures in
    let known : Option (List ℕ) = g.H.Source.Source.rest start in
    let s : SinkChange = change_of g.T.Sink c.args.sink.now c.stream_lines-left.new.sink in
    let put = c.stream_lines-left.result.0 in
    let size : ℕ = c.args.geometry.block in
    scanned g.E.Order.order size _ _ known _ (g.H.Source.Source.rest left) (failures start)
    (failures left) s put _ _ c.requires c.stream-streamed.ensures.same
    c.stream-streamed.ensures.name c.stream-streamed.ensures.sound c.stream-streamed.ensures.whole
    c.stream-streamed.ensures.told said.put
    (subst (λ o. HandsBack (failures start) (option_map failures o) put) c.in-Some.is said.back)
    (subst (λ o. IfSome o (λ t. IfSome known (λ bytes.
    ReadsTo g.E.Order.order size bytes s.old s.new (g.H.Source.Source.rest t) put)))
    c.in-Some.is said.left)
    said.too_large said.before_limit c.close_stream-closed.ensures c.scan_closed.ensures

pub returns-in-None : goal.returns-in-None
returns-in-None g c =
    let said = c.stream_lines-left.ensures in
    let failures = g.H.Source.Source.failures in
    let first : ℕ = failures c.stream-streamed.result.1 in
    let put = c.stream_lines-left.result.0 in
    unscanned g.E.Order.order c.args.geometry.block _ _ first _ put _ c.requires
    c.stream-streamed.ensures.same c.stream-streamed.ensures.sound said.put said.block_size
    (subst (λ o. HandsBack first (option_map failures o) put) c.in-None.is said.back)
    c.scan_closed-in-None.ensures
