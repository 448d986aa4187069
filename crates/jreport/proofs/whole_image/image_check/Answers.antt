use Rattle.jreport.proofs.WholeImageLemmas.{check_done, report_failed, scan_of, some_scan, verdict_failed, verdict_has_size}
use Rattle.jreport.proofs.whole_image.image_check.Goals as goal

pub returns-in_err-findings-clause-put : goal.returns-in_err-findings-clause-put
returns-in_err-findings-clause-put g c =
    report_failed g.E.Order.order c.args.geometry.block c.args.shape c.args.image.now c.in_err-findings.field-0.0
    (g.T.Sink.taken c.args.sink.now) (g.T.Sink.taken c.report_and_scan.new.sink) (g.T.Sink.failures c.args.sink.now) (g.T.Sink.failures c.report_and_scan.new.sink) _
    c.from_residual.ensures.1 c.in_err-findings.ensures.puts

pub scanned_verdict-requires : goal.scanned_verdict-requires
scanned_verdict-requires g c = record {
  scanned = some_scan g.E.Order.order c.args.geometry.block c.args.image.now c.report_and_scan.new.partial
      (scan_of g.E.Order.order c.args.geometry.block c.args.image.now c.report_and_scan.new.partial c.in_ok-findings.ensures.puts.0 c.in_ok-findings.ensures.scan);
}

pub returns-in_err-bad-clause-block_size : goal.returns-in_err-bad-clause-block_size
returns-in_err-bad-clause-block_size g c =
    let report = c.in_ok-findings.ensures in
    verdict_has_size g.E.Order.order c.args.geometry.block c.args.shape c.args.image.now _ _ _ _ c.in_err-bad.field-0.0 _ c.from_residual-in_err-bad.ensures.1 report.puts.0.0
    (c.in_err-bad.ensures g.E.Order.order c.args.geometry.block report.puts.0 (scan_of g.E.Order.order c.args.geometry.block c.args.image.now c.report_and_scan.new.partial report.puts.0 report.scan))

pub returns-in_err-bad-clause-put : goal.returns-in_err-bad-clause-put
returns-in_err-bad-clause-put g c =
    let report = c.in_ok-findings.ensures in
    verdict_failed g.E.Order.order c.args.geometry.block c.args.shape c.args.image.now
    (g.T.Sink.taken c.args.sink.now) (g.T.Sink.taken c.report_and_scan.new.sink) (g.T.Sink.taken c.scanned_verdict.new.sink)
    (g.T.Sink.failures c.args.sink.now) (g.T.Sink.failures c.report_and_scan.new.sink) (g.T.Sink.failures c.scanned_verdict.new.sink)
    c.in_ok-findings.findings c.in_err-bad.field-0.0 _ c.from_residual-in_err-bad.ensures.1 report.puts
    (c.in_err-bad.ensures g.E.Order.order c.args.geometry.block report.puts.0 (scan_of g.E.Order.order c.args.geometry.block c.args.image.now c.report_and_scan.new.partial report.puts.0 report.scan))

pub returns-clause-put : goal.returns-clause-put
returns-clause-put g c =
    let report = c.in_ok-findings.ensures in
    check_done g.E.Order.order c.args.geometry.block c.args.shape c.args.image.now
    (g.T.Sink.taken c.args.sink.now) (g.T.Sink.taken c.report_and_scan.new.sink) (g.T.Sink.taken c.scanned_verdict.new.sink)
    (g.T.Sink.failures c.args.sink.now) (g.T.Sink.failures c.report_and_scan.new.sink) (g.T.Sink.failures c.scanned_verdict.new.sink)
    c.in_ok-findings.findings c.in_ok-bad.bad c.is_any.result report.puts
    (c.in_ok-bad.ensures g.E.Order.order c.args.geometry.block report.puts.0 (scan_of g.E.Order.order c.args.geometry.block c.args.image.now c.report_and_scan.new.partial report.puts.0 report.scan))
    c.is_any.ensures
