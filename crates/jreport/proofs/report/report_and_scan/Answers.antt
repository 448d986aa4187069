use Rattle.std.proofs.Common.{◌≡◌, ℕ, List, ap, ◌∙◌, subst, rules}
use Rattle.std.specs.Io.KnownBytes.{Appends}
use Rattle.flashbase.specs.Device.{PutsPart, next_count}
use Rattle.jscan.specs.Image.{block_count}
use Rattle.jscan.specs.Counts.{counts_of}
use Rattle.jscan.specs.declared.counts.Counts.{Counts}
use Rattle.jreport.specs.Report.{totals_line}
use Rattle.jscan.specs.Scans.{IsScannable}
use Rattle.jreport.proofs.FaultLemmas.{early_fault, last_fault, whole_text}
use Rattle.jreport.proofs.report.report_and_scan.Goals as goal

pub returns-in_err-counts-clause-puts : goal.returns-in_err-counts-clause-puts
returns-in_err-counts-clause-puts g c =
    let scannable : IsScannable c.args.geometry.block c.args.image.now = search rules in
    early_fault g.E.Order.order c.args.geometry.block c.args.image.now _ _ _ _ _ c.from_residual.ensures.1 scannable c.in_err-counts.ensures.puts.0 c.in_err-counts.ensures.puts.1

pub returns-in_err-put_total-clause-puts : goal.returns-in_err-put_total-clause-puts
returns-in_err-put_total-clause-puts g c =
    let e = g.E.Order.order in
    let size = c.args.geometry.block in
    let image = c.args.image.now in
    let scannable : IsScannable size image = search rules in
    let line : totals_line c.in_ok-counts.counts ≡ totals_line (counts_of e size image (block_count size image)) =
    ap totals_line c.in_ok-counts.ensures.counts in
    let put = c.in_err-put_total.ensures in
    last_fault e size image _ (g.T.Sink.taken c.put_blocks.new.sink) _ _ _ _ c.from_residual-in_err-put_total.ensures.1 scannable c.in_ok-counts.ensures.puts.0
    (subst (λ (l : List ℕ). PutsPart (g.T.Sink.taken c.put_blocks.new.sink) (g.T.Sink.taken c.put_total.new.sink) l) line put.0)
    (put.1 ∙ ap next_count c.in_ok-counts.ensures.puts.1)

pub returns-clause-puts : goal.returns-clause-puts
returns-clause-puts g c =
    let e = g.E.Order.order in
    let size = c.args.geometry.block in
    let image = c.args.image.now in
    let scannable : IsScannable size image = search rules in
    let line : totals_line c.in_ok-counts.counts ≡ totals_line (counts_of e size image (block_count size image)) =
    ap totals_line c.in_ok-counts.ensures.counts in
    let put = c.in_ok-put_total.ensures in (
      scannable,
      ap (λ (counts : Counts). counts.findings) c.in_ok-counts.ensures.counts,
      whole_text e size image _ (g.T.Sink.taken c.put_blocks.new.sink) _ c.in_ok-counts.ensures.puts.0
          (subst (λ (l : List ℕ). Appends (g.T.Sink.taken c.put_blocks.new.sink) (g.T.Sink.taken c.put_total.new.sink) l) line put.0),
      put.1 ∙ c.in_ok-counts.ensures.puts.1,
    )
