use Rattle.std.proofs.Common.{◌≡◌}
use Rattle.std.specs.Io.KnownBytes.{Appends}
use Rattle.std.specs.Prelude.{IfSome}
use Rattle.jscan.specs.Counts.{counts_of, extents_below}
use Rattle.jscan.specs.PartialScans.{HasScanned}
use Rattle.jreport.specs.Report.{lines_below}
use Rattle.jreport.proofs.report.put_blocks.Given as goal

abbrev pub invariant-loop-k : goal.invariant-loop-k
invariant-loop-k g l = record {
  put : Appends (g.T.Sink.taken l.fn.sink) (g.T.Sink.taken l.sink) (lines_below g.E.Order.order l.size l.image l.k);
  failed : g.T.Sink.failures l.sink ≡ g.T.Sink.failures l.fn.sink;
  counts : l.counts ≡ counts_of g.E.Order.order l.size l.image l.k;
  scan : IfSome l.partial (HasScanned (extents_below g.E.Order.order l.size l.image l.k));
}
