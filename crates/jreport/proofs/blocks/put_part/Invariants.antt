use Rattle.std.proofs.Common.{◌≡◌, ◌++◌, List}
use Rattle.std.specs.Prelude.{IfSome}
use Rattle.std.specs.List.{flat_map}
use Rattle.std.specs.Io.KnownBytes.{Appends}
use Rattle.jscan.specs.Counts.{block_counted}
use Rattle.jscan.specs.PartialScans.{HasScanned}
use Rattle.jscan.specs.declared.extent.Extent.{Extent}
use Rattle.jreport.specs.Forms.{block_line, extent_line}
use Rattle.jreport.proofs.blocks.put_part.Given as goal

abbrev pub invariant-loop-extent : goal.invariant-loop-extent
invariant-loop-extent g l = record {
  put : Appends (g.T.Sink.taken l.fn.sink) (g.T.Sink.taken l.sink) (block_line l.fn.counts.blocks ++ flat_map extent_line l.yielded);
  failed : g.T.Sink.failures l.sink ≡ g.T.Sink.failures l.fn.sink;
  counts : l.counts ≡ block_counted l.fn.counts l.yielded;
  scan : (before : List Extent) → IfSome l.fn.partial (HasScanned before) → IfSome l.partial (HasScanned (before ++ l.yielded));
}
