use Rattle.std.proofs.Common.{◌≡◌}
use Rattle.std.specs.List.{flat_map}
use Rattle.std.specs.Io.KnownBytes.{Appends}
use Rattle.flashbase.specs.Lists.{below}
use Rattle.jscan.specs.Counts.{extents_below}
use Rattle.jmap.specs.ByteKinds.{byte_kinds, tally_of}
use Rattle.jmap.specs.MapText.{block_map}
use Rattle.jmap.proofs.map.put_blocks.Given as goal

abbrev pub invariant-loop-k : goal.invariant-loop-k
invariant-loop-k g l = record {
  put : Appends (g.T.Sink.taken l.fn.sink) (g.T.Sink.taken l.sink) (flat_map (block_map g.E.Order.order l.size l.image l.kept) (below l.k));
  failed : g.T.Sink.failures l.sink ≡ g.T.Sink.failures l.fn.sink;
  total : l.total ≡ tally_of (byte_kinds l.kept (extents_below g.E.Order.order l.size l.image l.k));
}
