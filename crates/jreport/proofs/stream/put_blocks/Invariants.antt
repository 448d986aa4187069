use Rattle.std.proofs.Common.{◌-◌}
use Rattle.jscan.specs.Image.{greatest_image}
use Rattle.jscan.specs.Stream.{source_of}
use Rattle.jreport.proofs.StreamLemmas.{Streaming}
use Rattle.jreport.proofs.stream.put_blocks.Given as goal

abbrev pub invariant-loop-block : goal.invariant-loop-block
invariant-loop-block g l =
    Streaming g.E.Order.order (source_of l.fn.reader) l.geometry.block l.start l.counts l.reader (g.T.Sink.taken l.fn.sink) (g.T.Sink.taken l.sink)
    (g.T.Sink.failures l.fn.sink) (g.T.Sink.failures l.sink)

abbrev pub decreases-loop-block : goal.decreases-loop-block
decreases-loop-block g l = greatest_image - l.start
