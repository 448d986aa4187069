use Rattle.std.proofs.Common.{◌-◌}
use Rattle.jscan.specs.Image.{greatest_image}
use Rattle.jscan.specs.Stream.{source_of}
use Rattle.jscan.proofs.StreamCounts.{Scanning}
use Rattle.jscan.proofs.counting.count_blocks.Given as goal

abbrev pub invariant-loop-block : goal.invariant-loop-block
invariant-loop-block g l = Scanning g.E.Order.order (source_of l.fn.reader) l.geometry.block l.start l.counts l.reader

abbrev pub decreases-loop-block : goal.decreases-loop-block
decreases-loop-block g l = greatest_image - l.start
