use Rattle.jscan.specs.Image.{block_count}
use Rattle.jscan.specs.ImageLeft.{image_left}
use Rattle.jscan.specs.Scans.{image_extents}
use Rattle.jcalls.proofs.CountingLemmas.{CountingAll}
use Rattle.jcalls.proofs.looking.count_in.Given as goal

abbrev pub invariant-loop-extent : goal.invariant-loop-extent
invariant-loop-extent g l =
    CountingAll (image_extents g.E.Order.order l.block l.image) (image_left l.extent-iterator) (block_count l.block l.image) l.counts
