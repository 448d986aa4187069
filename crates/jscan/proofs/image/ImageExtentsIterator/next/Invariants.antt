use Rattle.std.proofs.Common.{◌≡◌}
use Rattle.jscan.specs.ImageLeft.{image_left, blocks_left}
use Rattle.jscan.proofs.image.ImageExtentsIterator.next.Given as goal

abbrev pub invariant-loop-extent : goal.invariant-loop-extent
invariant-loop-extent g l = image_left l.self ≡ image_left l.initial.self

abbrev pub decreases-loop-extent : goal.decreases-loop-extent
decreases-loop-extent g l = blocks_left l.self
