use Rattle.jscan.specs.ImageLeft.{image_left}
use Rattle.jpacked.proofs.CountLemmas.{Counting}
use Rattle.jpacked.proofs.content.contents_len.Given as goal

abbrev pub invariant-loop-extent : goal.invariant-loop-extent
invariant-loop-extent g l = Counting g.E.Order.order l.geometry.block l.image (image_left l.extent-iterator) l.sum
