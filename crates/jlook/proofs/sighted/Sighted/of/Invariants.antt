use Rattle.jscan.specs.ImageLeft.{image_left}
use Rattle.jlook.proofs.SightedOfLemmas.{Going}
use Rattle.jlook.proofs.sighted.Sighted.of.Given as goal

abbrev pub invariant-loop-extent : goal.invariant-loop-extent
invariant-loop-extent g l = Going g.E.Order.order l.fn.geometry.block l.image (image_left l.extent-iterator) l.sighted
