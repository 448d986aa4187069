use Rattle.jscan.specs.ImageLeft.{image_left}
use Rattle.jthrough.proofs.ViewLemmas.{Viewing}
use Rattle.jthrough.proofs.viewing.view_image.Given as goal

abbrev pub invariant-loop-extent : goal.invariant-loop-extent
invariant-loop-extent g l = Viewing g.E.Order.order l.fn.geometry.block l.image (image_left l.extent-iterator) l.view l.contents.items
