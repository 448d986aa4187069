use Rattle.jscan.specs.ImageLeft.{image_left}
use Rattle.jscan.specs.Scans.{image_extents}
use Rattle.jscan.proofs.PartialScanLemmas.{ScannedSoFar}
use Rattle.jscan.proofs.scanning.scan_to_refusal.Given as goal

abbrev pub invariant-loop-extent : goal.invariant-loop-extent
invariant-loop-extent g l = ScannedSoFar (image_extents g.E.Order.order l.fn.geometry.block l.image) (image_left l.extent-iterator) l.partial
