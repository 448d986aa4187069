use Rattle.std.proofs.Common.{◌≡◌, length}
use Rattle.jscan.specs.SightingsLeft.{sightings_left}
use Rattle.jscan.specs.ImageLeft.{image_left}
use Rattle.jscan.proofs.sightings.SightingsIterator.next.Given as goal

abbrev pub invariant-loop-addr : goal.invariant-loop-addr
invariant-loop-addr g l = sightings_left l.self ≡ sightings_left l.initial.self

abbrev pub decreases-loop-addr : goal.decreases-loop-addr
decreases-loop-addr g l = length (image_left l.self.extents)
