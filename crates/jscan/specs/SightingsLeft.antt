-- What an iterator over sightings has left.
use Rattle.std.specs.Prelude.{ℕ, List, filter_map}
use Rattle.byteorder.specs.declared.ByteOrder.{Ghosts as OfNumbers}
use Rattle.jnode.specs.declared.node.Seen.{Seen}
use Rattle.jnode.specs.declared.order.Order.{Ghosts as OfOrder}
use Rattle.jscan.specs.Extents.{sighted}
use Rattle.jscan.specs.ImageLeft.{image_left}
use Rattle.jscan.specs.declared.sightings.Sightings.{Sightings}

abbrev pub sightings_left : {E : Type 0} {o : OfOrder E} {n : OfNumbers E} → Sightings E o n
    → List (ℕ × Seen)
sightings_left sightings = filter_map sighted (image_left sightings.extents)
