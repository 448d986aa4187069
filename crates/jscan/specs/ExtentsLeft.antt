-- What an iterator over extents has left.
use Rattle.std.specs.Prelude.{List}
use Rattle.byteorder.specs.declared.ByteOrder.{Ghosts as OfNumbers}
use Rattle.jnode.specs.declared.order.Order.{Ghosts as OfOrder}
use Rattle.jscan.specs.Extents.{extents_from}
use Rattle.jscan.specs.declared.extent.Extent.{Extent}
use Rattle.jscan.specs.declared.extents.Extents.{Extents}

abbrev pub extents_left : {E : Type 0} {o : OfOrder E} {n : OfNumbers E} → Extents E o n
    → List Extent
extents_left {o = o} left = extents_from o.order left.start left.place left.rest
