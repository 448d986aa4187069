-- What the iterators over an image have left.
use Rattle.std.specs.Prelude.{ℕ, ◌-◌, List, ◌++◌, drop, flat_map}
use Rattle.byteorder.specs.declared.ByteOrder.{Ghosts as OfNumbers}
use Rattle.flashbase.specs.Lists.{below}
use Rattle.jnode.specs.declared.order.Endian.{Endian}
use Rattle.jnode.specs.declared.order.Order.{Ghosts as OfOrder}
use Rattle.jscan.specs.Counts.{extents_of_block}
use Rattle.jscan.specs.Image.{block_count}
use Rattle.jscan.specs.ExtentsLeft.{extents_left}
use Rattle.jscan.specs.declared.image.ImageExtents.{ImageExtents}
use Rattle.jscan.specs.declared.extent.Extent.{Extent}

-- the extents of the blocks from the k-th on
abbrev pub extents_on : Endian → ℕ → List ℕ → ℕ → List Extent
extents_on e size image k =
    flat_map (extents_of_block e size image) (drop k (below (block_count size image)))

module _ {E : Type 0} {o : OfOrder E} {n : OfNumbers E} where
  abbrev pub image_left : ImageExtents E o n → List Extent
  image_left left = extents_left left.block ++ extents_on o.order left.size left.image.now left.next

  abbrev pub blocks_left : ImageExtents E o n → ℕ
  blocks_left left = block_count left.size left.image.now - left.next
