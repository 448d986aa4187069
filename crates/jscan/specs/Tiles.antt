-- What an iterator over tiles gives, and has left, as tiles of the block.
use Rattle.std.specs.Prelude.{List, drop}
use Rattle.byteorder.specs.declared.ByteOrder.{Ghosts as OfNumbers}
use Rattle.jnode.specs.declared.order.Order.{Ghosts as OfOrder}
use Rattle.jscan.specs.Tiling.{Tile, tiling_from}
use Rattle.jscan.specs.declared.tiles.Tile.{Tile as TileRead}
use Rattle.jscan.specs.declared.tiles.Tiles.{Tiles}

abbrev pub tile_view : {E : Type 0} {o : OfOrder E} {n : OfNumbers E} → TileRead E o n → Tile
tile_view tile = record { place = tile.place; kind = tile.kind; bytes = tile.bytes.now }

abbrev pub tiles_left : {E : Type 0} {o : OfOrder E} {n : OfNumbers E} → Tiles E o n → List Tile
tiles_left {o = o} tiles = tiling_from o.order tiles.place 0 (drop tiles.place tiles.block.now)
