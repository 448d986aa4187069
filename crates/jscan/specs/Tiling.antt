-- How a block falls into nodes and words (Woodhouse 2001, "The format of the medium"; Linux,
-- fs/jffs2/scan.c).
use Rattle.std.specs.Prelude.{◌≡◌, ℕ, zero, suc, ◌+◌, ◌-◌, ◌<◌, ◌≤◌, nat_le, List, [], ◌∷◌, ◌++◌, length, take, drop, if◌then◌else◌}
use Rattle.std.specs.List.{flat_map}
use Rattle.flashbase.specs.Bytes.{pad4_of}
use Rattle.jnode.specs.declared.order.Endian.{Endian}
use Rattle.jnode.specs.Header.{header_len, IsGoodAt, is_good, header_of}
use Rattle.jnode.specs.Reading.{tile_of}
use Rattle.jscan.specs.declared.tiles.TileKind.{TileKind}
use Rattle.jscan.specs.declared.tiles.TileKind.TheVariants.{Node, Word, Rest}

-- a tile of a block: its place, what it is, and its bytes
pub record Tile : Type 0 where
  pub place : ℕ
  pub kind : TileKind
  pub bytes : List ℕ

-- the bytes of tiles, one after the other
abbrev pub bytes_of : List Tile → List ℕ
bytes_of = flat_map (λ tile. tile.bytes)

-- There is a node where there is a good header, whatever the node's own checks say. Elsewhere there
-- is a word of four bytes if a header's length is left, and all that is left if not.
abbrev pub IsByRule : Endian → List ℕ → ℕ → TileKind → List ℕ → Type 0
IsByRule e block place (Node header) bytes =
    IsGoodAt e block place × (header ≡ header_of e (drop place block))
    × (length bytes ≡ pad4_of header.totlen)
IsByRule e block place Word bytes =
    (¬ IsGoodAt e block place) × (place + header_len ≤ length block) × (length bytes ≡ 4)
IsByRule e block place Rest bytes = (¬ IsGoodAt e block place) × (length block < place + header_len)
    × (place + length bytes ≡ length block)

-- The tile is at this place of the block.
pub record IsTileAt (e : Endian) (block : List ℕ) (place : ℕ) (tile : Tile) : Type 0 where
  pub nonempty : 0 < length tile.bytes
  pub here : tile.place ≡ place
  pub rule : IsByRule e block place tile.kind tile.bytes

-- rule: Blocks and images: A block falls into nodes, words and a rest, in one way.
--   definitions: jscan.Tiling.IsTiling, jscan.Tiling.tiling
--   code: jscan::tiles::Tiles
--   laws: jscan::laws::one_tiling, jscan::laws::tile_then_rest, jscan::laws::tiles_are_few,
--   jscan::examples::full_block
-- Tiles whose bytes make up the block, each at the place where the ones before it end.
pub record IsTiling (e : Endian) (block : List ℕ) (tiles : List Tile) : Type 0 where
  pub whole : bytes_of tiles ≡ block
  pub each : (before after : List Tile) (tile : Tile) → tiles ≡ before ++ tile ∷ after
      → IsTileAt e block (length (bytes_of before)) tile

-- ---- the same computed: each tile from what the block has left

-- rule: Blocks and images: A node's tile is as long as its totlen says, whatever its checks say.
--   definitions: jscan.Tiling.tile_at
--   code: jscan::tiles::Tiles
--   laws: jscan::examples::hidden_entry_is_not_seen
-- the tile at the front of the rest of a block
unfoldable pub tile_at : Endian → ℕ → List ℕ → Tile
tile_at e place rest =
    if is_good e rest then
    record { place = place; kind = Node (header_of e rest); bytes = tile_of e rest }
    else if nat_le header_len (length rest) then
    record { place = place; kind = Word; bytes = take 4 rest }
    else record { place = place; kind = Rest; bytes = rest }

-- The tiles of the rest of a block, of which the first `inside` bytes lie in a tile that began
-- before.
abbrev pub tiling_from : Endian → ℕ → ℕ → List ℕ → List Tile
tiling_from e place inside [] = []
tiling_from e place (suc inside) (b ∷ rest) = tiling_from e (place + 1) inside rest
tiling_from e place zero (b ∷ rest) =
    let tile =
    tile_at e place (b ∷ rest) in tile ∷ tiling_from e (place + 1) (length tile.bytes - 1) rest

-- the tiling of a block
abbrev pub tiling : Endian → List ℕ → List Tile
tiling e block = tiling_from e 0 0 block
