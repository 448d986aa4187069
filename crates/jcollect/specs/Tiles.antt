-- The nodes of an image, copied into another one as they stand.
use Rattle.std.specs.Prelude.{◌≡◌, ℕ, ◌+◌, ◌*◌, ◌≤◌, IsTrue, List, [], map, filter, length, Contains}
use Rattle.std.specs.List.{AllByRecursion}
use Rattle.jnode.specs.Header.{header_len, has_header}
use Rattle.jnode.specs.Reading.{seen_of, tile_of, IsWhole}
use Rattle.jnode.specs.Weak.{is_sound}
use Rattle.jnode.specs.declared.node.Seen.{Seen}
use Rattle.jnode.specs.declared.order.Endian.{Endian}
use Rattle.jscan.specs.Image.{is_block_size, sightings}
use Rattle.jscan.specs.Scans.{findings}
use Rattle.jexpand.specs.Expanded.{rest_at}
use Rattle.jlog.specs.Places.{fit}
use Rattle.jlog.specs.Output.{output}
use Rattle.jlog.specs.LeftLaws.{tells}
use Rattle.jlog.specs.Forms.{placed_forms}

-- ---- what is copied

-- the bytes of the node at an address, up to the end of its last word
abbrev pub tile_in : Endian → ℕ → List ℕ → ℕ → List ℕ
tile_in e size image addr = tile_of e (rest_at size image addr)

-- those of the nodes at these addresses, in their order
abbrev pub tiles_at : Endian → ℕ → List ℕ → List ℕ → List (List ℕ)
tiles_at e size image addresses = map (tile_in e size image) addresses

-- The image of them: each block that has one begins with its clean marker, and no node crosses a
-- block's end.
abbrev pub copied_image : Endian → ℕ → List ℕ → List ℕ → List ℕ
copied_image e size image addresses = output e size 0 (tiles_at e size image addresses)

-- ---- tiles that may be stored

-- a whole tile, which is seen as a sound node
pub record IsSoundTile (e : Endian) (tile : List ℕ) : Type 0 where
  pub whole : IsWhole e tile
  pub header : IsTrue (has_header e tile)
  pub sound : IsTrue (is_sound (seen_of e tile))

-- and which blocks of this size hold after their markers
pub record IsStorableTile (e : Endian) (size : ℕ) (tile : List ℕ) : Type 0 where
  pub is : IsSoundTile e tile
  pub room : header_len + length tile ≤ size

-- Where a sound node is sighted, a sound tile stands, and it is what is sighted there.
abbrev pub SightedIsTile : Type 0
SightedIsTile = (e : Endian) (size addr : ℕ) (image : List ℕ) (s : Seen)
    → IsTrue (is_block_size size)
    → Contains (sightings e size image) (addr, s) → IsTrue (is_sound s)
    → IsSoundTile e (tile_in e size image addr) × (s ≡ seen_of e (tile_in e size image addr))

-- ---- what goes out for them

-- what a tile is seen as at its address
abbrev pub tile_sighted : Endian → ℕ × List ℕ → ℕ × Seen
tile_sighted e placed = (placed.0, seen_of e placed.1)

-- Tiles stand in an image at their addresses, and nothing else does but markers and erased flash.
pub record HasTilesAt (e : Endian) (size : ℕ) (image : List ℕ) (placed : List (ℕ × List ℕ)) : Type
    0 where
  pub sighted : filter tells (sightings e size image) ≡ map (tile_sighted e) placed
  pub stand : AllByRecursion (λ p. tile_in e size image p.0 ≡ p.1) placed
  pub clean : findings e size image ≡ []

-- what goes out for tiles from the start of an erased flash on
pub record IsImageOfTiles (e : Endian) (size blocks : ℕ) (tiles : List (List ℕ)) (image : List ℕ)
    : Type 0 where
  pub within : length image ≤ blocks * size
  pub has : HasTilesAt e size image (placed_forms size 0 tiles)

abbrev pub OutputHasTiles : Type 0
OutputHasTiles = (e : Endian) (size blocks : ℕ) (tiles : List (List ℕ))
    → IsTrue (is_block_size size)
    → AllByRecursion (IsStorableTile e size) tiles → IsTrue (fit size blocks 0 tiles)
    → IsImageOfTiles e size blocks tiles (output e size 0 tiles)
