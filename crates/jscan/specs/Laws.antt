-- Laws of tilings and extents. Each is a statement: it holds since a public function's contract
-- names it.
use Rattle.std.specs.Prelude.{◌≡◌, ℕ, ◌+◌, ◌*◌, ◌%◌, ◌<◌, ◌≤◌, ◌==◌, false, if◌then◌else◌, List, [], ◌∷◌, ◌++◌, length, take, drop, sum_by, filter_map, flat_map, Contains}
use Rattle.jnode.specs.declared.order.Endian.{Endian}
use Rattle.jnode.specs.declared.node.Dirent.{Dirent}
use Rattle.jnode.specs.declared.node.Seen.{Seen}
use Rattle.flashbase.specs.Bytes.{erased}
use Rattle.flashbase.specs.Lists.{below}
use Rattle.jnode.specs.declared.node.NodeRef.{NodeRef}
use Rattle.jnode.specs.declared.node.Seen.TheVariants.{Entry, Marker}
use Rattle.jnode.specs.Header.{header_len, IsGood, is_good}
use Rattle.jnode.specs.Reading.{seen_of, tile_of}
use Rattle.jscan.specs.Tiling.{Tile, bytes_of, IsTiling, tile_at, tiling_from, tiling}
use Rattle.jscan.specs.Extents.{extent_kind_of, is_one_run, extents, sighted}
use Rattle.jscan.specs.Image.{block_of, sightings_from, sightings_in, node_sighted, nodes}
use Rattle.jscan.specs.Blank.{marked, blank_from, IsBlankFrom}
use Rattle.jscan.specs.declared.extent.Extent.{Extent}
use Rattle.jscan.specs.declared.extent.ExtentKind.TheVariants.{Tiled, Erased}

-- A block of whole words has a tiling, which the function computes,
abbrev pub TilingExists : Type 0
TilingExists =
    (e : Endian) (block : List ℕ) → length block % 4 ≡ 0 → IsTiling e block (tiling e block)

-- and no block has another.
abbrev pub TilingIsOnly : Type 0
TilingIsOnly = (e : Endian) (block : List ℕ) (tiles : List Tile) → IsTiling e block tiles
    → tiles ≡ tiling e block

-- Each tile has a word or more.
abbrev pub TilesAreFew : Type 0
TilesAreFew = (e : Endian) (block : List ℕ) → length block % 4 ≡ 0
    → 4 * length (tiling e block) ≤ length block

-- the first tile, and then those of what follows it
abbrev pub TileThenRest : Type 0
TileThenRest = (e : Endian) (place : ℕ) (rest : List ℕ) → 0 < length rest
    → let tile = tile_at e place rest in
    tiling_from e place 0 rest
    ≡ tile ∷ tiling_from e (place + length tile.bytes) 0 (drop (length tile.bytes) rest)

-- Runs are longest: no two neighbours go on as one.
abbrev pub RunsAreLongest : Type 0
RunsAreLongest =
    (e : Endian) (start : ℕ) (block : List ℕ) (before after : List Extent) (s t : Extent)
    → extents e start block ≡ before ++ s ∷ t ∷ after → is_one_run s.kind t.kind ≡ false

-- Extents make up the block: none is empty, each begins where those before it end, and the last
-- ends where the block does.
pub record MakeUp (start : ℕ) (block : List ℕ) (ss : List Extent) : Type 0 where
  pub each : (before after : List Extent) (s : Extent) → ss ≡ before ++ s ∷ after
      → (s.addr ≡ start + sum_by (λ t. t.len) before) × (0 < s.len)
  pub whole : sum_by (λ s. s.len) ss ≡ length block

abbrev pub ExtentsMakeUp : Type 0
ExtentsMakeUp =
    (e : Endian) (start : ℕ) (block : List ℕ) → MakeUp start block (extents e start block)

-- Each has a word or more.
abbrev pub ExtentsAreFew : Type 0
ExtentsAreFew = (e : Endian) (start : ℕ) (block : List ℕ) → length block % 4 ≡ 0
    → 4 * length (extents e start block) ≤ length block

-- These tiles of the block begin at a place, have the extent's bytes, and look like it.
pub record MakeExtent (e : Endian) (block : List ℕ) (place : ℕ) (s : Extent)
    (before tiles after : List Tile) : Type 0 where
  pub stand : tiling e block ≡ before ++ (tiles ++ after)
  pub begin : length (bytes_of before) ≡ place
  pub long : length (bytes_of tiles) ≡ s.len
  pub kind : (tile : Tile) → Contains tiles tile → extent_kind_of e tile.kind tile.bytes ≡ s.kind

-- An extent consists of the bytes of tiles, each of which looks like it:
abbrev pub ExtentsAreTiles : Type 0
ExtentsAreTiles = (e : Endian) (start : ℕ) (block : List ℕ) (before after : List Extent)
    (s : Extent) → extents e start block ≡ before ++ s ∷ after
    → (tiles_before tiles tiles_after : List Tile)
    × MakeExtent e block (sum_by (λ t. t.len) before) s tiles_before tiles tiles_after

-- an erased one of bytes 0xFF alone.
abbrev pub ErasedRunsAreErased : Type 0
ErasedRunsAreErased = (e : Endian) (start : ℕ) (block : List ℕ) (before after : List Extent)
    (s : Extent) → extents e start block ≡ before ++ s ∷ after
    → s.kind ≡ Erased → take s.len (drop (sum_by (λ t. t.len) before) block) ≡ erased s.len

-- An extent seen as a node is the whole tile of a good header that is there.
pub record IsNodeAt (e : Endian) (rest : List ℕ) (s : Extent) (what : Seen) : Type 0 where
  pub good : IsGood e rest
  pub words : length rest % 4 ≡ 0
  pub long : s.len ≡ length (tile_of e rest)
  pub seen : what ≡ seen_of e (tile_of e rest)

abbrev pub NodesAreSeen : Type 0
NodesAreSeen = (e : Endian) (start : ℕ) (block : List ℕ) (before after : List Extent) (s : Extent)
    (seen : Seen) → length block % 4 ≡ 0
    → extents e start block ≡ before ++ s ∷ after → s.kind ≡ Tiled seen
    → IsNodeAt e (drop (sum_by (λ t. t.len) before) block) s seen

-- So the name of an entry seen has at most 254 bytes.
abbrev pub NamesAreShort : Type 0
NamesAreShort = (e : Endian) (start : ℕ) (block : List ℕ) (before after : List Extent) (s : Extent)
    (entry : Dirent) → length block % 4 ≡ 0
    → extents e start block ≡ before ++ s ∷ after → s.kind ≡ Tiled (Entry entry)
    → length entry.name ≤ 254

-- ---- sightings

-- The sightings of a block are its extents that are nodes' tiles.
abbrev pub SightingsAreExtents : Type 0
SightingsAreExtents = (e : Endian) (start : ℕ) (block : List ℕ)
    → sightings_in e start block ≡ filter_map sighted (extents e start block)

-- ---- where no node is

-- A part of a block has no node's tile in which there is no good header at any word,
abbrev pub HeaderlessHasNoNodes : Type 0
HeaderlessHasNoNodes = (e : Endian) (start place : ℕ) (rest : List ℕ)
    → ((word : ℕ) → is_good e (drop (4 * word) rest) ≡ false)
    → sightings_from e start place rest ≡ []

-- so erased flash has none.
abbrev pub ErasedHasNoNodes : Type 0
ErasedHasNoNodes = (e : Endian) (start n : ℕ) → sightings_in e start (erased n) ≡ []

-- Nor has a block that holds a beginning of the clean marker: its one node's tile, if any, is that
-- marker.
abbrev pub MarkedHasNoNodes : Type 0
MarkedHasNoNodes = (e : Endian) (start size j : ℕ) → j ≤ header_len → header_len ≤ size
    → sightings_in e start (marked e size j)
    ≡ (if j == header_len then (start, Marker) ∷ [] else [])

-- ---- whole images

-- the nodes of one block
abbrev pub nodes_in_block : Endian → ℕ → List ℕ → List (ℕ × NodeRef)
nodes_in_block e start block = filter_map node_sighted (sightings_in e start block)

-- An image's nodes are those of its blocks; and as the flash past it is erased, those of the
-- flash's blocks.
abbrev pub NodesAreOfBlocks : Type 0
NodesAreOfBlocks =
    (e : Endian) (size blocks : ℕ) (image : List ℕ) → 0 < size → length image ≤ blocks * size
    → nodes e size image
    ≡ flat_map (λ k. nodes_in_block e (k * size) (block_of size image k)) (below blocks)

-- the function gives the least block from which all are blank
abbrev pub BlankFromIsLeast : Type 0
BlankFromIsLeast = (e : Endian) (size : ℕ) (image : List ℕ) (blocks : ℕ)
    → IsBlankFrom e size image blocks (blank_from e size image blocks)
