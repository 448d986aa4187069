-- Laws of whole images. Each is a statement: it holds since a public function's contract names it.
use Rattle.std.specs.Prelude.{◌≡◌, ◌↔◌, ℕ, ◌+◌, ◌*◌, ◌%◌, ◌<◌, ◌^◌, IsTrue, List, ◌∷◌, ◌++◌, Contains, None, Some}
use Rattle.flashbase.specs.Ranges.{AreBytes}
use Rattle.jnode.specs.Writing.{Fits, HoldsBytes, IsWritable}
use Rattle.jnode.specs.Reading.{Reads}
use Rattle.jnode.specs.declared.header.Header.{Header}
use Rattle.jnode.specs.declared.order.Endian.{Endian}
use Rattle.jnode.specs.declared.node.NodeRef.{NodeRef}
use Rattle.jnode.specs.declared.node.Seen.{Seen}
use Rattle.jscan.specs.Image.{is_block_size, block_of, block_count, sightings, nodes}
use Rattle.jscan.specs.Scans.{IsScannable, findings, refusal_by, before_refusal, first_refused}
use Rattle.jscan.specs.Tiling.{Tile, IsTiling}
use Rattle.jscan.specs.declared.finding.Finding.{Finding}
use Rattle.jscan.specs.declared.geometry.ScanFault.{ScanFault}
use Rattle.jscan.specs.declared.tiles.TileKind.TheVariants.{Node}

-- ---- addresses

-- Addresses strictly ascend: each is below those after it,
abbrev pub SightingsAscend : Type 0
SightingsAscend =
    (e : Endian) (size : ℕ) (image : List ℕ) (before after : List (ℕ × Seen)) (s t : ℕ × Seen)
    → sightings e size image ≡ before ++ s ∷ after → Contains after t → s.0 < t.0

abbrev pub NodesAscend : Type 0
NodesAscend =
    (e : Endian) (size : ℕ) (image : List ℕ) (before after : List (ℕ × NodeRef)) (m n : ℕ × NodeRef)
    → nodes e size image ≡ before ++ m ∷ after → Contains after n → m.0 < n.0

abbrev pub FindingsAscend : Type 0
FindingsAscend =
    (e : Endian) (size : ℕ) (image : List ℕ) (before after : List Finding) (f g : Finding)
    → findings e size image ≡ before ++ f ∷ after → Contains after g → f.addr < g.addr

-- and lie within the image's blocks,
abbrev pub SightingsAreWithin : Type 0
SightingsAreWithin = (e : Endian) (size : ℕ) (image : List ℕ) (s : ℕ × Seen)
    → Contains (sightings e size image) s → s.0 < block_count size image * size

-- so that 32 bits hold them.
abbrev pub SightingsHaveAddresses : Type 0
SightingsHaveAddresses =
    (e : Endian) (size : ℕ) (image : List ℕ) (s : ℕ × Seen) → IsScannable size image
    → Contains (sightings e size image) s → s.0 < 2 ^ 32

-- ---- refusals

-- A node refuses, and none in front of it.
pub record IsRefusedAt (ss before after : List (ℕ × Seen)) (s : ℕ × Seen) (why : ScanFault) : Type
    0 where
  pub is_at : ss ≡ before ++ s ∷ after
  pub refuses : refusal_by s ≡ Some why
  pub none_before : (t : ℕ × Seen) → Contains before t → refusal_by t ≡ None
  pub in_front : before_refusal ss ≡ before

-- The refusal of an image is that of its first node that refuses,
abbrev pub RefusalIsFirst : Type 0
RefusalIsFirst = (e : Endian) (size : ℕ) (image : List ℕ) (why : ScanFault)
    → first_refused e size image ≡ Some why
    → (before after : List (ℕ × Seen)) × (s : ℕ × Seen)
    × IsRefusedAt (sightings e size image) before after s why

-- and it has none where no node refuses.
abbrev pub NoneRefuses : Type 0
NoneRefuses = (e : Endian) (size : ℕ) (image : List ℕ) → first_refused e size image ≡ None
    → (before_refusal (sightings e size image) ≡ sightings e size image)
    × ((s : ℕ × Seen) → Contains (sightings e size image) s → refusal_by s ≡ None)

-- ---- nodes

-- Some tile of the block's one tiling is a node's, is at this place and reads as this node.
pub record HoldsNode (e : Endian) (block : List ℕ) (place : ℕ) (node : NodeRef) : Type 0 where
  pub tiles : List Tile
  pub tile : Tile
  pub header : Header
  pub tiling : IsTiling e block tiles
  pub among : Contains tiles tile
  pub here : tile.place ≡ place
  pub is_node : tile.kind ≡ Node header
  pub reads : Reads e tile.bytes node

-- An entry or inode node is among an image's nodes, with its address, exactly where one of its
-- blocks holds it.
abbrev pub NodesAreContained : Type 0
NodesAreContained =
    (e : Endian) (size : ℕ) (image : List ℕ) (addr : ℕ) (node : NodeRef) → size % 4 ≡ 0
    → Contains (nodes e size image) (addr, node)
    ↔ ((k place : ℕ) × (k < block_count size image) × (addr ≡ k * size + place)
    × HoldsNode e (block_of size image k) place node)

-- What is read of bytes fits its widths,
abbrev pub NodesFit : Type 0
NodesFit = (e : Endian) (size : ℕ) (image : List ℕ) (n : ℕ × NodeRef) → IsTrue (is_block_size size)
    → AreBytes image
    → Contains (nodes e size image) n → Fits n.1 × HoldsBytes n.1

-- and could be written: names have 1 to 254 bytes, data as many as their range, which ends below 2
-- ^ 32, and no number of an object is 0.
abbrev pub NodesAreWritable : Type 0
NodesAreWritable =
    (e : Endian) (size : ℕ) (image : List ℕ) (n : ℕ × NodeRef) → IsTrue (is_block_size size)
    → Contains (nodes e size image) n → IsWritable n.1
