-- Laws of rows. Each is a statement: it holds since a public function's contract names it.
use Rattle.std.specs.Prelude.{◌≡◌, ℕ, ◌*◌, ◌<◌, ◌≤◌, IsTrue, List, length, flat_map, slice_index, slice_index_or, Contains, AllPairs, ◌↔◌}
use Rattle.flashbase.specs.Lists.{below}
use Rattle.jnode.specs.declared.node.NodeRef.{NodeRef}
use Rattle.jnode.specs.declared.order.Endian.{Endian}
use Rattle.jscan.specs.Blank.{is_blank}
use Rattle.jscan.specs.Image.{is_block_size, block_of}
use Rattle.jexpand.specs.Expanded.{expanded_nodes, unpacked_bytes}
use Rattle.jrow.specs.Row.{blank_blocks, side_by_side, address_in, IsRowOf}

-- ---- which blocks are in it

-- They are the blank ones, all of them, upwards.
pub record AreBlankBlocks (e : Endian) (size blocks : ℕ) (image row : List ℕ) : Type 0 where
  pub ascending : AllPairs (λ a b. a < b) row
  pub each : (b : ℕ) → Contains row b
      ↔ ((b < blocks) × IsTrue (is_blank e size (block_of size image b)))

abbrev pub RowIsOfBlankBlocks : Type 0
RowIsOfBlankBlocks = (e : Endian) (size blocks : ℕ) (image : List ℕ)
    → AreBlankBlocks e size blocks image (blank_blocks e size blocks image)

-- So they are blocks of the flash, and no more than it has.
abbrev pub BlankBlocksAreRow : Type 0
BlankBlocksAreRow = (e : Endian) (size blocks : ℕ) (image : List ℕ)
    → let row = blank_blocks e size blocks image in IsRowOf blocks row × (length row ≤ blocks)

-- ---- the bytes of a row

-- A row is as long as its blocks, and its block at an index is that block of the image.
pub record IsSideBySide (size : ℕ) (row image : List ℕ) : Type 0 where
  pub long : length (side_by_side size row image) ≡ length row * size
  pub each : (index : ℕ) → index < length row
      → block_of size (side_by_side size row image) index
      ≡ block_of size image (slice_index row index)
  pub bytes : (at : ℕ) → at < length row * size
      → slice_index_or (side_by_side size row image) at 0xFF
      ≡ slice_index_or image (address_in size row at) 0xFF

abbrev pub RowIsSideBySide : Type 0
RowIsSideBySide = (size : ℕ) (row image : List ℕ) → 0 < size → IsSideBySide size row image

-- ---- block after block

-- the nodes of these blocks of an image, each block taken as an image of its own
abbrev pub nodes_of_blocks : Endian → ℕ → List ℕ → List ℕ → List NodeRef
nodes_of_blocks e size image bs = flat_map (λ b. expanded_nodes e size (block_of size image b)) bs

-- and the contents of the compressed ones
abbrev pub contents_of_blocks : Endian → ℕ → List ℕ → List ℕ → List ℕ
contents_of_blocks e size image bs =
    flat_map (λ b. unpacked_bytes e size (block_of size image b)) bs

-- The nodes of an image are those of the flash's blocks, and those of a row are those of its
-- blocks.
pub record AreOfBlocks (e : Endian) (size : ℕ) (flash image bs : List ℕ) : Type 0 where
  pub nodes : expanded_nodes e size flash ≡ nodes_of_blocks e size image bs
  pub contents : unpacked_bytes e size flash ≡ contents_of_blocks e size image bs

abbrev pub ImageIsOfBlocks : Type 0
ImageIsOfBlocks =
    (e : Endian) (size blocks : ℕ) (image : List ℕ) → IsTrue (is_block_size size)
    → length image ≤ blocks * size → AreOfBlocks e size image image (below blocks)

abbrev pub RowIsOfBlocks : Type 0
RowIsOfBlocks =
    (e : Endian) (size : ℕ) (row image : List ℕ) → IsTrue (is_block_size size)
    → AreOfBlocks e size (side_by_side size row image) image row
