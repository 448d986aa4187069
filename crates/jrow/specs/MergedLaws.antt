-- Laws of an image whose blank blocks were written. Each is a statement: it holds since a public
-- function's contract names it.
use Rattle.std.specs.Prelude.{◌≡◌, ℕ, ◌+◌, ◌*◌, ◌<◌, ◌≤◌, ◌||◌, IsTrue, IsFalse, List, length, None}
use Rattle.jnode.specs.declared.order.Endian.{Endian}
use Rattle.jscan.specs.Blank.{is_blank}
use Rattle.jscan.specs.Image.{is_block_size, block_of}
use Rattle.jscan.specs.Scans.{is_read_only}
use Rattle.jexpand.specs.Expanded.{expanded_nodes, unpacked_bytes}
use Rattle.jview.specs.Through.{first_fault}
use Rattle.jrow.specs.Merging.{Interleaves}
use Rattle.jrow.specs.Row.{blank_blocks, side_by_side}

-- the blocks that are not blank stay as they are
abbrev pub OthersStay : Endian → ℕ → ℕ → List ℕ → List ℕ → Type 0
OthersStay e size blocks base image = (b : ℕ) → b < blocks
    → IsFalse (is_blank e size (block_of size base b))
    → block_of size image b ≡ block_of size base b

-- An image has the nodes of a base and those of a row, each in their order, and the contents of
-- both. Where neither is refused it is not, and it may be written after where both may.
pub record IsMerged (e : Endian) (size : ℕ) (base written image : List ℕ) : Type 0 where
  pub nodes : Interleaves (expanded_nodes e size base) (expanded_nodes e size written)
      (expanded_nodes e size image)
  pub contents : length (unpacked_bytes e size image)
      ≡ length (unpacked_bytes e size base) + length (unpacked_bytes e size written)
  pub none : first_fault e size base ≡ None → first_fault e size written ≡ None
      → first_fault e size image ≡ None
  pub read_only : is_read_only e size image
      ≡ (is_read_only e size base || is_read_only e size written)

-- Where only blank blocks are written, the image has what the base has, and what the row has.
abbrev pub RowIsMerged : Type 0
RowIsMerged = (e : Endian) (size blocks : ℕ) (base image : List ℕ) → IsTrue (is_block_size size)
    → length base ≤ blocks * size → length image ≤ blocks * size
    → OthersStay e size blocks base image
    → IsMerged e size base (side_by_side size (blank_blocks e size blocks base) image) image
