-- The row of an image: its blank blocks, wherever they lie, as one flash that is written upwards.
use Rattle.std.specs.Prelude.{ℕ, ◌+◌, ◌-◌, ◌*◌, ◌/◌, ◌%◌, ◌<◌, ◌&&◌, nat_le, nat_lt, List, length, filter, flat_map, slice_index, AllPairs, Contains, Option, Some, None, if◌then◌else◌}
use Rattle.flashbase.specs.Lists.{below}
use Rattle.jnode.specs.declared.order.Endian.{Endian}
use Rattle.jscan.specs.Blank.{is_blank}
use Rattle.jscan.specs.Image.{block_of}

-- rule: Blocks and images: Which blocks are blank, wherever they lie.
--   definitions: jrow.Row.blank_blocks, jscan.Blank.is_blank
--   code: jrow::row::Row
--   laws: jrow::laws::row_is_of_blank_blocks, jrow::examples::third_block_is_taken
-- the blank blocks of an image on a flash of so many blocks, in ascending order; one past the
-- image's end is blank
abbrev pub blank_blocks : Endian → ℕ → ℕ → List ℕ → List ℕ
blank_blocks e size blocks image =
    filter (λ b. is_blank e size (block_of size image b)) (below blocks)

-- the blocks of a row, side by side
abbrev pub side_by_side : ℕ → List ℕ → List ℕ → List ℕ
side_by_side size row image = flat_map (block_of size image) row

-- where an address of the row lies on the flash
abbrev pub address_in : ℕ → List ℕ → ℕ → ℕ
address_in size row at = slice_index row (at / size) * size + at % size

-- an address of the flash lies in the row
abbrev pub IsInRow : ℕ → List ℕ → ℕ → Type 0
IsInRow size row at = Contains row (at / size)

-- ---- any blocks of a flash

-- These are numbers of blocks of a flash that has so many, upwards.
pub record IsRowOf (blocks : ℕ) (row : List ℕ) : Type 0 where
  pub ascending : AllPairs (λ a b. a < b) row
  pub within : (index : ℕ) → index < length row → slice_index row index < blocks

-- The flash with the blocks of the row last: where these begin,
abbrev pub start_of_row : ℕ → ℕ → List ℕ → ℕ
start_of_row size blocks row = (blocks - length row) * size

-- rule: The log: Where an address of the row lies, and what is put of an image with bytes there.
--   definitions: jrow.Row.address_of, jrow.Row.start_of_row, jrow.RowLeft.with_row,
--   jrow.Written.length_with
--   code: jrow::row::Row, jrow::placing::put_with_row, jrow::placing::written_len
--   laws: jrow::laws::row_has_addresses, jrow::laws::image_with_row_is_left,
--   jrow::laws::erased_ends_do_not_matter
-- and where on the flash an address of theirs lies.
abbrev pub address_of : ℕ → ℕ → List ℕ → ℕ → Option ℕ
address_of size blocks row at =
    let start = start_of_row size blocks row in
    if nat_le start at && nat_lt at (blocks * size) then Some
    (address_in size row (at - start)) else None
