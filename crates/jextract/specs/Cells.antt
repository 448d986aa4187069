-- What lies at each place of a file of the host, and which places of it are written.
use Rattle.std.specs.Prelude.{◌≡◌, ℕ, ◌*◌, ◌/◌, ◌==◌, Bool, List, ◌++◌, take, drop, length, slice_index, replicate, map, Option, Some, None, Result, Ok, Err, unwrap_or, if◌then◌else◌}
use Rattle.std.specs.List.{list_all}
use Rattle.flashbase.specs.Lists.{each_below}
use Rattle.jextract.specs.declared.folder.FolderFault.{FolderFault}

-- A place of a file: a byte that was written, or nothing, as in a hole, which takes no room and
-- reads as 0.
abbrev pub Cells : Type 0
Cells = List (Option ℕ)

-- the bytes that a file of these places has for its reader
abbrev pub bytes_read : Cells → List ℕ
bytes_read cells = map (λ cell. unwrap_or cell 0) cells

-- a block of this many bytes is written whole, or is a hole
abbrev pub hole_block : ℕ
hole_block = 4096

abbrev pub is_zero : List ℕ → Bool
is_zero bytes = list_all (λ b. b == 0) bytes

-- the block of a number, the last one as far as there are bytes
abbrev pub block_at : List ℕ → ℕ → List ℕ
block_at bytes k = take hole_block (drop (hole_block * k) bytes)

-- what is to lie at a place: a hole where all bytes of its block are zero, and else its byte
abbrev pub cell_at : List ℕ → ℕ → Option ℕ
cell_at bytes place =
    if is_zero (block_at bytes (place / hole_block)) then None else Some (slice_index bytes place)

-- rule: Listings: A block of zeros is a hole.
--   definitions: jextract.Cells.cells_of, jextract.Cells.bytes_read
--   code: jextract::extracting::extract
--   laws: jextract::laws::holes_read_back
-- what is to lie at each place of a file of these bytes
unfoldable pub cells_of : List ℕ → Cells
cells_of bytes = each_below (length bytes) (cell_at bytes)

abbrev pub bytes_written : List ℕ → Cells
bytes_written bytes = map (λ b. Some b) bytes

abbrev pub skipped : ℕ → Cells
skipped count = replicate count None

-- known places are followed by these
abbrev pub Extends : Option Cells → Option Cells → Cells → Type 0
Extends None new more = Unit
Extends (Some cells) None more = ⊥
Extends (Some cells) (Some after) more = after ≡ cells ++ more

-- what a file failed with last is known after each failure
abbrev pub Fails : {T : Type 0} → Option FolderFault → Option FolderFault → Result T FolderFault
    → Type 0
Fails old new (Ok _) = new ≡ old
Fails old new (Err fault) = new ≡ Some fault

-- a call adds these places to a file
abbrev pub AddsCells : {T : Type 0} → Option Cells → Option Cells → Cells → Result T FolderFault
    → Type 0
AddsCells old new more (Ok _) = Extends old new more
AddsCells old new more (Err fault) = Unit
