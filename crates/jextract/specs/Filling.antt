-- How a file is filled, block by block.
use Rattle.std.specs.Prelude.{◌≡◌, ℕ, ◌+◌, ◌*◌, ◌≤◌, min, List, ◌++◌, length, Option, Result, Ok, Err, if◌then◌else◌}
use Rattle.flashbase.specs.Lists.{each_below}
use Rattle.jextract.specs.Cells.{Cells, Extends, cell_at, hole_block, is_zero, bytes_written, skipped}
use Rattle.jextract.specs.declared.folder.FolderFault.{FolderFault}

-- what lies at the places of a block
abbrev pub block_cells : List ℕ → Cells
block_cells block = if is_zero block then skipped (length block) else bytes_written block

-- A block comes after a hole that was not left yet. `Ok` has how long the hole is that is not left
-- then.
abbrev pub PutsBlock : Option Cells → Option Cells → ℕ → List ℕ → Result ℕ FolderFault → Type 0
PutsBlock old new hole block (Ok left) =
    (cells : Cells) × Extends old new cells
    × (cells ++ skipped left ≡ skipped hole ++ block_cells block) × (left ≤ hole + length block)
PutsBlock old new hole block (Err fault) = Unit

-- so many blocks of the bytes are in the file, but for a hole that is not left yet
abbrev pub HasBlocks : Option Cells → Option Cells → List ℕ → ℕ → ℕ → Type 0
HasBlocks old new bytes blocks hole =
    (cells : Cells) × Extends old new cells × (cells ++ skipped hole
    ≡ each_below (min (hole_block * blocks) (length bytes)) (cell_at bytes))
    × (hole ≤ hole_block * blocks)
