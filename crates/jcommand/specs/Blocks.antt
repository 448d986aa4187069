-- The number of blocks of a flash, where it may be left out.
use Rattle.std.specs.Prelude.{◌==◌, ℕ, List, Option, Some, None, if◌then◌else◌}
use Rattle.jscan.specs.Image.{block_count}

-- as many blocks of this size as are asked for, or as an image has or begins
abbrev pub blocks_asked : Option ℕ → ℕ → List ℕ → ℕ
blocks_asked None size image = if size == 0 then 0 else block_count size image
blocks_asked (Some blocks) size image = blocks
