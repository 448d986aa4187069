-- Blocks without a finding.
use Rattle.std.specs.Prelude.{◌≡◌, ℕ, ◌<◌, List, [], None}
use Rattle.std.specs.List.{AllByRecursion}
use Rattle.jnode.specs.declared.order.Endian.{Endian}
use Rattle.jscan.specs.Image.{block_of, block_count}
use Rattle.jscan.specs.Extents.{extent_kind_of}
use Rattle.jscan.specs.Findings.{found}
use Rattle.jscan.specs.Scans.{findings}
use Rattle.jscan.specs.Tiling.{Tile, tiling_from}

-- none of its tiles is a finding
abbrev pub IsCleanTile : Endian → Tile → Type 0
IsCleanTile e tile = found (extent_kind_of e tile.kind tile.bytes) ≡ None

-- so of the rest of a block, from a place on
abbrev pub IsClean : Endian → ℕ → List ℕ → Type 0
IsClean e place rest = AllByRecursion (IsCleanTile e) (tiling_from e place 0 rest)

abbrev pub CleanBlocks : Type 0
CleanBlocks = (e : Endian) (size : ℕ) (image : List ℕ)
    → ((k : ℕ) → k < block_count size image → IsClean e 0 (block_of size image k))
    → findings e size image ≡ []
