-- How a run begins, goes on and ends, in the rest of a block.
use Rattle.std.specs.Prelude.{◌≡◌, ◌≢◌, ℕ, ◌+◌, List, ◌∷◌, drop}
use Rattle.jnode.specs.Header.{magic as node_magic}
use Rattle.jnode.specs.declared.order.Endian.{Endian}
use Rattle.jscan.specs.Extents.{in_front, other_magic, extents_from}
use Rattle.jscan.specs.declared.extent.ExtentKind.{ExtentKind}

-- The first n bytes of the rest have this kind, and the run may go on after them.
unfoldable pub BeginsRun : Endian → List ℕ → ℕ → ExtentKind → Type 0
BeginsRun e rest n kind = (start place : ℕ)
    → extents_from e start place rest ≡ in_front (record
    { addr = start + place; len = n; kind = kind })
    (extents_from e start (place + n) (drop n rest))

-- The first n bytes of the rest are one extent, with this kind.
unfoldable pub IsExtent : Endian → List ℕ → ℕ → ExtentKind → Type 0
IsExtent e rest n kind = (start place : ℕ)
    → extents_from e start place rest ≡ record { addr = start + place; len = n; kind = kind }
    ∷ extents_from e start (place + n) (drop n rest)

-- No run of this kind goes on with the rest.
unfoldable pub EndsRun : Endian → List ℕ → ExtentKind → Type 0
EndsRun e rest kind = (start place addr n : ℕ)
    → in_front (record { addr = addr; len = n; kind = kind }) (extents_from e start place rest)
    ≡ record { addr = addr; len = n; kind = kind } ∷ extents_from e start place rest

-- a magic number of neither byte order, and not that of erased flash: a word with it is dirt
abbrev pub IsDirtMagic : ℕ → Type 0
IsDirtMagic magic = (magic ≢ node_magic) × (magic ≢ other_magic) × (magic ≢ 0xFFFF)
