-- The image of the nodes that matter, where none is compressed.
use Rattle.std.specs.Prelude.{◌≡◌, ℕ, ◌+◌, ◌*◌, ◌≤◌, false, IsTrue, List, map, length}
use Rattle.std.specs.List.{AllByRecursion}
use Rattle.jnode.specs.Header.{header_len}
use Rattle.jnode.specs.declared.order.Endian.{Endian}
use Rattle.jscan.specs.Image.{greatest_image, nodes}
use Rattle.jscan.specs.Scans.{is_read_only}
use Rattle.jmount.specs.Mounts.{IsSound, MountsAs, state}
use Rattle.jmount.specs.Tree.{State}
use Rattle.jlog.specs.Places.{fit}
use Rattle.jcompact.specs.Compacted.{IsCompactOf}
use Rattle.jcompact.specs.Matters.{Placed, AreWhatMatters}
use Rattle.jcollect.specs.Tiles.{tile_in, tiles_at, copied_image}

-- where nodes lie
abbrev pub addresses_of : List Placed → List ℕ
addresses_of ns = map (λ n. n.0) ns

-- A block holds each of the nodes at these addresses after its marker, and so many blocks have room
-- for all.
pub record FitBlocks (e : Endian) (size blocks : ℕ) (image : List ℕ) (addresses : List ℕ) : Type
    0 where
  pub each : AllByRecursion (λ addr. header_len + length (tile_in e size image addr) ≤ size)
      addresses
  pub room : IsTrue (fit size blocks 0 (tiles_at e size image addresses))

-- Some nodes of an image that matter, for which there is room.
pub record MayCollect (e : Endian) (size blocks : ℕ) (image : List ℕ) (kept : List Placed) : Type
    0 where
  pub sound : IsSound e size image
  pub matter : AreWhatMatters (nodes e size image) kept
  pub room : FitBlocks e size blocks image (addresses_of kept)

-- The image of the nodes that matter has just these, in their order, and no findings,
abbrev pub CollectedIsCompact : Type 0
CollectedIsCompact = (e : Endian) (size blocks : ℕ) (image : List ℕ) (kept : List Placed)
    → MayCollect e size blocks image kept
    → IsCompactOf e size image (copied_image e size image (addresses_of kept))

-- it ends within the blocks, and nothing forbids to write on,
pub record IsWithin (e : Endian) (size blocks : ℕ) (image : List ℕ) : Type 0 where
  pub within : length image ≤ blocks * size
  pub writable : is_read_only e size image ≡ false

abbrev pub CollectedIsWithin : Type 0
CollectedIsWithin = (e : Endian) (size blocks : ℕ) (image : List ℕ) (kept : List Placed)
    → MayCollect e size blocks image kept
    → IsWithin e size blocks (copied_image e size image (addresses_of kept))

-- and it mounts where the other one does.
abbrev pub CollectedMounts : Type 0
CollectedMounts =
    (e : Endian) (size blocks : ℕ) (image : List ℕ) (kept : List Placed) (s : State)
    → MayCollect e size blocks image kept → blocks * size ≤ greatest_image
    → MountsAs e size image s
    → let compact = copied_image e size image (addresses_of kept) in
    MountsAs e size compact (state e size compact)
