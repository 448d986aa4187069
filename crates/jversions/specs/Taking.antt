-- The tiles of a revision, while they are taken one by one.
use Rattle.std.specs.Prelude.{◌≡◌, ◌⊎◌, ◌<◌, ◌≤◌, ◌++◌, ℕ, IsTrue, IsFalse, List, [], ◌∷◌, length, None}
use Rattle.jnode.specs.declared.node.Seen.{Seen}
use Rattle.jnode.specs.declared.order.Endian.{Endian}
use Rattle.jscan.specs.Image.{is_block_size, greatest_image}
use Rattle.jscan.specs.Scans.{IsScannable}
use Rattle.jexpand.specs.Expanded.{tile_content}
use Rattle.jview.specs.Through.{greatest_contents, through_fault}
use Rattle.jthrough.specs.Refusals.{HasTileFault, IsRefusedBy}
use Rattle.jthrough.specs.declared.fault.ViewFault.{ViewFault}
use Rattle.jthrough.specs.declared.fault.ViewFault.TheVariants as fault
use Rattle.jversions.specs.Tiles.{AreTilesHeld, tiles_upto}
use Rattle.jversions.specs.declared.revision.Revision.{Revision}

-- One tile more: it and its content are added.
pub record HoldsTile (e : Endian) (size : ℕ) (image : List ℕ) (s : ℕ × Seen)
    (old new : List (ℕ × Seen)) (before after : List ℕ) : Type 0 where
  pub none : through_fault e size image s ≡ None
  pub tiles : new ≡ old ++ s ∷ []
  pub contents : after ≡ before ++ tile_content e size image s
  pub few : length after ≤ greatest_contents

-- or it is refused, by itself or by its content, or memory ran out
abbrev pub RefusesHeld : Endian → ℕ → List ℕ → ℕ × Seen → List ℕ → ViewFault → Type 0
RefusesHeld e size image s before why =
    HasTileFault (through_fault e size image s) why
    ⊎ ((why ≡ fault.TooLong s.0) × (through_fault e size image s ≡ None)
    × (greatest_contents < length (before ++ tile_content e size image s)))

-- of some tiles the first that is refused, and why
abbrev pub IsFirstRefused : Endian → ℕ → List ℕ → List (ℕ × Seen) → ViewFault → Type 0
IsFirstRefused e size image tiles why =
    (before : List (ℕ × Seen)) × (s : ℕ × Seen) × (after : List (ℕ × Seen))
    × (tiles ≡ before ++ s ∷ after) × AreTilesHeld e size image before
    × IsRefusedBy e size image before s why

-- why the tiles of a revision are not taken
abbrev pub IsUntaken : Revision → Endian → ℕ → List ℕ → ViewFault → Type 0
IsUntaken r e size image fault.BlockSize = IsFalse (is_block_size size)
IsUntaken r e size image fault.TooLarge =
    IsTrue (is_block_size size) × (greatest_image < length image)
IsUntaken r e size image (fault.Compressed addr compr) = IsScannable size image
    × IsFirstRefused e size image (tiles_upto r e size image) (fault.Compressed addr compr)
IsUntaken r e size image (fault.Data addr) = IsScannable size image
    × IsFirstRefused e size image (tiles_upto r e size image) (fault.Data addr)
IsUntaken r e size image (fault.TooLong addr) = IsScannable size image
    × IsFirstRefused e size image (tiles_upto r e size image) (fault.TooLong addr)
IsUntaken r e size image fault.OutOfMemory = IsScannable size image
IsUntaken r e size image (fault.Incompatible addr nodetype) = ⊥
IsUntaken r e size image (fault.Clash addr) = ⊥
IsUntaken r e size image fault.RootKind = ⊥
