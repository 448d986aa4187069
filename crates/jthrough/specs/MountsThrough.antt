-- What mounting an image through its compression answers.
use Rattle.std.specs.Prelude.{◌≡◌, ℕ, ◌<◌, ◌≤◌, ◌++◌, ◌∷◌, IsTrue, IsFalse, List, length, Result, Ok, Err}
use Rattle.jnode.specs.declared.node.Seen.{Seen}
use Rattle.jnode.specs.declared.order.Endian.{Endian}
use Rattle.jscan.specs.Image.{is_block_size, greatest_image, sightings}
use Rattle.jscan.specs.Scans.{IsScannable}
use Rattle.jexpand.specs.Expanded.{expanded_nodes}
use Rattle.jmount.specs.Mount.{Mount}
use Rattle.jmount.specs.StateOf.{state_of}
use Rattle.jmount.specs.Tree.{is_directory}
use Rattle.jview.specs.Through.{IsSoundThrough, IsMountThroughOf}
use Rattle.jthrough.specs.Refusals.{IsRefusedBy}
use Rattle.jthrough.specs.declared.fault.ViewFault.{ViewFault}
use Rattle.jthrough.specs.declared.fault.ViewFault.TheVariants as fault

-- the tile at the address refuses the image, after those before it
abbrev pub IsViewFaultAt : Endian → ℕ → List ℕ → ℕ → ViewFault → Type 0
IsViewFaultAt e size image at why =
    (before : List (ℕ × Seen)) × (s : ℕ × Seen) × (after : List (ℕ × Seen))
    × (sightings e size image ≡ before ++ s ∷ after) × (at ≡ s.0)
    × IsRefusedBy e size image before s why

-- and none of lower address does
abbrev pub IsFirstViewFaultAt : Endian → ℕ → List ℕ → ℕ → ViewFault → Type 0
IsFirstViewFaultAt e size image addr why =
    IsScannable size image × IsViewFaultAt e size image addr why
    × ((at : ℕ) (other : ViewFault) → IsViewFaultAt e size image at other → addr ≤ at)

-- ---- what refuses an image whatever clashes

abbrev pub IsNoClash : ViewFault → Type 0
IsNoClash why = (addr : ℕ) → why ≡ fault.Clash addr → ⊥

-- the tile at the address refuses the image, and none of lower address does but by a clash
pub record IsFirstAlone (e : Endian) (size : ℕ) (image : List ℕ) (addr : ℕ) (why : ViewFault) : Type
    0 where
  pub scannable : IsScannable size image
  pub refuses : IsViewFaultAt e size image addr why
  pub least : (at : ℕ) (other : ViewFault) → IsViewFaultAt e size image at other
      → IsNoClash other → addr ≤ at

-- so of each fault of a tile by itself
abbrev pub AnswersAlone : Endian → ℕ → List ℕ → ViewFault → Type 0
AnswersAlone e size image (fault.Incompatible addr nodetype) =
    IsFirstAlone e size image addr (fault.Incompatible addr nodetype)
AnswersAlone e size image (fault.Compressed addr compr) =
    IsFirstAlone e size image addr (fault.Compressed addr compr)
AnswersAlone e size image (fault.Data addr) = IsFirstAlone e size image addr (fault.Data addr)
AnswersAlone e size image (fault.TooLong addr) =
    IsFirstAlone e size image addr (fault.TooLong addr)
AnswersAlone e size image (fault.Clash addr) = ⊥
AnswersAlone e size image fault.BlockSize = ⊥
AnswersAlone e size image fault.TooLarge = ⊥
AnswersAlone e size image fault.RootKind = ⊥
AnswersAlone e size image fault.OutOfMemory = ⊥

-- ---- the answer

-- rule: Compressed data: The mount of an image through its compression, and why it does not mount
--   so, by the least address.
--   definitions: jthrough.MountsThrough.AnswersThrough, jthrough.MountsThrough.IsFirstViewFaultAt,
--   jthrough.Refusals.IsRefusedBy, jview.Through.IsMountThroughOf
--   code: jthrough::mounting::mount_view, jthrough::mounting::mount_through
-- the answer of a mount of an image through its compression
abbrev pub AnswersThrough : Endian → ℕ → List ℕ → Result Mount ViewFault → Type 0
AnswersThrough e size image (Ok mount) = (mount.image ≡ image) × IsMountThroughOf e size mount
AnswersThrough e size image (Err fault.BlockSize) = IsFalse (is_block_size size)
AnswersThrough e size image (Err fault.TooLarge) =
    IsTrue (is_block_size size) × (greatest_image < length image)
AnswersThrough e size image (Err (fault.Incompatible addr nodetype)) =
    IsFirstViewFaultAt e size image addr (fault.Incompatible addr nodetype)
AnswersThrough e size image (Err (fault.Compressed addr compr)) =
    IsFirstViewFaultAt e size image addr (fault.Compressed addr compr)
AnswersThrough e size image (Err (fault.Data addr)) =
    IsFirstViewFaultAt e size image addr (fault.Data addr)
AnswersThrough e size image (Err (fault.TooLong addr)) =
    IsFirstViewFaultAt e size image addr (fault.TooLong addr)
AnswersThrough e size image (Err (fault.Clash addr)) =
    IsFirstViewFaultAt e size image addr (fault.Clash addr)
AnswersThrough e size image (Err fault.RootKind) =
    IsSoundThrough e size image × IsFalse (is_directory (state_of (expanded_nodes e size image)) 1)
AnswersThrough e size image (Err fault.OutOfMemory) = IsScannable size image
