-- What mounting an image that is looked at answers.
use Rattle.std.specs.Prelude.{◌≡◌, ℕ, ◌<◌, ◌≤◌, ◌++◌, ◌∷◌, None, IsTrue, IsFalse, List, length, Result, Ok, Err}
use Rattle.jnode.specs.declared.node.Seen.{Seen}
use Rattle.jnode.specs.declared.order.Endian.{Endian}
use Rattle.jscan.specs.Image.{is_block_size, greatest_image}
use Rattle.jscan.specs.Scans.{IsScannable, findings, is_read_only}
use Rattle.jexpand.specs.Expanded.{contents_of_tiles}
use Rattle.jmount.specs.Clash.{NoneClash}
use Rattle.jmount.specs.Mount.{Mount}
use Rattle.jmount.specs.StateOf.{state_of, tops_of}
use Rattle.jmount.specs.Tree.{State, is_directory}
use Rattle.jview.specs.Through.{greatest_contents, through_fault_among}
use Rattle.jthrough.specs.Refusals.{IsRefusedBy, nodes_of_tiles}
use Rattle.jthrough.specs.declared.fault.ViewFault.{ViewFault}
use Rattle.jthrough.specs.declared.fault.ViewFault.TheVariants as fault
use Rattle.jlook.specs.Looked.{Wants, looked_tiles}

-- ---- tiles of an image without a fault

-- None of these tiles has a fault, the contents of the compressed ones are no more bytes than may
-- be held, and no two of their nodes clash.
pub record AreSoundTiles (e : Endian) (size : ℕ) (image : List ℕ) (tiles : List (ℕ × Seen)) : Type
    0 where
  pub scannable : IsScannable size image
  pub none : through_fault_among e size image tiles ≡ None
  pub contents : length (contents_of_tiles e size image tiles) ≤ greatest_contents
  pub apart : NoneClash (nodes_of_tiles e size image tiles)

-- These tiles of the image mount, as this file system.
pub record TilesMountAs (e : Endian) (size : ℕ) (image : List ℕ) (tiles : List (ℕ × Seen))
    (s : State) : Type 0 where
  pub sound : AreSoundTiles e size image tiles
  pub root : IsTrue (is_directory (state_of (nodes_of_tiles e size image tiles)) 1)
  pub same : state_of (nodes_of_tiles e size image tiles) ≡ s

-- the mount shows these tiles of an image, with all that is found in it
pub record IsMountOfTiles (e : Endian) (size : ℕ) (image : List ℕ) (tiles : List (ℕ × Seen))
    (mount : Mount) : Type 0 where
  pub image_is : mount.image ≡ image
  pub mounts : TilesMountAs e size image tiles mount.state
  pub tops : mount.tops ≡ tops_of (nodes_of_tiles e size image tiles)
  pub findings : mount.findings ≡ findings e size image
  pub read_only : mount.read_only ≡ is_read_only e size image

-- ---- what refuses them

-- the tile at the address refuses the image, after those before it
abbrev pub IsTilesFaultAt : Endian → ℕ → List ℕ → List (ℕ × Seen) → ℕ → ViewFault → Type 0
IsTilesFaultAt e size image tiles at why =
    (before : List (ℕ × Seen)) × (s : ℕ × Seen) × (after : List (ℕ × Seen))
    × (tiles ≡ before ++ s ∷ after) × (at ≡ s.0) × IsRefusedBy e size image before s why

-- and none of lower address does
abbrev pub IsFirstTilesFaultAt : Endian → ℕ → List ℕ → List (ℕ × Seen) → ℕ → ViewFault → Type 0
IsFirstTilesFaultAt e size image tiles addr why =
    IsScannable size image × IsTilesFaultAt e size image tiles addr why
    × ((at : ℕ) (other : ViewFault) → IsTilesFaultAt e size image tiles at other → addr ≤ at)

-- ---- the answer

-- of a mount of these tiles of an image
abbrev pub AnswersTiles : Endian → ℕ → List ℕ → List (ℕ × Seen) → Result Mount ViewFault → Type 0
AnswersTiles e size image tiles (Ok mount) = IsMountOfTiles e size image tiles mount
AnswersTiles e size image tiles (Err fault.BlockSize) = IsFalse (is_block_size size)
AnswersTiles e size image tiles (Err fault.TooLarge) =
    IsTrue (is_block_size size) × (greatest_image < length image)
AnswersTiles e size image tiles (Err (fault.Incompatible addr nodetype)) =
    IsFirstTilesFaultAt e size image tiles addr (fault.Incompatible addr nodetype)
AnswersTiles e size image tiles (Err (fault.Compressed addr compr)) =
    IsFirstTilesFaultAt e size image tiles addr (fault.Compressed addr compr)
AnswersTiles e size image tiles (Err (fault.Data addr)) =
    IsFirstTilesFaultAt e size image tiles addr (fault.Data addr)
AnswersTiles e size image tiles (Err (fault.TooLong addr)) =
    IsFirstTilesFaultAt e size image tiles addr (fault.TooLong addr)
AnswersTiles e size image tiles (Err (fault.Clash addr)) =
    IsFirstTilesFaultAt e size image tiles addr (fault.Clash addr)
AnswersTiles e size image tiles (Err fault.RootKind) = AreSoundTiles e size image tiles
    × IsFalse (is_directory (state_of (nodes_of_tiles e size image tiles)) 1)
AnswersTiles e size image tiles (Err fault.OutOfMemory) = IsScannable size image

-- rule: Compressed data: The mount of an image of which some contents are wanted, and why it does
--   not mount so, by the least address.
--   definitions: jlook.Looks.AnswersLook, jlook.Looks.IsMountOfTiles,
--   jlook.Looks.IsFirstTilesFaultAt, jlook.Looked.looked_tiles
--   code: jlook::mounting::mount_looked
--   laws: jlook::laws::looking_shows_the_tree, jlook::laws::all_wanted_is_through
-- of a mount of an image as it is looked at
abbrev pub AnswersLook : Wants → Endian → ℕ → List ℕ → Result Mount ViewFault → Type 0
AnswersLook wants e size image answer =
    AnswersTiles e size image (looked_tiles wants e size image) answer

-- the image mounts, looked at, as this file system
abbrev pub LooksAs : Wants → Endian → ℕ → List ℕ → State → Type 0
LooksAs wants e size image s = TilesMountAs e size image (looked_tiles wants e size image) s
