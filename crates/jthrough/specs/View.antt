-- What is found out of an image before it is mounted through its compression.
use Rattle.std.specs.Prelude.{◌≡◌, ◌⊎◌, ◌<◌, ◌≤◌, ◌++◌, ◌||◌, ℕ, false, IsTrue, IsFalse, List, [], ◌∷◌, length, filter_map, Contains, Option, Some, None, option_map, option_to_list}
use Rattle.jnode.specs.declared.node.NodeRef.{NodeRef}
use Rattle.jnode.specs.declared.node.Seen.{Seen}
use Rattle.jnode.specs.declared.node.Seen.TheVariants as seen
use Rattle.jnode.specs.declared.order.Endian.{Endian}
use Rattle.jscan.specs.Image.{is_block_size, greatest_image, sightings}
use Rattle.jscan.specs.Scans.{IsScannable, findings, forbids_writing, is_read_only}
use Rattle.jscan.specs.declared.geometry.ScanFault.{ScanFault}
use Rattle.jscan.specs.declared.geometry.ScanFault.TheVariants as scan
use Rattle.jexpand.specs.Expanded.{expanded_node, tile_content, contents_of_tiles}
use Rattle.jmount.specs.declared.fault.MountFault.{MountFault}
use Rattle.jmount.specs.declared.fault.MountFault.TheVariants as mount
use Rattle.jview.specs.Through.{greatest_contents, through_fault}
use Rattle.jthrough.specs.Refusals.{HasTileFault, IsRefusedBy}
use Rattle.jthrough.specs.declared.fault.ViewFault.{ViewFault}
use Rattle.jthrough.specs.declared.fault.ViewFault.TheVariants as fault
use Rattle.jthrough.specs.declared.view.View.{View}

-- ---- faults of the crates below

abbrev pub scan_fault_viewed : ScanFault → ViewFault
scan_fault_viewed scan.BlockSize = fault.BlockSize
scan_fault_viewed scan.TooLarge = fault.TooLarge
scan_fault_viewed (scan.Incompatible addr nodetype) = fault.Incompatible addr nodetype
scan_fault_viewed (scan.Compressed addr compr) = fault.Compressed addr compr
scan_fault_viewed scan.OutOfMemory = fault.OutOfMemory

abbrev pub mount_fault_viewed : MountFault → ViewFault
mount_fault_viewed mount.BlockSize = fault.BlockSize
mount_fault_viewed mount.TooLarge = fault.TooLarge
mount_fault_viewed (mount.Incompatible addr nodetype) = fault.Incompatible addr nodetype
mount_fault_viewed (mount.Compressed addr compr) = fault.Compressed addr compr
mount_fault_viewed (mount.Clash addr) = fault.Clash addr
mount_fault_viewed mount.RootKind = fault.RootKind
mount_fault_viewed mount.OutOfMemory = fault.OutOfMemory

-- why an image is not looked at
abbrev pub IsUnviewed : ℕ → List ℕ → ViewFault → Type 0
IsUnviewed size image fault.BlockSize = IsFalse (is_block_size size)
IsUnviewed size image fault.TooLarge =
    IsTrue (is_block_size size) × (greatest_image < length image)
IsUnviewed size image fault.OutOfMemory = IsScannable size image
IsUnviewed size image (fault.Incompatible addr nodetype) = ⊥
IsUnviewed size image (fault.Compressed addr compr) = ⊥
IsUnviewed size image (fault.Data addr) = ⊥
IsUnviewed size image (fault.TooLong addr) = ⊥
IsUnviewed size image (fault.Clash addr) = ⊥
IsUnviewed size image fault.RootKind = ⊥

-- ---- tiles

-- those that give a node are kept
abbrev pub kept_tile : ℕ × Seen → Option (ℕ × Seen)
kept_tile (addr, seen.Entry entry) = Some (addr, seen.Entry entry)
kept_tile (addr, seen.Inode inode) = Some (addr, seen.Inode inode)
kept_tile (addr, seen.Compressed compr) = Some (addr, seen.Compressed compr)
kept_tile _ = None

-- the node that a tile gives, with its address
abbrev pub placed_node : Endian → ℕ → List ℕ → ℕ × Seen → Option (ℕ × NodeRef)
placed_node e size image s = option_map (λ n. (s.0, n)) (expanded_node e size image s)

abbrev pub placed_nodes : Endian → ℕ → List ℕ → List (ℕ × Seen) → List (ℕ × NodeRef)
placed_nodes e size image tiles = filter_map (placed_node e size image) tiles

-- these bytes begin with those
abbrev pub BeginWith : List ℕ → List ℕ → Type 0
BeginWith front bytes = (more : List ℕ) × (bytes ≡ front ++ more)

-- tiles of an image that have no fault by themselves, with their contents
pub record AreSeen (e : Endian) (size : ℕ) (image : List ℕ) (tiles : List (ℕ × Seen))
    (held : List ℕ) : Type 0 where
  pub sighted : (s : ℕ × Seen) → Contains tiles s → Contains (sightings e size image) s
  pub none : (s : ℕ × Seen) → Contains tiles s → through_fault e size image s ≡ None
  pub contents : BeginWith (contents_of_tiles e size image tiles) held

-- ---- a view

-- of no extent
pub record IsViewBegun (view : View) : Type 0 where
  pub tiles : view.tiles.items ≡ []
  pub findings : view.findings.items ≡ []
  pub read_only : view.read_only ≡ false
  pub refused : view.refused ≡ None

-- One tile more, which has no fault: it is kept if it gives a node, and its content is added.
pub record AddsTile (e : Endian) (size : ℕ) (image : List ℕ) (s : ℕ × Seen) (old new : View)
    (before after : List ℕ) : Type 0 where
  pub none : through_fault e size image s ≡ None
  pub tiles : new.tiles.items ≡ old.tiles.items ++ option_to_list (kept_tile s)
  pub read_only : new.read_only ≡ (old.read_only || forbids_writing s.1)
  pub contents : after ≡ before ++ tile_content e size image s
  pub few : length after ≤ greatest_contents

-- One tile more, which refuses the image by itself or by its content.
pub record RefusesTile (e : Endian) (size : ℕ) (image : List ℕ) (s : ℕ × Seen)
    (before after : List ℕ) (why : ViewFault) : Type 0 where
  pub why_is : (HasTileFault (through_fault e size image s) why × (why ≡ fault.OutOfMemory → ⊥))
      ⊎ ((why ≡ fault.TooLong s.0) × (through_fault e size image s ≡ None)
      × (greatest_contents < length (before ++ tile_content e size image s)))
  pub contents : BeginWith before after

abbrev pub TakesTileBy : Endian → ℕ → List ℕ → ℕ × Seen → View → View → List ℕ → List ℕ → Type 0
TakesTileBy e size image s old new before after =
    (new.refused ≡ None → AddsTile e size image s old new before after)
    × ((why : ViewFault) → new.refused ≡ Some why
    → RefusesTile e size image s before after why × (new.tiles.items ≡ old.tiles.items))

pub record TakesTile (e : Endian) (size : ℕ) (image : List ℕ) (s : ℕ × Seen) (old new : View)
    (before after : List ℕ) : Type 0 where
  pub takes : TakesTileBy e size image s old new before after
  pub findings : new.findings.items ≡ old.findings.items

-- What tiles come to: those that give nodes, with their contents.
pub record HasTiles (e : Endian) (size : ℕ) (image : List ℕ) (done : List (ℕ × Seen))
    (kept : List (ℕ × Seen)) (held : List ℕ) : Type 0 where
  pub none : (s : ℕ × Seen) → Contains done s → through_fault e size image s ≡ None
  pub among : (s : ℕ × Seen) → Contains kept s → Contains done s
  pub nodes : placed_nodes e size image kept ≡ placed_nodes e size image done
  pub tiles : contents_of_tiles e size image kept ≡ contents_of_tiles e size image done
  pub contents : BeginWith (contents_of_tiles e size image done) held
  pub few : length (contents_of_tiles e size image done) ≤ greatest_contents

-- what comes after them: nothing, and the whole is known; or the tile that refuses the image
abbrev pub EndsView : Endian → ℕ → List ℕ → List (ℕ × Seen) → List (ℕ × Seen) → View
    → Option ViewFault → Type 0
EndsView e size image done rest view None =
    (rest ≡ []) × (view.findings.items ≡ findings e size image)
    × (view.read_only ≡ is_read_only e size image)
EndsView e size image done rest view (Some why) =
    (s : ℕ × Seen) × (after : List (ℕ × Seen)) × (rest ≡ s ∷ after)
    × IsRefusedBy e size image done s why

-- rule: Compressed data: What an image shows through its compression, up to the first tile that
--   refuses it.
--   definitions: jthrough.View.IsViewOf, jthrough.Refusals.IsRefusedBy,
--   jview.Through.IsSoundThrough, jview.Through.IsMountThroughOf
--   code: jthrough::viewing::view_image
-- it is the view of an image
pub record IsViewOf (e : Endian) (size : ℕ) (image contents : List ℕ) (view : View) : Type 0 where
  pub scannable : IsScannable size image
  pub done : List (ℕ × Seen)
  pub rest : List (ℕ × Seen)
  pub all : sightings e size image ≡ done ++ rest
  pub has : HasTiles e size image done view.tiles.items contents
  pub ends : EndsView e size image done rest view view.refused
