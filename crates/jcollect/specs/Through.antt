-- The image of the nodes that matter, seen through its compression: compressed nodes are copied as
-- they stand.
use Rattle.std.specs.Prelude.{◌≡◌, ℕ, ◌*◌, ◌≤◌, false, IsTrue, List, [], filter_map, None, Option}
use Rattle.std.specs.List.{AllByRecursion, flat_map}
use Rattle.jnode.specs.Compressed.{compressed_of}
use Rattle.jnode.specs.Reading.{seen_of}
use Rattle.jnode.specs.declared.node.NodeRef.{NodeRef}
use Rattle.jnode.specs.declared.order.Endian.{Endian}
use Rattle.jscan.specs.Image.{is_block_size, greatest_image}
use Rattle.jscan.specs.Scans.{findings, is_read_only}
use Rattle.jexpand.specs.Expanded.{expanded_nodes, unpacked_bytes}
use Rattle.jmount.specs.Collected.{without_addresses}
use Rattle.jmount.specs.Find.{find}
use Rattle.jmount.specs.Tree.{State, object}
use Rattle.jview.specs.Through.{node_by, content_by, fault_by, first_fault, IsSoundThrough, MountsThroughAs}
use Rattle.jthrough.specs.Addressed.{addressed_nodes}
use Rattle.jlog.specs.HeadlineThrough.{state_through}
use Rattle.jcompact.specs.Matters.{Placed, AreWhatMatters, NamesLeadTo}
use Rattle.jcollect.specs.Collecting.{addresses_of, FitBlocks}
use Rattle.jcollect.specs.Planning.{IsSoundNodeAt}
use Rattle.jcollect.specs.Tiles.{tiles_at, copied_image}

-- ---- what tiles give

abbrev pub tile_node : Endian → List ℕ → Option NodeRef
tile_node e tile = node_by (compressed_of e tile) (seen_of e tile)

abbrev pub content_of_tile : Endian → List ℕ → List ℕ
content_of_tile e tile = content_by (compressed_of e tile) (seen_of e tile)

-- wherever it lies its content is read, and a block of this size holds that
abbrev pub IsReadTile : Endian → ℕ → List ℕ → Type 0
IsReadTile e size tile =
    (addr : ℕ) → fault_by size addr (compressed_of e tile) (seen_of e tile) ≡ None

-- An image has the nodes of these tiles, and their contents; nothing refuses it, or forbids to
-- write after it, and it has no findings.
pub record ShowsTiles (e : Endian) (size : ℕ) (image : List ℕ) (tiles : List (List ℕ)) : Type
    0 where
  pub nodes : expanded_nodes e size image ≡ filter_map (tile_node e) tiles
  pub contents : unpacked_bytes e size image ≡ flat_map (content_of_tile e) tiles
  pub fault : first_fault e size image ≡ None
  pub read_only : is_read_only e size image ≡ false
  pub clean : findings e size image ≡ []

-- What goes out for nodes of an image, compressed or not, has just these, through the compression.
abbrev pub CopiedExpands : Type 0
CopiedExpands = (e : Endian) (size blocks : ℕ) (image addresses : List ℕ)
    → IsTrue (is_block_size size) → AllByRecursion (IsSoundNodeAt e size image) addresses
    → FitBlocks e size blocks image addresses
    → AllByRecursion (IsReadTile e size) (tiles_at e size image addresses)
    → ShowsTiles e size (copied_image e size image addresses) (tiles_at e size image addresses)

-- ---- the nodes that matter

-- Of the nodes of an image through its compression some that matter, for which there is room.
pub record MayCollectThrough (e : Endian) (size blocks : ℕ) (image : List ℕ) (kept : List Placed)
    : Type 0 where
  pub sound : IsSoundThrough e size image
  pub matter : AreWhatMatters (addressed_nodes e size image) kept
  pub room : FitBlocks e size blocks image (addresses_of kept)

-- An image has just the nodes of another one that matter, in the same order, through compression,
-- and no findings. Names lead in both to the same numbers or faults, and each of these objects is
-- the same.
pub record IsCompactThrough (e : Endian) (size : ℕ) (image compact : List ℕ) (kept : List Placed)
    : Type 0 where
  pub same : expanded_nodes e size compact ≡ without_addresses kept
  pub clean : findings e size compact ≡ []
  pub paths : (text : List ℕ)
      → find (state_through e size compact) text ≡ find (state_through e size image) text
  pub objects : (i : ℕ) → NamesLeadTo (state_through e size image) i
      → object (state_through e size compact) i ≡ object (state_through e size image) i

abbrev pub CollectedThroughIsCompact : Type 0
CollectedThroughIsCompact = (e : Endian) (size blocks : ℕ) (image : List ℕ) (kept : List Placed)
    → MayCollectThrough e size blocks image kept
    → IsCompactThrough e size image (copied_image e size image (addresses_of kept)) kept

-- And it mounts through where the other one does.
abbrev pub CollectedMountsThrough : Type 0
CollectedMountsThrough =
    (e : Endian) (size blocks : ℕ) (image : List ℕ) (kept : List Placed) (s : State)
    → MayCollectThrough e size blocks image kept → blocks * size ≤ greatest_image
    → MountsThroughAs e size image s
    → let compact = copied_image e size image (addresses_of kept) in
    MountsThroughAs e size compact (state_through e size compact)
