-- Laws of revisions.
use Rattle.std.specs.Prelude.{◌≡◌, ◌≤◌, ℕ, List, Some, Contains}
use Rattle.jnode.specs.declared.node.InodeNode.{InodeNode}
use Rattle.jnode.specs.declared.node.NodeRef.{NodeRef}
use Rattle.jnode.specs.declared.order.Endian.{Endian}
use Rattle.jmount.specs.Shown.{readable}
use Rattle.jmount.specs.StateOf.{inodes, state_of}
use Rattle.jmount.specs.Tree.{object}
use Rattle.jthrough.specs.Refusals.{nodes_of_tiles}
use Rattle.jversions.specs.Answers.{image_upto}
use Rattle.jversions.specs.Revisions.{content_upto, object_upto}
use Rattle.jversions.specs.Tiles.{tiles_upto}
use Rattle.jversions.specs.declared.revision.Revision.{Revision}

-- no node of the object is above the revision
abbrev pub IsLast : Revision → List NodeRef → Type 0
IsLast r ns =
    (node : InodeNode) → Contains (inodes ns) node → node.ino ≡ r.ino → node.version ≤ r.version

-- Then the object is that of the file system of all nodes,
abbrev pub LastIsShown : Type 0
LastIsShown = (r : Revision) (ns : List NodeRef) → IsLast r ns
    → object_upto r ns ≡ object (state_of ns) r.ino

-- and its bytes are those that are read there.
abbrev pub LastIsReadable : Type 0
LastIsReadable = (r : Revision) (ns : List NodeRef) (bytes : List ℕ) → IsLast r ns
    → content_upto r ns ≡ Some bytes → bytes ≡ readable (state_of ns) r.ino

-- The tiles of a revision give the nodes of the image that are of the revision.
abbrev pub TilesGiveNodes : Type 0
TilesGiveNodes = (r : Revision) (e : Endian) (size : ℕ) (image : List ℕ)
    → nodes_of_tiles e size image (tiles_upto r e size image) ≡ image_upto r e size image
