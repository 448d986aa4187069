-- An image looked at: the contents of some of its objects are wanted, and those of the others are
-- not asked for.
use Rattle.std.specs.Prelude.{ℕ, Bool, List, map, if◌then◌else◌}
use Rattle.jnode.specs.Compressed.{inode_with}
use Rattle.jnode.specs.declared.node.CompressedNode.{CompressedNode}
use Rattle.jnode.specs.declared.node.Fill.TheVariants.{Zero}
use Rattle.jnode.specs.declared.node.InodeNode.{InodeNode}
use Rattle.jnode.specs.declared.node.NodeRef.{NodeRef}
use Rattle.jnode.specs.declared.node.NodeRef.TheVariants as node
use Rattle.jnode.specs.declared.node.Seen.{Seen}
use Rattle.jnode.specs.declared.node.Seen.TheVariants as seen
use Rattle.jnode.specs.declared.order.Endian.{Endian}
use Rattle.jscan.specs.Image.{sightings}
use Rattle.jexpand.specs.Expanded.{compressed_node_at}

-- the numbers of the objects whose contents are wanted
abbrev pub Wants : Type 0
Wants = ℕ → Bool

-- ---- a node

-- the inode node of the same fields, which gives as many zeros
abbrev pub zeroed : InodeNode → InodeNode
zeroed node = record {
  ino = node.ino;
  version = node.version;
  mode = node.mode;
  uid = node.uid;
  gid = node.gid;
  isize = node.isize;
  atime = node.atime;
  mtime = node.mtime;
  ctime = node.ctime;
  offset = node.offset;
  dsize = node.dsize;
  fill = Zero;
}

abbrev pub looked_inode : Wants → InodeNode → InodeNode
looked_inode wants node = if wants node.ino then node else zeroed node

-- an entry as it is, and an inode node with its bytes if they are wanted
abbrev pub looked_node : Wants → NodeRef → NodeRef
looked_node wants (node.Entry entry) = node.Entry entry
looked_node wants (node.Inode inode) = node.Inode (looked_inode wants inode)

-- ---- a tile

-- What a tile is looked at as, by what it is seen as and by the compressed node that it then is.
-- An inode node of an object that is not wanted gives zeros, whether its data are compressed or
-- not: so two that are the same once they are expanded do not clash.
abbrev pub looked_by : Wants → CompressedNode → Seen → Seen
looked_by wants packed (seen.Inode inode) = seen.Inode (looked_inode wants inode)
looked_by wants packed (seen.Compressed compr) =
    if wants packed.ino then seen.Compressed compr else seen.Inode (inode_with packed Zero)
looked_by wants packed other = other

abbrev pub looked_tile : Wants → Endian → ℕ → List ℕ → ℕ × Seen → ℕ × Seen
looked_tile wants e size image s =
    (s.0, looked_by wants (compressed_node_at e size image s.0) s.1)

-- ---- an image

-- rule: Compressed data: The nodes of an image that is looked at: those of objects that are not
--   wanted give zeros, and nothing of theirs is decompressed.
--   definitions: jlook.Looked.looked_tile, jlook.Looked.looked_tiles
--   code: jlook::mounting::mount_looked
--   laws: jlook::laws::looking_shows_the_tree, jlook::laws::all_wanted_is_through
abbrev pub looked_tiles : Wants → Endian → ℕ → List ℕ → List (ℕ × Seen)
looked_tiles wants e size image = map (looked_tile wants e size image) (sightings e size image)
