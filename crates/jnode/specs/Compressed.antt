-- An inode node whose data are compressed (Linux, include/uapi/linux/jffs2.h: `struct
-- jffs2_raw_inode`).
use Rattle.std.specs.Prelude.{◌≡◌, ◌≢◌, ◌≤◌, ◌<◌, ◌+◌, ℕ, Option, Some, None, List, [], ◌∷◌, ◌++◌, length}
use Rattle.flashbase.specs.Crc.{crc_of}
use Rattle.jnode.specs.Order.{number_at, bytes_in}
use Rattle.jnode.specs.Reading.{inode_type, inode_len, compr_of, data_of, seen_of, IsSoundInode}
use Rattle.jnode.specs.Writing.{header_bytes, object_bytes, time_bytes, totlen_most, FitsInode}
use Rattle.jnode.specs.declared.order.Endian.{Endian}
use Rattle.jnode.specs.declared.node.CompressedNode.{CompressedNode}
use Rattle.jnode.specs.declared.node.InodeNode.{InodeNode}
use Rattle.jnode.specs.declared.node.Fill.{Fill}
use Rattle.jnode.specs.declared.node.Fill.TheVariants.{Zero}
use Rattle.jnode.specs.declared.node.Seen.{Seen}
use Rattle.jnode.specs.declared.node.Seen.TheVariants.{Compressed}

-- ---- reading

-- its fields, each at its place, and its data as they stand
abbrev pub compressed_of : Endian → List ℕ → CompressedNode
compressed_of e tile = record {
  ino = number_at e 4 12 tile;
  version = number_at e 4 16 tile;
  mode = number_at e 4 20 tile;
  uid = number_at e 2 24 tile;
  gid = number_at e 2 26 tile;
  isize = number_at e 4 28 tile;
  atime = number_at e 4 32 tile;
  mtime = number_at e 4 36 tile;
  ctime = number_at e 4 40 tile;
  offset = number_at e 4 44 tile;
  dsize = number_at e 4 52 tile;
  compr = compr_of tile;
  «data» = data_of e tile;
}

-- rule: Bytes and nodes: A compressed node: its fields and its data, read and written.
--   definitions: jnode.Compressed.ReadsCompressedNode, jnode.Compressed.compressed_of,
--   jnode.Compressed.canonical_compressed
--   code: jnode::compressed::compressed_at, jnode::compressed::compressed_fields,
--   jnode::compressed::write_compressed
--   laws: jnode::laws::compressed_reads_back
-- The tile reads as this node: a sound inode node, whose compression is neither 0 nor 1.
pub record ReadsCompressedNode (e : Endian) (tile : List ℕ) (node : CompressedNode) : Type 0 where
  pub sound : IsSoundInode e tile
  pub not_none : node.compr ≢ 0
  pub not_zero : node.compr ≢ 1
  pub fields : node ≡ compressed_of e tile

-- the same, computed by what the tile is seen as
abbrev pub compressed_by : Endian → List ℕ → Seen → Option CompressedNode
compressed_by e tile (Compressed compr) = Some (compressed_of e tile)
compressed_by e tile _ = None

abbrev pub compressed_seen : Endian → List ℕ → Option CompressedNode
compressed_seen e tile = compressed_by e tile (seen_of e tile)

-- ---- the inode node of the same fields, which gives other bytes for its range

abbrev pub inode_with : CompressedNode → Fill → InodeNode
inode_with node fill = record {
  ino = node.ino;
  version = node.version;
  mode = node.mode;
  uid = node.uid;
  gid = node.gid;
  isize = node.isize;
  atime = node.atime;
  mtime = node.mtime;
  ctime = node.ctime;
  offset = node.offset;
  dsize = node.dsize;
  fill = fill;
}

-- ---- writing

-- its range, and how its data hold the bytes of it; usercompr and flags are 0
unfoldable pub compressed_range_bytes : Endian → CompressedNode → List ℕ
compressed_range_bytes e node =
    bytes_in e 4 node.offset ++ bytes_in e 4 (length node.data) ++ bytes_in e 4 node.dsize
    ++ node.compr ∷ 0 ∷ 0 ∷ 0 ∷ []

-- the bytes that its node_crc covers
unfoldable pub compressed_front : Endian → CompressedNode → List ℕ
compressed_front e node =
    header_bytes e inode_type (inode_len + length node.data)
    ++ object_bytes e (inode_with node Zero) ++ time_bytes e (inode_with node Zero)
    ++ compressed_range_bytes e node

-- The written form: those bytes, the checksum of the data, its node_crc, and the data.
unfoldable pub canonical_compressed : Endian → CompressedNode → List ℕ
canonical_compressed e node =
    compressed_front e node ++ bytes_in e 4 (crc_of node.data)
    ++ bytes_in e 4 (crc_of (compressed_front e node)) ++ node.data

-- each field fits its width, as those of the type do
pub record FitsCompressed (node : CompressedNode) : Type 0 where
  pub inode : FitsInode (inode_with node Zero)
  pub compr : node.compr < 256

-- what may be written: the rest is refused
pub record IsWritableCompressed (node : CompressedNode) : Type 0 where
  pub object : 1 ≤ node.ino
  pub end : node.offset + node.dsize ≤ 0xFFFF_FFFF
  pub long : inode_len + length node.data ≤ totlen_most
  pub not_none : node.compr ≢ 0
  pub not_zero : node.compr ≢ 1
