-- What the nodes of an image are, counted in one byte order.
use Rattle.std.specs.Prelude.{ℕ, ◌+◌, ◌==◌, ◌&&◌, not, max, Bool, true, false, List, [], ◌∷◌, map, slice_index}
use Rattle.flashbase.specs.Lists.{greatest}
use Rattle.jnode.specs.Order.{number_in}
use Rattle.jnode.specs.Writing.{filled}
use Rattle.jnode.specs.declared.order.Endian.{Endian}
use Rattle.jnode.specs.declared.node.Fill.{Fill}
use Rattle.jnode.specs.declared.node.Fill.TheVariants as fill
use Rattle.jnode.specs.declared.node.Seen.TheVariants as seen
use Rattle.jscan.specs.Counts.{count_in}
use Rattle.jscan.specs.Extents.{extents}
use Rattle.jscan.specs.declared.extent.ExtentKind.{ExtentKind}
use Rattle.jscan.specs.declared.extent.ExtentKind.TheVariants.{Tiled}
use Rattle.jscan.specs.declared.extent.Extent.{Extent}
use Rattle.jinfo.specs.declared.nodes.NodeCounts.{NodeCounts}
use Rattle.jinfo.specs.declared.storage.DataCounts.{DataCounts}
use Rattle.jinfo.specs.declared.highest.Highest.{Highest}

-- The image as one block, from address 0 to its end, filled up to whole words as erased flash is:
-- its nodes, and the runs between them.
abbrev pub walk_of : Endian → List ℕ → List Extent
walk_of e image = extents e 0 (filled image)

-- ---- the nodes

abbrev pub is_node_tile : ExtentKind → Bool
is_node_tile (Tiled what) = true
is_node_tile _ = false

abbrev pub is_dirent_tile : ExtentKind → Bool
is_dirent_tile (Tiled (seen.Entry entry)) = true
is_dirent_tile _ = false

-- a sound inode node, however its data are compressed
abbrev pub is_object_tile : ExtentKind → Bool
is_object_tile (Tiled (seen.Inode inode)) = true
is_object_tile (Tiled (seen.Compressed compr)) = true
is_object_tile _ = false

abbrev pub is_obsolete_tile : ExtentKind → Bool
is_obsolete_tile (Tiled seen.Obsolete) = true
is_obsolete_tile _ = false

abbrev pub is_damaged_tile : ExtentKind → Bool
is_damaged_tile (Tiled (seen.Damaged which)) = true
is_damaged_tile _ = false

-- a clean marker, padding, or a type that carries no entry and no object
abbrev pub is_other_tile : ExtentKind → Bool
is_other_tile (Tiled seen.Marker) = true
is_other_tile (Tiled seen.Padding) = true
is_other_tile (Tiled seen.Attribute) = true
is_other_tile (Tiled (seen.Skippable nodetype)) = true
is_other_tile (Tiled (seen.ReadOnly nodetype)) = true
is_other_tile (Tiled (seen.Incompatible nodetype)) = true
is_other_tile _ = false

-- rule: What is printed: What its nodes are, counted.
--   definitions: jinfo.Census.node_counts_of, jinfo.Census.data_counts_of, jinfo.Census.highest_of
--   code: jinfo::census::census_of
abbrev pub node_counts_of : List Extent → NodeCounts
node_counts_of walk = record {
  all = count_in is_node_tile walk;
  entries = count_in is_dirent_tile walk;
  inodes = count_in is_object_tile walk;
  obsolete = count_in is_obsolete_tile walk;
  damaged = count_in is_damaged_tile walk;
  other = count_in is_other_tile walk;
}

-- ---- how the data of sound inode nodes are stored (Linux, include/uapi/linux/jffs2.h:
-- JFFS2_COMPR_..)

abbrev pub is_zero_fill : Fill → Bool
is_zero_fill fill.Zero = true
is_zero_fill (fill.Data bytes) = false

abbrev pub is_stored_tile : ExtentKind → Bool
is_stored_tile (Tiled (seen.Inode inode)) = not (is_zero_fill inode.fill)
is_stored_tile _ = false

abbrev pub is_zero_tile : ExtentKind → Bool
is_zero_tile (Tiled (seen.Inode inode)) = is_zero_fill inode.fill
is_zero_tile _ = false

abbrev pub rtime : ℕ
rtime = 2

abbrev pub zlib : ℕ
zlib = 6

abbrev pub lzo : ℕ
lzo = 7

-- of OpenWrt's kernels
abbrev pub lzma : ℕ
lzma = 8

-- its data are compressed in this way
abbrev pub is_packed_by : ℕ → ExtentKind → Bool
is_packed_by way (Tiled (seen.Compressed compr)) = compr == way
is_packed_by way _ = false

-- its data are compressed in none of these ways
abbrev pub is_packed_otherwise : ExtentKind → Bool
is_packed_otherwise (Tiled (seen.Compressed compr)) =
    not (compr == rtime) && not (compr == zlib) && not (compr == lzo)
    && not (compr == lzma)
is_packed_otherwise _ = false

abbrev pub data_counts_of : List Extent → DataCounts
data_counts_of walk = record {
  none = count_in is_stored_tile walk;
  zero = count_in is_zero_tile walk;
  rtime = count_in (is_packed_by rtime) walk;
  zlib = count_in (is_packed_by zlib) walk;
  lzo = count_in (is_packed_by lzo) walk;
  lzma = count_in (is_packed_by lzma) walk;
  other = count_in is_packed_otherwise walk;
}

-- ---- the highest numbers of sound entry and inode nodes

-- the 32-bit number at a place of a block
unfoldable pub word_in_block : Endian → List ℕ → ℕ → ℕ
word_in_block e block place = number_in e 4 (slice_index block place ∷ slice_index block (place + 1)
    ∷ slice_index block (place + 2) ∷ slice_index block (place + 3) ∷ [])

-- The greatest inode number that a node names: an entry its directory's and its object's, an inode
-- node its own, which is at byte 12 also where the data are compressed.
abbrev pub ino_named : Endian → List ℕ → ℕ → ExtentKind → ℕ
ino_named e block addr (Tiled (seen.Entry entry)) = max entry.pino entry.ino
ino_named e block addr (Tiled (seen.Inode inode)) = inode.ino
ino_named e block addr (Tiled (seen.Compressed compr)) = word_in_block e block (addr + 12)
ino_named e block addr _ = 0

-- a node's version, which is at byte 16
abbrev pub version_named : Endian → List ℕ → ℕ → ExtentKind → ℕ
version_named e block addr (Tiled (seen.Entry entry)) = entry.version
version_named e block addr (Tiled (seen.Inode inode)) = inode.version
version_named e block addr (Tiled (seen.Compressed compr)) = word_in_block e block (addr + 16)
version_named e block addr _ = 0

abbrev pub highest_of : Endian → List ℕ → List Extent → Highest
highest_of e block walk = record {
  ino = greatest (map (λ s. ino_named e block s.addr s.kind) walk);
  version = greatest (map (λ s. version_named e block s.addr s.kind) walk);
}
