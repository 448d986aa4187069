-- What a node's bytes say (Linux, include/uapi/linux/jffs2.h: `struct jffs2_raw_dirent`, `struct
-- jffs2_raw_inode`).
use Rattle.std.specs.Prelude.{◌≡◌, ◌≢◌, ◌≤◌, ◌==◌, ◌&&◌, ◌||◌, ◌+◌, ℕ, Bool, not, nat_le, nat_lt, if◌then◌else◌, IsTrue, Option, Some, None, List, length, take, drop, slice_index, bit_and}
use Rattle.flashbase.specs.Crc.{crc_of}
use Rattle.flashbase.specs.Bytes.{pad4_of}
use Rattle.jnode.specs.Order.{number_at}
use Rattle.jnode.specs.Header.{magic, header_len, magic_of, nodetype_of, totlen_of, hdr_crc_of, header_crc_of, is_accurate}
use Rattle.jnode.specs.declared.order.Endian.{Endian}
use Rattle.jnode.specs.declared.node.Dirent.{Dirent}
use Rattle.jnode.specs.declared.node.InodeNode.{InodeNode}
use Rattle.jnode.specs.declared.node.Fill.{Fill}
use Rattle.jnode.specs.declared.node.Fill.TheVariants.{Zero, Data}
use Rattle.jnode.specs.declared.node.NodeRef.{NodeRef}
use Rattle.jnode.specs.declared.node.NodeRef.TheVariants as node
use Rattle.jnode.specs.declared.node.Damage.{Damage}
use Rattle.jnode.specs.declared.node.Damage.TheVariants.{NodeCrc, NameCrc, DataCrc, Length, Range}
use Rattle.jnode.specs.declared.node.Seen.{Seen}
use Rattle.jnode.specs.declared.node.Seen.TheVariants.{Entry, Inode, Marker, Padding, Obsolete, Attribute, Skippable, ReadOnly, Incompatible, Compressed, Damaged}

-- ---- the node types of the format

abbrev pub dirent_type : ℕ
dirent_type = 0xE001

abbrev pub inode_type : ℕ
inode_type = 0xE002

abbrev pub marker_type : ℕ
marker_type = 0x2003

abbrev pub padding_type : ℕ
padding_type = 0x2004

abbrev pub summary_type : ℕ
summary_type = 0x2006

abbrev pub xattr_type : ℕ
xattr_type = 0xE008

abbrev pub xref_type : ℕ
xref_type = 0xE009

-- ---- the numbers of the checks

abbrev pub damage_number : Damage → ℕ
damage_number NodeCrc = 1
damage_number NameCrc = 2
damage_number DataCrc = 3
damage_number Length = 4
damage_number Range = 5

-- ---- tiles

-- the whole tile of the node at the start of these bytes
abbrev pub tile_of : Endian → List ℕ → List ℕ
tile_of e rest = take (pad4_of (totlen_of e rest)) rest

-- as many bytes as the tile of the header at their start
pub record IsWhole (e : Endian) (tile : List ℕ) : Type 0 where
  pub whole : length tile ≡ pad4_of (totlen_of e tile)
  pub within : totlen_of e tile ≤ length tile
  pub least : header_len ≤ totlen_of e tile

-- A whole tile, which begins with an accurate header of right magic and checksum.
pub record IsTile (e : Endian) (tile : List ℕ) : Type 0 where
  pub whole : length tile ≡ pad4_of (totlen_of e tile)
  pub right_magic : magic_of e tile ≡ magic
  pub checksum : hdr_crc_of e tile ≡ header_crc_of e tile
  pub accurate : IsTrue (is_accurate (nodetype_of e tile))

-- ---- an entry node

-- the number of bytes in front of an entry node's name
abbrev pub entry_len : ℕ
entry_len = 40

-- the number of bytes of the name
abbrev pub nsize_of : List ℕ → ℕ
nsize_of tile = slice_index tile 28

abbrev pub name_of : List ℕ → List ℕ
name_of tile = take (nsize_of tile) (drop entry_len tile)

-- the fields of an entry node, each at its place; the unused bytes 30 and 31 are free
abbrev pub dirent_of : Endian → List ℕ → Dirent
dirent_of e tile = record {
  pino = number_at e 4 12 tile;
  version = number_at e 4 16 tile;
  ino = number_at e 4 20 tile;
  mctime = number_at e 4 24 tile;
  kind = slice_index tile 29;
  name = name_of tile;
}

-- The tile reads as this entry node.
pub record ReadsEntry (e : Endian) (tile : List ℕ) (entry : Dirent) : Type 0 where
  pub is_tile : IsTile e tile
  pub nodetype : nodetype_of e tile ≡ dirent_type
  pub least : entry_len ≤ totlen_of e tile
  pub sizes : pad4_of (entry_len + nsize_of tile) ≡ pad4_of (totlen_of e tile)
  pub name_least : 1 ≤ nsize_of tile
  pub name_most : nsize_of tile ≤ 254
  pub parent : (dirent_of e tile).pino ≢ 0
  pub node_crc : number_at e 4 32 tile ≡ crc_of (take 32 tile)
  pub name_crc : number_at e 4 36 tile ≡ crc_of (name_of tile)
  pub fields : entry ≡ dirent_of e tile

-- ---- an inode node

-- the number of bytes in front of an inode node's data
abbrev pub inode_len : ℕ
inode_len = 68

-- the number of bytes of the data
abbrev pub csize_of : Endian → List ℕ → ℕ
csize_of e tile = number_at e 4 48 tile

-- how the data are compressed: 0 as they are, 1 zeros
abbrev pub compr_of : List ℕ → ℕ
compr_of tile = slice_index tile 56

abbrev pub data_of : Endian → List ℕ → List ℕ
data_of e tile = take (csize_of e tile) (drop inode_len tile)

-- the fields of an inode node, each at its place, with what it gives; usercompr at 57 and flags at
-- 58 are free
abbrev pub inode_of : Endian → List ℕ → Fill → InodeNode
inode_of e tile fill = record {
  ino = number_at e 4 12 tile;
  version = number_at e 4 16 tile;
  mode = number_at e 4 20 tile;
  uid = number_at e 2 24 tile;
  gid = number_at e 2 26 tile;
  isize = number_at e 4 28 tile;
  atime = number_at e 4 32 tile;
  mtime = number_at e 4 36 tile;
  ctime = number_at e 4 40 tile;
  offset = number_at e 4 44 tile;
  dsize = number_at e 4 52 tile;
  fill = fill;
}

-- The tile is that of an inode node whose fields are sound, whatever its compression.
pub record IsSoundInode (e : Endian) (tile : List ℕ) : Type 0 where
  pub is_tile : IsTile e tile
  pub nodetype : nodetype_of e tile ≡ inode_type
  pub least : inode_len ≤ totlen_of e tile
  pub sizes : pad4_of (inode_len + csize_of e tile) ≡ pad4_of (totlen_of e tile)
  pub object : number_at e 4 12 tile ≢ 0
  pub end : number_at e 4 44 tile + number_at e 4 52 tile ≤ 0xFFFF_FFFF
  pub node_crc : number_at e 4 64 tile ≡ crc_of (take 60 tile)
  pub data_crc : csize_of e tile ≢ 0 → number_at e 4 60 tile ≡ crc_of (data_of e tile)

-- Compression 0 gives the data, which are as long as the range, and 1 gives zeros, whatever data it
-- has.
abbrev pub ReadsFill : Endian → List ℕ → Fill → Type 0
ReadsFill e tile Zero = compr_of tile ≡ 1
ReadsFill e tile (Data bytes) =
    (compr_of tile ≡ 0) × (csize_of e tile ≡ number_at e 4 52 tile) × (bytes ≡ data_of e tile)

-- The tile reads as this inode node.
pub record ReadsInode (e : Endian) (tile : List ℕ) (inode : InodeNode) : Type 0 where
  pub sound : IsSoundInode e tile
  pub gives : ReadsFill e tile inode.fill
  pub fields : inode ≡ inode_of e tile inode.fill

-- The tile is that of a sound inode node of another compression, which is not read.
pub record ReadsCompressed (e : Endian) (tile : List ℕ) (compr : ℕ) : Type 0 where
  pub sound : IsSoundInode e tile
  pub compression : compr ≡ compr_of tile
  pub not_none : compr ≢ 0
  pub not_zero : compr ≢ 1

-- rule: Bytes and nodes: A tile reads as an inode node by facts that have no order.
--   definitions: jnode.Reading.Reads
--   code: jnode::reading::read_node
--   laws: jnode::laws::reads_one, jnode::laws::seen_is_read, jnode::laws::known_nodes
-- rule: Bytes and nodes: A tile reads as an entry node by facts that have no order.
--   definitions: jnode.Reading.Reads
--   code: jnode::reading::read_node
--   laws: jnode::laws::reads_one, jnode::laws::seen_is_read, jnode::laws::known_nodes
-- The tile reads as this node.
abbrev pub Reads : Endian → List ℕ → NodeRef → Type 0
Reads e tile (node.Entry entry) = ReadsEntry e tile entry
Reads e tile (node.Inode inode) = ReadsInode e tile inode

-- ---- the checks of an entry node

unfoldable pub is_entry_long : Endian → List ℕ → Bool
is_entry_long e tile = nat_le entry_len (totlen_of e tile)

-- the checksum at this place is that of these bytes
unfoldable pub is_crc_right : Endian → List ℕ → ℕ → List ℕ → Bool
is_crc_right e tile place covered = number_at e 4 place tile == crc_of covered

-- a node of this size takes the whole tile
unfoldable pub is_size_right : Endian → List ℕ → ℕ → Bool
is_size_right e tile size = pad4_of size == pad4_of (totlen_of e tile)

unfoldable pub is_entry_in_range : Endian → List ℕ → Bool
is_entry_in_range e tile =
    nat_le 1 (nsize_of tile) && nat_le (nsize_of tile) 254 && nat_lt 0 (number_at e 4 12 tile)

-- rule: Bytes and nodes: The first failing check names the damage.
--   definitions: jnode.Reading.entry_seen, jnode.Reading.inode_seen
--   code: jnode::reading::read_node
--   laws: jnode::laws::known_damage
-- What a tile of an entry node's type is seen as: the check that fails first is named.
unfoldable pub entry_seen : Endian → List ℕ → Seen
entry_seen e tile =
    if not (is_entry_long e tile) then Damaged Length else
    if not (is_crc_right e tile 32 (take 32 tile)) then Damaged NodeCrc else
    if not (is_size_right e tile (entry_len + nsize_of tile)) then Damaged Length else
    if not (is_entry_in_range e tile) then Damaged Range else
    if not (is_crc_right e tile 36 (name_of tile)) then Damaged NameCrc else
    Entry (dirent_of e tile)

-- ---- the checks of an inode node

unfoldable pub is_inode_long : Endian → List ℕ → Bool
is_inode_long e tile = nat_le inode_len (totlen_of e tile)

unfoldable pub is_inode_in_range : Endian → List ℕ → Bool
is_inode_in_range e tile =
    nat_lt 0 (number_at e 4 12 tile)
    && nat_le (number_at e 4 44 tile + number_at e 4 52 tile) 0xFFFF_FFFF
    && (not (compr_of tile == 0) || (csize_of e tile == number_at e 4 52 tile))

unfoldable pub is_data_crc_right : Endian → List ℕ → Bool
is_data_crc_right e tile = (csize_of e tile == 0) || is_crc_right e tile 60 (data_of e tile)

-- what an inode node that passes its checks is seen as, by its compression
unfoldable pub passed_seen : Endian → List ℕ → Seen
passed_seen e tile =
    if compr_of tile == 0 then Inode (inode_of e tile (Data (data_of e tile))) else
    if compr_of tile == 1 then Inode (inode_of e tile Zero) else
    Compressed (compr_of tile)

-- What a tile of an inode node's type is seen as: the check that fails first is named.
unfoldable pub inode_seen : Endian → List ℕ → Seen
inode_seen e tile =
    if not (is_inode_long e tile) then Damaged Length else
    if not (is_crc_right e tile 64 (take 60 tile)) then Damaged NodeCrc else
    if not (is_size_right e tile (inode_len + csize_of e tile)) then Damaged Length else
    if not (is_inode_in_range e tile) then Damaged Range else
    if not (is_data_crc_right e tile) then Damaged DataCrc else
    passed_seen e tile

-- ---- any node

-- rule: Bytes and nodes: Types that the table does not have go by their bits 0xC000.
--   definitions: jnode.Reading.other_seen
--   code: jnode::reading::read_node
--   laws: jnode::laws::known_types
-- what a type that no table has is seen as, by its two highest bits
unfoldable pub other_seen : ℕ → Seen
other_seen nodetype =
    if bit_and nodetype 0xC000 == 0xC000 then Incompatible nodetype else
    if bit_and nodetype 0xC000 == 0x8000 then ReadOnly nodetype else
    Skippable nodetype

-- what a type that is neither an entry's nor an inode's is seen as
unfoldable pub plain_seen : ℕ → Seen
plain_seen nodetype =
    if nodetype == marker_type then Marker else
    if nodetype == padding_type then Padding else
    if nodetype == summary_type then Skippable nodetype else
    if (nodetype == xattr_type) || (nodetype == xref_type) then Attribute else
    other_seen nodetype

-- rule: Bytes and nodes: A node without ACCURATE is obsolete and carries nothing.
--   definitions: jnode.Reading.seen_of, jnode.Header.is_accurate
--   code: jnode::reading::read_node
--   laws: jnode::laws::known_nodes, jnode::laws::known_types
-- What a tile with a good header is seen as.
unfoldable pub seen_of : Endian → List ℕ → Seen
seen_of e tile =
    if not (is_accurate (nodetype_of e tile)) then Obsolete else
    if nodetype_of e tile == dirent_type then entry_seen e tile else
    if nodetype_of e tile == inode_type then inode_seen e tile else
    plain_seen (nodetype_of e tile)

-- the node that is seen, if one is
abbrev pub node_in : Seen → Option NodeRef
node_in (Entry entry) = Some (node.Entry entry)
node_in (Inode inode) = Some (node.Inode inode)
node_in _ = None
