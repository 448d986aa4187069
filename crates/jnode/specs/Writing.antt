-- The written form of nodes (Linux, include/uapi/linux/jffs2.h: `struct jffs2_raw_dirent`, `struct
-- jffs2_raw_inode`).
use Rattle.std.specs.Prelude.{◌≡◌, ◌≤◌, ◌<◌, ◌+◌, ◌-◌, ◌==◌, ◌&&◌, ℕ, Bool, true, nat_le, List, [], ◌∷◌, ◌++◌, length}
use Rattle.flashbase.specs.Crc.{crc_of}
use Rattle.flashbase.specs.Bytes.{pad4_of, erased}
use Rattle.flashbase.specs.Ranges.{AreBytes, IsHalf, IsWord}
use Rattle.jnode.specs.Order.{bytes_in}
use Rattle.jnode.specs.Header.{magic, header_len}
use Rattle.jnode.specs.Reading.{dirent_type, inode_type, marker_type, padding_type, entry_len, inode_len}
use Rattle.jnode.specs.declared.order.Endian.{Endian}
use Rattle.jnode.specs.declared.node.Dirent.{Dirent}
use Rattle.jnode.specs.declared.node.InodeNode.{InodeNode}
use Rattle.jnode.specs.declared.node.Fill.{Fill}
use Rattle.jnode.specs.declared.node.Fill.TheVariants.{Zero, Data}
use Rattle.jnode.specs.declared.node.NodeRef.{NodeRef}
use Rattle.jnode.specs.declared.node.NodeRef.TheVariants.{Entry, Inode}

-- ---- the written forms

-- bytes, and their checksum
abbrev pub sealed : Endian → List ℕ → List ℕ
sealed e bytes = bytes ++ bytes_in e 4 (crc_of bytes)

-- A header: 8 bytes and their checksum.
unfoldable pub header_bytes : Endian → ℕ → ℕ → List ℕ
header_bytes e nodetype totlen =
    sealed e (bytes_in e 2 magic ++ bytes_in e 2 nodetype ++ bytes_in e 4 totlen)

-- rule: Bytes and nodes: Clean markers and padding nodes.
--   definitions: jnode.Writing.clean_marker, jnode.Writing.padding_node
--   code: jnode::writing::write_marker, jnode::writing::write_padding
--   laws: jnode::laws::marker_is_tile, jnode::laws::padding_is_tile
-- the clean marker of an erased block
abbrev pub clean_marker : Endian → List ℕ
clean_marker e = header_bytes e marker_type header_len

-- a node that fills n bytes
abbrev pub padding_node : Endian → ℕ → List ℕ
padding_node e n = header_bytes e padding_type n ++ erased (n - header_len)

-- the bytes of an entry node that its node_crc covers; the two bytes after the kind are unused
unfoldable pub entry_front : Endian → Dirent → List ℕ
entry_front e entry =
    header_bytes e dirent_type (entry_len + length entry.name)
    ++ bytes_in e 4 entry.pino ++ bytes_in e 4 entry.version ++ bytes_in e 4 entry.ino
    ++ bytes_in e 4 entry.mctime
    ++ length entry.name ∷ entry.kind ∷ 0 ∷ 0 ∷ []

-- An entry node: those bytes and their checksum, the name's checksum, and the name.
unfoldable pub canonical_entry : Endian → Dirent → List ℕ
canonical_entry e entry =
    sealed e (entry_front e entry) ++ bytes_in e 4 (crc_of entry.name) ++ entry.name

-- the bytes that an inode node holds, and their compression
abbrev pub stored_bytes : Fill → List ℕ
stored_bytes Zero = []
stored_bytes (Data bytes) = bytes

abbrev pub stored_compr : Fill → ℕ
stored_compr Zero = 1
stored_compr (Data bytes) = 0

-- whose version an inode node is, and its attributes
unfoldable pub object_bytes : Endian → InodeNode → List ℕ
object_bytes e inode =
    bytes_in e 4 inode.ino ++ bytes_in e 4 inode.version ++ bytes_in e 4 inode.mode
    ++ bytes_in e 2 inode.uid ++ bytes_in e 2 inode.gid

-- its size and times
unfoldable pub time_bytes : Endian → InodeNode → List ℕ
time_bytes e inode = bytes_in e 4 inode.isize ++ bytes_in e 4 inode.atime
    ++ bytes_in e 4 inode.mtime ++ bytes_in e 4 inode.ctime

-- its range, and how it holds the bytes of it; usercompr and flags are 0
unfoldable pub range_bytes : Endian → InodeNode → List ℕ
range_bytes e inode =
    bytes_in e 4 inode.offset ++ bytes_in e 4 (length (stored_bytes inode.fill))
    ++ bytes_in e 4 inode.dsize
    ++ stored_compr inode.fill ∷ 0 ∷ 0 ∷ 0 ∷ []

-- the bytes of an inode node that its node_crc covers
unfoldable pub inode_front : Endian → InodeNode → List ℕ
inode_front e inode = header_bytes e inode_type (inode_len + length (stored_bytes inode.fill))
    ++ object_bytes e inode ++ time_bytes e inode ++ range_bytes e inode

-- An inode node: those bytes, the checksum of the bytes that it holds, its node_crc, and the bytes
-- that it holds.
unfoldable pub canonical_inode : Endian → InodeNode → List ℕ
canonical_inode e inode =
    inode_front e inode ++ bytes_in e 4 (crc_of (stored_bytes inode.fill))
    ++ bytes_in e 4 (crc_of (inode_front e inode)) ++ stored_bytes inode.fill

-- rule: Bytes and nodes: Nodes have one written form.
--   definitions: jnode.Writing.canonical
--   code: jnode::writing::write_entry, jnode::writing::write_inode
--   laws: jnode::laws::written_reads, jnode::laws::written_is_tile, jnode::laws::known_forms
-- The written form of a node.
abbrev pub canonical : Endian → NodeRef → List ℕ
canonical e (Entry entry) = canonical_entry e entry
canonical e (Inode inode) = canonical_inode e inode

-- the bytes, and 0xFF up to a multiple of 4
abbrev pub filled : List ℕ → List ℕ
filled bytes = bytes ++ erased (pad4_of (length bytes) - length bytes)

-- ---- each field fits its width, as those of the types do

pub record FitsEntry (entry : Dirent) : Type 0 where
  pub pino : IsWord entry.pino
  pub version : IsWord entry.version
  pub ino : IsWord entry.ino
  pub mctime : IsWord entry.mctime
  pub kind : entry.kind < 256

pub record FitsInode (inode : InodeNode) : Type 0 where
  pub ino : IsWord inode.ino
  pub version : IsWord inode.version
  pub mode : IsWord inode.mode
  pub uid : IsHalf inode.uid
  pub gid : IsHalf inode.gid
  pub isize : IsWord inode.isize
  pub atime : IsWord inode.atime
  pub mtime : IsWord inode.mtime
  pub ctime : IsWord inode.ctime
  pub offset : IsWord inode.offset
  pub dsize : IsWord inode.dsize

abbrev pub Fits : NodeRef → Type 0
Fits (Entry entry) = FitsEntry entry
Fits (Inode inode) = FitsInode inode

-- the bytes of the name, or of the data, are bytes
abbrev pub HoldsBytes : NodeRef → Type 0
HoldsBytes (Entry entry) = AreBytes entry.name
HoldsBytes (Inode inode) = AreBytes (stored_bytes inode.fill)

-- ---- what may be written: the rest is refused

-- the greatest number of bytes of a node that is written
abbrev pub totlen_most : ℕ
totlen_most = 4194304

-- a name of 1 to 254 bytes
abbrev pub HasNameLength : Dirent → Type 0
HasNameLength entry = (1 ≤ length entry.name) × (length entry.name ≤ 254)

pub record IsWritableEntry (entry : Dirent) : Type 0 where
  pub name : HasNameLength entry
  pub parent : 1 ≤ entry.pino

-- data have the length of the range
abbrev pub HoldsRange : Fill → ℕ → Type 0
HoldsRange Zero dsize = Unit {0}
HoldsRange (Data bytes) dsize = length bytes ≡ dsize

pub record IsWritableInode (inode : InodeNode) : Type 0 where
  pub object : 1 ≤ inode.ino
  pub end : inode.offset + inode.dsize ≤ 0xFFFF_FFFF
  pub stored : HoldsRange inode.fill inode.dsize
  pub long : inode_len + length (stored_bytes inode.fill) ≤ totlen_most

abbrev pub IsWritable : NodeRef → Type 0
IsWritable (Entry entry) = IsWritableEntry entry
IsWritable (Inode inode) = IsWritableInode inode

-- ---- the same, computed

abbrev pub holds_range : Fill → ℕ → Bool
holds_range Zero dsize = true
holds_range (Data bytes) dsize = length bytes == dsize

-- rule: Bytes and nodes: What may be written.
--   definitions: jnode.Writing.is_writable
--   code: jnode::writing::write_entry, jnode::writing::write_inode
--   laws: jnode::laws::writable_is_computed
unfoldable pub is_writable : NodeRef → Bool
is_writable (Entry entry) =
    nat_le 1 (length entry.name) && nat_le (length entry.name) 254 && nat_le 1 entry.pino
is_writable (Inode inode) =
    nat_le 1 inode.ino && nat_le (inode.offset + inode.dsize) 0xFFFF_FFFF
    && holds_range inode.fill inode.dsize
    && nat_le (inode_len + length (stored_bytes inode.fill)) totlen_most
