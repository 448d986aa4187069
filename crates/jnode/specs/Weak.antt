-- A write that power cut short leaves the first bytes of a node, and erased flash after them.
use Rattle.std.specs.Prelude.{◌≡◌, ◌≤◌, ◌==◌, ◌⊎◌, ℕ, ◌+◌, ◌-◌, ◌&&◌, not, Bool, true, false, nat_le, bytes_eq, IsTrue, Option, Some, None, List, ◌++◌, length, take, if◌then◌else◌}
use Rattle.flashbase.specs.Bytes.{erased}
use Rattle.flashbase.specs.Crc.{crc_of}
use Rattle.jnode.specs.Header.{header_len, has_header, nodetype_of, totlen_of}
use Rattle.jnode.specs.Compressed.{canonical_compressed, FitsCompressed, IsWritableCompressed}
use Rattle.jnode.specs.Reading.{seen_of, dirent_type, inode_type, entry_len, inode_len, nsize_of, csize_of}
use Rattle.jnode.specs.Writing.{filled, totlen_most, canonical, Fits, IsWritable}
use Rattle.jnode.specs.declared.order.Endian.{Endian}
use Rattle.jnode.specs.declared.node.CompressedNode.{CompressedNode}
use Rattle.jnode.specs.declared.node.NodeRef.{NodeRef}
use Rattle.jnode.specs.declared.node.Seen.{Seen}
use Rattle.jnode.specs.declared.node.Seen.TheVariants as seen

-- what is left of bytes that were cut after j of them
abbrev pub torn : List ℕ → ℕ → List ℕ
torn bytes j = take j bytes ++ erased (length bytes - j)

-- an entry or inode node, sound by its checks
abbrev pub is_sound : Seen → Bool
is_sound (seen.Entry entry) = true
is_sound (seen.Inode inode) = true
is_sound (seen.Compressed compr) = true
is_sound _ = false

-- a header of right magic and hdr_crc, of a node that is not too long
unfoldable pub has_bounded_header : Endian → List ℕ → Bool
has_bounded_header e bytes = has_header e bytes && nat_le header_len (totlen_of e bytes)
    && nat_le (totlen_of e bytes) totlen_most

-- rule: Bytes and nodes: A cut that no check shows is weak, of a node that is compressed or not.
--   definitions: jnode.Weak.is_weak, jnode.Weak.IsLeastWeak, jnode.Weak.IsWrittenForm
--   code: jnode::weak::weak_cut
--   laws: jnode::laws::torn_header_is_none, jnode::laws::torn_node_is_damaged,
--   jnode::laws::torn_is_tile, jnode::laws::known_cuts
-- The checks do not show the cut after j bytes: what is left differs from the node, and either its
-- header differs and yet holds, or its header is the node's and all its checks hold.
unfoldable pub is_weak : Endian → List ℕ → ℕ → Bool
is_weak e bytes j =
    let left = torn bytes j in
    not (bytes_eq left bytes)
    && (if bytes_eq (take header_len left) (take header_len bytes) then is_sound
    (seen_of e (filled left)) else has_bounded_header e left)

-- the least cut that goes unseen, if there is one
abbrev pub IsLeastWeak : Endian → List ℕ → Option ℕ → Type 0
IsLeastWeak e bytes None = (j : ℕ) → is_weak e bytes j ≡ false
IsLeastWeak e bytes (Some j) =
    IsTrue (is_weak e bytes j) × ((i : ℕ) → IsTrue (is_weak e bytes i) → j ≤ i)

-- These bytes are the written form of this node, which is one that is not refused.
pub record IsWrittenAs (e : Endian) (bytes : List ℕ) (node : NodeRef) : Type 0 where
  pub form : bytes ≡ canonical e node
  pub fits : Fits node
  pub writable : IsWritable node

-- These bytes are the written form of some node.
abbrev pub IsWrittenNode : Endian → List ℕ → Type 0
IsWrittenNode e bytes = (node : NodeRef) × IsWrittenAs e bytes node

-- These bytes are the written form of a compressed node that is not refused.
pub record IsWrittenCompressed (e : Endian) (bytes : List ℕ) : Type 0 where
  pub node : CompressedNode
  pub form : bytes ≡ canonical_compressed e node
  pub fits : FitsCompressed node
  pub writable : IsWritableCompressed node

-- These bytes are the written form of a node, compressed or not.
abbrev pub IsWrittenForm : Endian → List ℕ → Type 0
IsWrittenForm e bytes = IsWrittenNode e bytes ⊎ IsWrittenCompressed e bytes

-- rule: The log: The same for nodes that may go out compressed: the rest, seen through its
--   compression. Laws of definitions alone, which no code meets yet.
--   definitions: jnode.Weak.IsForm, jlog.Forms.HasForms, jview.Through.MountsThroughAs,
--   jlog.Packed.IsNodeForm, jlog.HeadlineThrough.SurvivesAs, jlog.SessionAs.RunsAs
--   laws: jlog::laws::left_forms, jlog::laws::left_expands, jlog::laws::mount_through,
--   jlog::laws::forms_survive, jlog::laws::done_survives, jlog::laws::run_survives_as,
--   jlog::laws::unpacked_is_as_ever, jlog::laws::shorter_forms_fit,
--   jconvert::laws::through_is_converted
-- A form: bytes that begin with a header of right magic and checksum, which tells their length, and
-- that are seen as a sound node, compressed or not.
pub record IsForm (e : Endian) (form : List ℕ) : Type 0 where
  pub least : header_len ≤ length form
  pub header : IsTrue (has_header e form)
  pub totlen : totlen_of e form ≡ length form
  pub sound : IsTrue (is_sound (seen_of e (filled form)))

-- a form that is not too long, and ends where its name or its data do
pub record IsWholeForm (e : Endian) (form : List ℕ) : Type 0 where
  pub is : IsForm e form
  pub most : length form ≤ totlen_most
  pub name : nodetype_of e form ≡ dirent_type → length form ≡ entry_len + nsize_of form
  pub «data» : nodetype_of e form ≡ inode_type → length form ≡ inode_len + csize_of e form

-- where the bytes of an entry's name or of an inode node's data begin
abbrev pub stored_at : Endian → List ℕ → ℕ
stored_at e bytes = if nodetype_of e bytes == inode_type then inode_len else entry_len

-- ---- what a checksum does not show

-- The cut after j bytes leaves other bytes, of the same checksum.
unfoldable pub is_hidden : List ℕ → ℕ → Bool
is_hidden bytes j = not (bytes_eq (torn bytes j) bytes) && (crc_of bytes == crc_of (torn bytes j))

-- the least such cut, if there is one
abbrev pub IsLeastHidden : List ℕ → Option ℕ → Type 0
IsLeastHidden bytes None = (j : ℕ) → is_hidden bytes j ≡ false
IsLeastHidden bytes (Some j) =
    IsTrue (is_hidden bytes j) × ((i : ℕ) → IsTrue (is_hidden bytes i) → j ≤ i)
