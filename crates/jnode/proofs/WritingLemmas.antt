-- What is written is read back: each field is at its place.
use Rattle.std.proofs.Common.{◌≡◌, ◌≢◌, ◌↔◌, ℕ, ◌+◌, ◌-◌, ◌^◌, ◌<◌, ◌≤◌, true, IsTrue, List, [], ◌++◌, length, take, drop, slice_index, bit_or, refl, sym, ap, ap₂, subst, ◌∙◌, arith}
use Rattle.std.proofs.lemmas.Bool.{leb-true, le-leb, eqb-true, eq-eqb, and_parts, and_from}
use Rattle.std.proofs.lemmas.List.{append_assoc, append-nil, length-append, length-replicate}
use Rattle.std.proofs.Math.Seq.{take-append_seam}
use Rattle.flashbase.specs.Crc.{crc_of}
use Rattle.flashbase.specs.Bytes.{pad4_of, erased}
use Rattle.flashbase.proofs.CrcLemmas.{crc_of-lt}
use Rattle.flashbase.proofs.BytesLemmas.{le_pad4}
use Rattle.jnode.specs.Order.{number_in, number_at, bytes_in}
use Rattle.jnode.specs.Header.{magic, accurate_bit, is_accurate, magic_of, nodetype_of, totlen_of, hdr_crc_of, header_crc_of}
use Rattle.jnode.specs.Reading.{dirent_type, inode_type, marker_type, padding_type, seen_of, plain_seen, entry_len, inode_len, IsTile, ReadsEntry, ReadsInode, ReadsFill, Reads, dirent_of, inode_of, name_of, csize_of, compr_of, data_of}
use Rattle.jnode.specs.Writing.{header_bytes, clean_marker, padding_node, entry_front, canonical_entry, object_bytes, time_bytes, range_bytes, inode_front, canonical_inode, canonical, filled, stored_bytes, stored_compr, HoldsRange, holds_range, is_writable, FitsEntry, FitsInode, Fits, IsWritableEntry, IsWritableInode, IsWritable}
use Rattle.jnode.specs.declared.order.Endian.{Endian}
use Rattle.jnode.specs.declared.order.Endian.TheVariants.{Little, Big}
use Rattle.jnode.specs.declared.node.Dirent.{Dirent}
use Rattle.jnode.specs.declared.node.InodeNode.{InodeNode}
use Rattle.jnode.specs.declared.node.Fill.{Fill}
use Rattle.jnode.specs.declared.node.Fill.TheVariants.{Zero, Data}
use Rattle.jnode.specs.declared.node.NodeRef.{NodeRef}
use Rattle.jnode.specs.declared.node.NodeRef.TheVariants.{Entry, Inode}
use Rattle.jnode.specs.Laws.{IsTileOf, IsMarkerTile, IsPaddingTile}
use Rattle.jnode.proofs.OrderLemmas.{number_in-take, number_in-bytes_in}
use Rattle.jnode.proofs.HeaderLemmas.{good_again}

-- ---- numbers

-- the number whose bytes these are
pub number_is : (e : Endian) (n x : ℕ) (xs : List ℕ) → take n xs ≡ bytes_in e n x → x < 256 ^ n → number_in e n xs ≡ x
number_is e n x xs is small =
    sym (number_in-take e n n xs (omega arith))
    ∙ ap (number_in e n) (is ∙ sym (append-nil (bytes_in e n x)))
    ∙ number_in-bytes_in e n x [] small

-- ---- a header

-- the bytes of a header, field by field
pub record HeaderBytes (e : Endian) (nodetype totlen : ℕ) (tile : List ℕ) : Type 0 where
  pub magic_is : take 2 tile ≡ bytes_in e 2 magic
  pub type_is : take 2 (drop 2 tile) ≡ bytes_in e 2 nodetype
  pub totlen_is : take 4 (drop 4 tile) ≡ bytes_in e 4 totlen
  pub crc_is : take 4 (drop 8 tile) ≡ bytes_in e 4 (crc_of (bytes_in e 2 magic ++ bytes_in e 2 nodetype ++ bytes_in e 4 totlen))

pub header_bytes_are : (e : Endian) (nodetype totlen : ℕ) (rest : List ℕ) → HeaderBytes e nodetype totlen (header_bytes e nodetype totlen ++ rest)
unfolding header_bytes bytes_in
header_bytes_are Little nodetype totlen rest = record { magic_is = refl; type_is = refl; totlen_is = refl; crc_is = refl }
header_bytes_are Big nodetype totlen rest = record { magic_is = refl; type_is = refl; totlen_is = refl; crc_is = refl }

-- what is in a header
pub record HasHeader (e : Endian) (nodetype totlen : ℕ) (tile : List ℕ) : Type 0 where
  pub right_magic : magic_of e tile ≡ magic
  pub nodetype_is : nodetype_of e tile ≡ nodetype
  pub totlen_is : totlen_of e tile ≡ totlen
  pub checksum : hdr_crc_of e tile ≡ header_crc_of e tile

pub header_reads : (e : Endian) (nodetype totlen : ℕ) (tile : List ℕ) → HeaderBytes e nodetype totlen tile
    → nodetype < 2 ^ 16 → totlen < 2 ^ 32 → bit_or nodetype accurate_bit ≡ nodetype → HasHeader e nodetype totlen tile
unfolding header_crc_of
header_reads e nodetype totlen tile b small_type small accurate =
    let front : List ℕ = bytes_in e 2 magic ++ bytes_in e 2 nodetype ++ bytes_in e 4 totlen in
    let kind : nodetype_of e tile ≡ nodetype = number_is e 2 nodetype (drop 2 tile) b.type_is small_type in
    let sum : hdr_crc_of e tile ≡ crc_of front = number_is e 4 (crc_of front) (drop 8 tile) b.crc_is (crc_of-lt front) in
    let covered : (take 2 tile ++ bytes_in e 2 (bit_or (nodetype_of e tile) accurate_bit)) ++ take 4 (drop 4 tile) ≡ front =
    ap₂ (λ (x y : List ℕ). x ++ y)
    (ap₂ (λ (x : List ℕ) (t : ℕ). x ++ bytes_in e 2 t) b.magic_is (ap (λ (t : ℕ). bit_or t accurate_bit) kind ∙ accurate)) b.totlen_is in
    record {
      right_magic = number_is e 2 magic tile b.magic_is (omega arith);
      nodetype_is = kind;
      totlen_is = number_is e 4 totlen (drop 4 tile) b.totlen_is small;
      checksum = sum ∙ sym (ap crc_of covered);
    }

pub tile_from : (e : Endian) (nodetype totlen : ℕ) (tile : List ℕ) → HasHeader e nodetype totlen tile → length tile ≡ pad4_of totlen
    → IsTrue (is_accurate nodetype) → IsTile e tile
tile_from e nodetype totlen tile h long accurate = record {
  whole = long ∙ ap pad4_of (sym h.totlen_is);
  right_magic = h.right_magic;
  checksum = h.checksum;
  accurate = ap is_accurate h.nodetype_is ∙ accurate;
}

-- ---- an entry node

-- the bytes of an entry node, field by field
pub record EntryBytes (e : Endian) (d : Dirent) (rest tile : List ℕ) : Type 0 where
  pub header : HeaderBytes e dirent_type (entry_len + length d.name) tile
  pub pino : take 4 (drop 12 tile) ≡ bytes_in e 4 d.pino
  pub version : take 4 (drop 16 tile) ≡ bytes_in e 4 d.version
  pub ino : take 4 (drop 20 tile) ≡ bytes_in e 4 d.ino
  pub mctime : take 4 (drop 24 tile) ≡ bytes_in e 4 d.mctime
  pub nsize : slice_index tile 28 ≡ length d.name
  pub kind : slice_index tile 29 ≡ d.kind
  pub front : take 32 tile ≡ entry_front e d
  pub node_crc : take 4 (drop 32 tile) ≡ bytes_in e 4 (crc_of (entry_front e d))
  pub name_crc : take 4 (drop 36 tile) ≡ bytes_in e 4 (crc_of d.name)
  pub behind : drop 40 tile ≡ d.name ++ rest

pub entry_bytes_are : (e : Endian) (d : Dirent) (rest : List ℕ) → EntryBytes e d rest (canonical_entry e d ++ rest)
unfolding canonical_entry entry_front header_bytes bytes_in
entry_bytes_are Little d rest = record {
  header = record { magic_is = refl; type_is = refl; totlen_is = refl; crc_is = refl };
  pino = refl;
  version = refl;
  ino = refl;
  mctime = refl;
  nsize = refl;
  kind = refl;
  front = refl;
  node_crc = refl;
  name_crc = refl;
  behind = refl;
}
entry_bytes_are Big d rest = record {
  header = record { magic_is = refl; type_is = refl; totlen_is = refl; crc_is = refl };
  pino = refl;
  version = refl;
  ino = refl;
  mctime = refl;
  nsize = refl;
  kind = refl;
  front = refl;
  node_crc = refl;
  name_crc = refl;
  behind = refl;
}

dirent_from : (e : Endian) (tile : List ℕ) (node : Dirent)
    → number_at e 4 12 tile ≡ node.pino → number_at e 4 16 tile ≡ node.version → number_at e 4 20 tile ≡ node.ino → number_at e 4 24 tile ≡ node.mctime
    → slice_index tile 29 ≡ node.kind → name_of tile ≡ node.name → node ≡ dirent_of e tile
dirent_from e tile node pino version ino mctime kind name = rw (pino, version, ino, mctime, kind, name) refl

entry_reads : (e : Endian) (d : Dirent) (rest tile : List ℕ) → EntryBytes e d rest tile → FitsEntry d → IsWritableEntry d
    → length tile ≡ pad4_of (entry_len + length d.name) → ReadsEntry e tile d
entry_reads e d rest tile b fits writable long =
    let n : ℕ = length d.name in
    let name_least : 1 ≤ n = writable.name.0 in
    let name_most : n ≤ 254 = writable.name.1 in
    let parent : 1 ≤ d.pino = writable.parent in
    let h = header_reads e dirent_type (entry_len + n) tile b.header (omega arith) (omega arith) refl in
    let pino : number_at e 4 12 tile ≡ d.pino = number_is e 4 d.pino (drop 12 tile) b.pino fits.pino in
    let totlen : totlen_of e tile ≡ entry_len + n = h.totlen_is in
    let nsize : slice_index tile 28 ≡ n = b.nsize in
    let name : name_of tile ≡ d.name = ap₂ (λ (k : ℕ) (xs : List ℕ). take k xs) nsize b.behind ∙ take-append_seam d.name rest in
    record {
      is_tile = tile_from e dirent_type (entry_len + n) tile h long refl;
      nodetype = h.nodetype_is;
      least = omega arith;
      sizes = ap (λ (k : ℕ). pad4_of (entry_len + k)) nsize ∙ ap pad4_of (sym totlen);
      name_least = omega arith;
      name_most = omega arith;
      parent = λ none. absurd (omega (arith, none, pino));
      node_crc = number_is e 4 (crc_of (entry_front e d)) (drop 32 tile) b.node_crc (crc_of-lt (entry_front e d)) ∙ ap crc_of (sym b.front);
      name_crc = number_is e 4 (crc_of d.name) (drop 36 tile) b.name_crc (crc_of-lt d.name) ∙ ap crc_of (sym name);
      fields = dirent_from e tile d pino
          (number_is e 4 d.version (drop 16 tile) b.version fits.version)
          (number_is e 4 d.ino (drop 20 tile) b.ino fits.ino)
          (number_is e 4 d.mctime (drop 24 tile) b.mctime fits.mctime)
          b.kind name;
    }

pub length-canonical_entry : (e : Endian) (d : Dirent) → length (canonical_entry e d) ≡ entry_len + length d.name
unfolding canonical_entry entry_front header_bytes bytes_in
length-canonical_entry Little d = omega arith
length-canonical_entry Big d = omega arith

pub length-filled : (bytes : List ℕ) → length (filled bytes) ≡ pad4_of (length bytes)
length-filled bytes =
    let up = le_pad4 (length bytes) in
    omega (arith, length-append bytes (erased (pad4_of (length bytes) - length bytes)), length-replicate {A = ℕ} (pad4_of (length bytes) - length bytes) 0xFF)

-- ---- an inode node

-- the bytes of an inode node, field by field
pub record InodeBytes (e : Endian) (n : InodeNode) (rest tile : List ℕ) : Type 0 where
  pub header : HeaderBytes e inode_type (inode_len + length (stored_bytes n.fill)) tile
  pub ino : take 4 (drop 12 tile) ≡ bytes_in e 4 n.ino
  pub version : take 4 (drop 16 tile) ≡ bytes_in e 4 n.version
  pub mode : take 4 (drop 20 tile) ≡ bytes_in e 4 n.mode
  pub uid : take 2 (drop 24 tile) ≡ bytes_in e 2 n.uid
  pub gid : take 2 (drop 26 tile) ≡ bytes_in e 2 n.gid
  pub isize : take 4 (drop 28 tile) ≡ bytes_in e 4 n.isize
  pub atime : take 4 (drop 32 tile) ≡ bytes_in e 4 n.atime
  pub mtime : take 4 (drop 36 tile) ≡ bytes_in e 4 n.mtime
  pub ctime : take 4 (drop 40 tile) ≡ bytes_in e 4 n.ctime
  pub offset : take 4 (drop 44 tile) ≡ bytes_in e 4 n.offset
  pub csize : take 4 (drop 48 tile) ≡ bytes_in e 4 (length (stored_bytes n.fill))
  pub dsize : take 4 (drop 52 tile) ≡ bytes_in e 4 n.dsize
  pub compr : slice_index tile 56 ≡ stored_compr n.fill
  pub front : take 60 tile ≡ inode_front e n
  pub data_crc : take 4 (drop 60 tile) ≡ bytes_in e 4 (crc_of (stored_bytes n.fill))
  pub node_crc : take 4 (drop 64 tile) ≡ bytes_in e 4 (crc_of (inode_front e n))
  pub behind : drop 68 tile ≡ stored_bytes n.fill ++ rest

pub inode_bytes_are : (e : Endian) (n : InodeNode) (rest : List ℕ) → InodeBytes e n rest (canonical_inode e n ++ rest)
unfolding canonical_inode inode_front object_bytes time_bytes range_bytes header_bytes bytes_in
inode_bytes_are Little n rest = record {
  header = record { magic_is = refl; type_is = refl; totlen_is = refl; crc_is = refl };
  ino = refl;
  version = refl;
  mode = refl;
  uid = refl;
  gid = refl;
  isize = refl;
  atime = refl;
  mtime = refl;
  ctime = refl;
  offset = refl;
  csize = refl;
  dsize = refl;
  compr = refl;
  front = refl;
  data_crc = refl;
  node_crc = refl;
  behind = refl;
}
inode_bytes_are Big n rest = record {
  header = record { magic_is = refl; type_is = refl; totlen_is = refl; crc_is = refl };
  ino = refl;
  version = refl;
  mode = refl;
  uid = refl;
  gid = refl;
  isize = refl;
  atime = refl;
  mtime = refl;
  ctime = refl;
  offset = refl;
  csize = refl;
  dsize = refl;
  compr = refl;
  front = refl;
  data_crc = refl;
  node_crc = refl;
  behind = refl;
}

inode_from : (e : Endian) (tile : List ℕ) (node : InodeNode)
    → number_at e 4 12 tile ≡ node.ino → number_at e 4 16 tile ≡ node.version → number_at e 4 20 tile ≡ node.mode
    → number_at e 2 24 tile ≡ node.uid → number_at e 2 26 tile ≡ node.gid → number_at e 4 28 tile ≡ node.isize
    → number_at e 4 32 tile ≡ node.atime → number_at e 4 36 tile ≡ node.mtime → number_at e 4 40 tile ≡ node.ctime
    → number_at e 4 44 tile ≡ node.offset → number_at e 4 52 tile ≡ node.dsize → node ≡ inode_of e tile node.fill
inode_from e tile node ino version mode uid gid isize atime mtime ctime offset dsize =
    rw (ino, version, mode, uid, gid, isize, atime, mtime, ctime, offset, dsize) refl

fill_from : (e : Endian) (tile : List ℕ) (fill : Fill) (dsize : ℕ) → HoldsRange fill dsize → compr_of tile ≡ stored_compr fill
    → csize_of e tile ≡ length (stored_bytes fill) → number_at e 4 52 tile ≡ dsize → data_of e tile ≡ stored_bytes fill → ReadsFill e tile fill
fill_from e tile Zero dsize stored compr csize range bytes = compr
fill_from e tile (Data b) dsize stored compr csize range bytes = (compr, csize ∙ stored ∙ sym range, sym bytes)

inode_reads : (e : Endian) (n : InodeNode) (rest tile : List ℕ) → InodeBytes e n rest tile → FitsInode n → IsWritableInode n
    → length tile ≡ pad4_of (inode_len + length (stored_bytes n.fill)) → ReadsInode e tile n
inode_reads e n rest tile b fits writable long =
    let stored : List ℕ = stored_bytes n.fill in
    let size : ℕ = length stored in
    let most : inode_len + size ≤ 4194304 = writable.long in
    let object : 1 ≤ n.ino = writable.object in
    let end : n.offset + n.dsize ≤ 0xFFFF_FFFF = writable.end in
    let h = header_reads e inode_type (inode_len + size) tile b.header (omega arith) (omega arith) refl in
    let totlen : totlen_of e tile ≡ inode_len + size = h.totlen_is in
    let ino : number_at e 4 12 tile ≡ n.ino = number_is e 4 n.ino (drop 12 tile) b.ino fits.ino in
    let offset : number_at e 4 44 tile ≡ n.offset = number_is e 4 n.offset (drop 44 tile) b.offset fits.offset in
    let csize : csize_of e tile ≡ size = number_is e 4 size (drop 48 tile) b.csize (omega arith) in
    let dsize : number_at e 4 52 tile ≡ n.dsize = number_is e 4 n.dsize (drop 52 tile) b.dsize fits.dsize in
    let bytes : data_of e tile ≡ stored = ap₂ (λ (k : ℕ) (xs : List ℕ). take k xs) csize b.behind ∙ take-append_seam stored rest in
    record {
      sound = record {
        is_tile = tile_from e inode_type (inode_len + size) tile h long refl;
        nodetype = h.nodetype_is;
        least = omega arith;
        sizes = ap (λ (k : ℕ). pad4_of (inode_len + k)) csize ∙ ap pad4_of (sym totlen);
        object = λ none. absurd (omega (arith, none, ino));
        end = omega arith;
        node_crc = number_is e 4 (crc_of (inode_front e n)) (drop 64 tile) b.node_crc (crc_of-lt (inode_front e n)) ∙ ap crc_of (sym b.front);
        data_crc = λ _. number_is e 4 (crc_of stored) (drop 60 tile) b.data_crc (crc_of-lt stored) ∙ ap crc_of (sym bytes);
      };
      gives = fill_from e tile n.fill n.dsize writable.stored b.compr csize dsize bytes;
      fields = inode_from e tile n ino
          (number_is e 4 n.version (drop 16 tile) b.version fits.version)
          (number_is e 4 n.mode (drop 20 tile) b.mode fits.mode)
          (number_is e 2 n.uid (drop 24 tile) b.uid fits.uid)
          (number_is e 2 n.gid (drop 26 tile) b.gid fits.gid)
          (number_is e 4 n.isize (drop 28 tile) b.isize fits.isize)
          (number_is e 4 n.atime (drop 32 tile) b.atime fits.atime)
          (number_is e 4 n.mtime (drop 36 tile) b.mtime fits.mtime)
          (number_is e 4 n.ctime (drop 40 tile) b.ctime fits.ctime)
          offset dsize;
    }

pub length-canonical_inode : (e : Endian) (n : InodeNode) → length (canonical_inode e n) ≡ inode_len + length (stored_bytes n.fill)
unfolding canonical_inode inode_front object_bytes time_bytes range_bytes header_bytes bytes_in
length-canonical_inode Little n = omega arith
length-canonical_inode Big n = omega arith

-- ---- the written form of a node, up to words, reads as that node

pub canonical_reads : (e : Endian) (node : NodeRef) → Fits node → IsWritable node → Reads e (filled (canonical e node)) node
canonical_reads e (Entry d) fits writable =
    let bytes : List ℕ = canonical_entry e d in
    let gap : List ℕ = erased (pad4_of (length bytes) - length bytes) in
    entry_reads e d gap (bytes ++ gap) (entry_bytes_are e d gap) fits writable (length-filled bytes ∙ ap pad4_of (length-canonical_entry e d))
canonical_reads e (Inode n) fits writable =
    let bytes : List ℕ = canonical_inode e n in
    let gap : List ℕ = erased (pad4_of (length bytes) - length bytes) in
    inode_reads e n gap (bytes ++ gap) (inode_bytes_are e n gap) fits writable (length-filled bytes ∙ ap pad4_of (length-canonical_inode e n))

-- ---- whether it may be written

range_found : (fill : Fill) (dsize : ℕ) → holds_range fill dsize ≡ true → HoldsRange fill dsize
range_found Zero dsize h = tt
range_found (Data bytes) dsize h = eqb-true _ _ h

range_again : (fill : Fill) (dsize : ℕ) → HoldsRange fill dsize → holds_range fill dsize ≡ true
range_again Zero dsize h = refl
range_again (Data bytes) dsize h = eq-eqb _ _ h

writable_found : (node : NodeRef) → is_writable node ≡ true → IsWritable node
unfolding is_writable
writable_found (Entry d) h =
    let parts = and_parts _ _ h in
    let name = and_parts _ _ parts.0 in
    record { name = (leb-true _ _ name.0, leb-true _ _ name.1); parent = leb-true _ _ parts.1 }
writable_found (Inode n) h =
    let parts = and_parts _ _ h in
    let three = and_parts _ _ parts.0 in
    let two = and_parts _ _ three.0 in
    record { object = leb-true _ _ two.0; end = leb-true _ _ two.1; stored = range_found n.fill n.dsize three.1; long = leb-true _ _ parts.1 }

writable_again : (node : NodeRef) → IsWritable node → is_writable node ≡ true
unfolding is_writable
writable_again (Entry d) w = and_from _ _ (and_from _ _ (le-leb _ _ w.name.0) (le-leb _ _ w.name.1)) (le-leb _ _ w.parent)
writable_again (Inode n) w =
    and_from _ _ (and_from _ _ (and_from _ _ (le-leb _ _ w.object) (le-leb _ _ w.end)) (range_again n.fill n.dsize w.stored)) (le-leb _ _ w.long)

pub writable_is_computed : (node : NodeRef) → IsTrue (is_writable node) ↔ IsWritable node
writable_is_computed node = (writable_found node, writable_again node)

pub written_reads : (e : Endian) (node : NodeRef) → Fits node → IsTrue (is_writable node) → Reads e (filled (canonical e node)) node
written_reads e node fits writable = canonical_reads e node fits (writable_found node writable)

-- ---- and is a tile of its own, whatever follows

pub a_tile : (e : Endian) (nodetype totlen : ℕ) (bytes rest : List ℕ) → length bytes ≡ totlen → 12 ≤ totlen
    → HasHeader e nodetype totlen (filled bytes ++ rest) → IsTileOf e bytes (filled bytes ++ rest)
a_tile e nodetype totlen bytes rest long least h =
    let whole = length-append (filled bytes) rest in
    let up = le_pad4 (length bytes) in
    let padded = length-filled bytes in
    let same : totlen_of e (filled bytes ++ rest) ≡ length bytes = h.totlen_is ∙ sym long in
    record {
      good = good_again e (filled bytes ++ rest) (record {
        room = omega arith;
        right_magic = h.right_magic;
        checksum = h.checksum;
        least = omega arith;
        within = omega arith;
      });
      totlen = same;
      tile = ap (λ (k : ℕ). take (pad4_of k) (filled bytes ++ rest)) same
          ∙ ap (λ (k : ℕ). take k (filled bytes ++ rest)) (sym padded) ∙ take-append_seam (filled bytes) rest;
    }

-- where bytes are filled up, what they begin with is in front
pub header_of_filled : (e : Endian) (nodetype totlen : ℕ) (bytes back rest : List ℕ) → bytes ≡ header_bytes e nodetype totlen ++ back
    → HeaderBytes e nodetype totlen (filled bytes ++ rest)
header_of_filled e nodetype totlen bytes back rest is =
    let gap : List ℕ = erased (pad4_of (length bytes) - length bytes) in
    let shape : header_bytes e nodetype totlen ++ (back ++ (gap ++ rest)) ≡ (bytes ++ gap) ++ rest =
    sym (append_assoc (header_bytes e nodetype totlen) back (gap ++ rest)) ∙ ap (λ (xs : List ℕ). xs ++ (gap ++ rest)) (sym is) ∙ sym (append_assoc bytes gap rest) in
    subst (HeaderBytes e nodetype totlen) shape (header_bytes_are e nodetype totlen (back ++ (gap ++ rest)))

-- what is after the header
pub back_of : Endian → NodeRef → List ℕ
back_of e node = drop 12 (canonical e node)

unfoldable pub nodetype_to : NodeRef → ℕ
nodetype_to (Entry d) = dirent_type
nodetype_to (Inode n) = inode_type

-- the number of bytes of the written form
unfoldable pub size_of : NodeRef → ℕ
size_of (Entry d) = entry_len + length d.name
size_of (Inode n) = inode_len + length (stored_bytes n.fill)

pub length-canonical : (e : Endian) (node : NodeRef) → length (canonical e node) ≡ size_of node
unfolding size_of
length-canonical e (Entry d) = length-canonical_entry e d
length-canonical e (Inode n) = length-canonical_inode e n

canonical_shape : (e : Endian) (node : NodeRef) → canonical e node ≡ header_bytes e (nodetype_to node) (size_of node) ++ back_of e node
unfolding canonical_entry entry_front canonical_inode inode_front object_bytes time_bytes range_bytes header_bytes bytes_in back_of nodetype_to size_of
canonical_shape Little (Entry d) = refl
canonical_shape Little (Inode n) = refl
canonical_shape Big (Entry d) = refl
canonical_shape Big (Inode n) = refl

pub canonical_long : (e : Endian) (node : NodeRef) → 12 ≤ length (canonical e node)
unfolding size_of
canonical_long e (Entry d) = omega (arith, length-canonical e (Entry d))
canonical_long e (Inode n) = omega (arith, length-canonical e (Inode n))

pub accurate_type : (node : NodeRef) → (nodetype_to node < 2 ^ 16) × (bit_or (nodetype_to node) accurate_bit ≡ nodetype_to node)
unfolding nodetype_to
accurate_type (Entry d) = (omega arith, refl)
accurate_type (Inode n) = (omega arith, refl)

-- the header of the written form, filled up
pub canonical_header : (e : Endian) (node : NodeRef) (rest : List ℕ) → length (canonical e node) < 2 ^ 32
    → HasHeader e (nodetype_to node) (length (canonical e node)) (filled (canonical e node) ++ rest)
canonical_header e node rest small =
    let same = length-canonical e node in
    let type = accurate_type node in
    let has : HasHeader e (nodetype_to node) (size_of node) (filled (canonical e node) ++ rest) =
    header_reads e (nodetype_to node) (size_of node) (filled (canonical e node) ++ rest)
    (header_of_filled e (nodetype_to node) (size_of node) (canonical e node) (back_of e node) rest (canonical_shape e node)) type.0 (omega arith) type.1 in
    subst (λ (k : ℕ). HasHeader e (nodetype_to node) k (filled (canonical e node) ++ rest)) (sym same) has

pub canonical_is_tile : (e : Endian) (node : NodeRef) (rest : List ℕ) → length (canonical e node) < 2 ^ 32
    → IsTileOf e (canonical e node) (filled (canonical e node) ++ rest)
canonical_is_tile e node rest small =
    a_tile e (nodetype_to node) (length (canonical e node)) (canonical e node) rest refl (canonical_long e node) (canonical_header e node rest small)

pub canonical_is_not_erased : (e : Endian) (node : NodeRef) → slice_index (canonical e node) 0 ≢ 0xFF
unfolding canonical_entry entry_front canonical_inode inode_front object_bytes time_bytes range_bytes header_bytes bytes_in
canonical_is_not_erased Little (Entry d) same = omega arith
canonical_is_not_erased Little (Inode n) same = omega arith
canonical_is_not_erased Big (Entry d) same = omega arith
canonical_is_not_erased Big (Inode n) same = omega arith

-- ---- the clean marker, and padding

pub length-header_bytes : (e : Endian) (nodetype totlen : ℕ) → length (header_bytes e nodetype totlen) ≡ 12
unfolding header_bytes bytes_in
length-header_bytes Little nodetype totlen = refl
length-header_bytes Big nodetype totlen = refl

plain_header : (e : Endian) (nodetype totlen : ℕ) (back rest : List ℕ) → nodetype < 2 ^ 16 → bit_or nodetype accurate_bit ≡ nodetype → totlen < 2 ^ 32
    → HasHeader e nodetype totlen (filled (header_bytes e nodetype totlen ++ back) ++ rest)
plain_header e nodetype totlen back rest fits accurate small =
    header_reads e nodetype totlen (filled (header_bytes e nodetype totlen ++ back) ++ rest)
    (header_of_filled e nodetype totlen (header_bytes e nodetype totlen ++ back) back rest refl) fits small accurate

plain_tile : (e : Endian) (nodetype totlen : ℕ) (back rest : List ℕ) → nodetype < 2 ^ 16 → bit_or nodetype accurate_bit ≡ nodetype
    → totlen < 2 ^ 32 → 12 ≤ totlen → length back ≡ totlen - 12
    → IsTileOf e (header_bytes e nodetype totlen ++ back) (filled (header_bytes e nodetype totlen ++ back) ++ rest)
plain_tile e nodetype totlen back rest fits accurate small least long =
    let front = length-header_bytes e nodetype totlen in
    a_tile e nodetype totlen (header_bytes e nodetype totlen ++ back) rest
    (length-append (header_bytes e nodetype totlen) back ∙ omega (arith, front)) least (plain_header e nodetype totlen back rest fits accurate small)

marker_filled : (e : Endian) → filled (header_bytes e marker_type 12 ++ []) ≡ clean_marker e
unfolding header_bytes bytes_in pad4_of
marker_filled Little = refl
marker_filled Big = refl

marker_alone : (e : Endian) → header_bytes e marker_type 12 ++ [] ≡ clean_marker e
marker_alone e = append-nil (clean_marker e)

pub marker_is_tile : (e : Endian) (rest : List ℕ) → IsMarkerTile e (clean_marker e ++ rest)
unfolding seen_of plain_seen
marker_is_tile e rest =
    let at = plain_tile e marker_type 12 [] rest (omega arith) refl (omega arith) (omega arith) refl in
    let has = plain_header e marker_type 12 [] rest (omega arith) refl (omega arith) in
    let whole : IsTileOf e (header_bytes e marker_type 12 ++ []) (clean_marker e ++ rest) =
    subst (λ (xs : List ℕ). IsTileOf e (header_bytes e marker_type 12 ++ []) (xs ++ rest)) (marker_filled e) at in
    let alone : HasHeader e marker_type 12 (filled (header_bytes e marker_type 12 ++ []) ++ []) =
    plain_header e marker_type 12 [] [] (omega arith) refl (omega arith) in
    let kind : nodetype_of e (clean_marker e) ≡ marker_type =
    ap (nodetype_of e) (sym (append-nil (clean_marker e)) ∙ ap (λ (xs : List ℕ). xs ++ []) (sym (marker_filled e))) ∙ alone.nodetype_is in
    record {
      good = whole.good;
      tile = whole.tile ∙ marker_filled e;
      seen = rw kind refl;
    }

pub padding_is_tile : (e : Endian) (n : ℕ) (rest : List ℕ) → 12 ≤ n → n < 2 ^ 32 → IsPaddingTile e n (filled (padding_node e n) ++ rest)
unfolding seen_of plain_seen
padding_is_tile e n rest least small =
    let whole = plain_tile e padding_type n (erased (n - 12)) rest (omega arith) refl small least (length-replicate (n - 12) 0xFF) in
    let alone = plain_header e padding_type n (erased (n - 12)) [] (omega arith) refl small in
    let kind : nodetype_of e (filled (padding_node e n)) ≡ padding_type =
    ap (nodetype_of e) (sym (append-nil (filled (padding_node e n)))) ∙ alone.nodetype_is in
    record {
      tile_of_it = whole;
      seen = rw kind refl;
    }
