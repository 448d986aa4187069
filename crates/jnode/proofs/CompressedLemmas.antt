-- A compressed node is answered exactly where the tile reads as it, and what is written of it reads back.
use Rattle.std.proofs.Common.{◌≡◌, ◌≢◌, ◌↔◌, ℕ, ◌+◌, ◌-◌, ◌%◌, ◌^◌, ◌<◌, ◌≤◌, List, ◌++◌, length, take, drop, slice_index, Option, Some, None, IfSome, refl, sym, ap, ap₂, subst, ◌∙◌, arith}
use Rattle.std.proofs.Math.Seq.{take-append_seam}
use Rattle.flashbase.specs.Crc.{crc_of}
use Rattle.flashbase.specs.Bytes.{pad4_of, erased}
use Rattle.flashbase.specs.Ranges.{AreBytes}
use Rattle.flashbase.proofs.CrcLemmas.{crc_of-lt}
use Rattle.flashbase.proofs.BytesLemmas.{le_pad4}
use Rattle.jnode.specs.Order.{number_at, bytes_in}
use Rattle.jnode.specs.Header.{IsGood, totlen_of}
use Rattle.jnode.specs.Reading.{inode_type, inode_len, IsSoundInode, ReadsCompressed, csize_of, compr_of, data_of, seen_of, tile_of}
use Rattle.jnode.specs.Writing.{header_bytes, object_bytes, time_bytes, filled}
use Rattle.jnode.specs.Compressed.{compressed_of, compressed_by, compressed_seen, ReadsCompressedNode, compressed_range_bytes, compressed_front, canonical_compressed, FitsCompressed, IsWritableCompressed}
use Rattle.jnode.specs.Laws.{IsTileOf}
use Rattle.jnode.specs.declared.order.Endian.{Endian}
use Rattle.jnode.specs.declared.order.Endian.TheVariants.{Little, Big}
use Rattle.jnode.specs.declared.node.CompressedNode.{CompressedNode}
use Rattle.jnode.specs.declared.node.Seen.{Seen}
use Rattle.jnode.specs.declared.node.Seen.TheVariants.{Entry, Inode, Marker, Padding, Obsolete, Attribute, Skippable, ReadOnly, Incompatible, Compressed, Damaged}
use Rattle.jnode.specs.declared.node.Fill.TheVariants.{Zero}
use Rattle.jnode.proofs.FitsLemmas.{inode_fits}
use Rattle.jnode.proofs.TileLemmas.{IsHeaded, tile_headed}
use Rattle.jnode.proofs.ReadingLemmas.{seen_compressed}
use Rattle.jnode.proofs.WritingLemmas.{number_is, HeaderBytes, HasHeader, header_reads, tile_from, length-filled, a_tile, header_of_filled}

-- ---- reading

-- the data of a sound node are in its tile
pub sound_room : (e : Endian) (tile : List ℕ) → IsSoundInode e tile → inode_len + csize_of e tile ≤ length tile
sound_room e tile r =
    let up = le_pad4 (inode_len + csize_of e tile) in
    let whole : length tile ≡ pad4_of (totlen_of e tile) = r.is_tile.whole in
    let sizes : pad4_of (inode_len + csize_of e tile) ≡ pad4_of (totlen_of e tile) = r.sizes in
    omega arith

pub seen_room : (e : Endian) (rest : List ℕ) (compr : ℕ) → IsGood e rest → length rest % 4 ≡ 0 → seen_of e (tile_of e rest) ≡ Compressed compr
    → inode_len + csize_of e (tile_of e rest) ≤ length (tile_of e rest)
seen_room e rest compr good words seen =
    sound_room e (tile_of e rest) ((seen_compressed e (tile_of e rest) compr (tile_headed e rest good words)).0 seen).sound

by_found : (e : Endian) (tile : List ℕ) (s : Seen) (node : CompressedNode) → compressed_by e tile s ≡ Some node
    → (compr : ℕ) × (s ≡ Compressed compr) × (node ≡ compressed_of e tile)
by_found e tile (Compressed compr) node h = (compr, refl, cc)
by_found e tile (Entry d) node h = absurd (cc)
by_found e tile (Inode n) node h = absurd (cc)
by_found e tile Marker node h = absurd (cc)
by_found e tile Padding node h = absurd (cc)
by_found e tile Obsolete node h = absurd (cc)
by_found e tile Attribute node h = absurd (cc)
by_found e tile (Skippable t) node h = absurd (cc)
by_found e tile (ReadOnly t) node h = absurd (cc)
by_found e tile (Incompatible t) node h = absurd (cc)
by_found e tile (Damaged q) node h = absurd (cc)

by_again : (e : Endian) (tile : List ℕ) (s : Seen) (compr : ℕ) → s ≡ Compressed compr → compressed_by e tile s ≡ Some (compressed_of e tile)
by_again e tile s compr h = ap (compressed_by e tile) h

reads_found : (e : Endian) (tile : List ℕ) (node : CompressedNode) → IsHeaded e tile → compressed_seen e tile ≡ Some node → ReadsCompressedNode e tile node
reads_found e tile node headed h =
    let found = by_found e tile (seen_of e tile) node h in
    let r : ReadsCompressed e tile found.0 = (seen_compressed e tile found.0 headed).0 found.1 in
    let same : found.0 ≡ node.compr = r.compression ∙ sym (ap (λ (n : CompressedNode). n.compr) found.2) in
    record {
      sound = r.sound;
      not_none = λ none. r.not_none (same ∙ none);
      not_zero = λ zero. r.not_zero (same ∙ zero);
      fields = found.2;
    }

reads_again : (e : Endian) (tile : List ℕ) (node : CompressedNode) → IsHeaded e tile → ReadsCompressedNode e tile node → compressed_seen e tile ≡ Some node
reads_again e tile node headed r =
    let it : ReadsCompressed e tile node.compr = record {
      sound = r.sound;
      compression = ap (λ (n : CompressedNode). n.compr) r.fields;
      not_none = r.not_none;
      not_zero = r.not_zero;
    } in
    by_again e tile (seen_of e tile) node.compr ((seen_compressed e tile node.compr headed).1 it) ∙ ap Some (sym r.fields)

pub compressed_reads : (e : Endian) (rest : List ℕ) (found : Option CompressedNode) → IsGood e rest → length rest % 4 ≡ 0
    → found ≡ compressed_seen e (tile_of e rest) → (node : CompressedNode) → (found ≡ Some node) ↔ ReadsCompressedNode e (tile_of e rest) node
compressed_reads e rest found good words exact node =
    let headed = tile_headed e rest good words in
    ((λ h. reads_found e (tile_of e rest) node headed (sym exact ∙ h)), (λ r. exact ∙ reads_again e (tile_of e rest) node headed r))

if_seen : (e : Endian) (tile : List ℕ) (s : Seen) → IsHeaded e tile → seen_of e tile ≡ s
    → IfSome (compressed_by e tile s) (λ node. seen_of e tile ≡ Compressed node.compr)
if_seen e tile (Compressed compr) headed is = is ∙ ap Compressed ((seen_compressed e tile compr headed).0 is).compression
if_seen e tile (Entry d) headed is = tt
if_seen e tile (Inode n) headed is = tt
if_seen e tile Marker headed is = tt
if_seen e tile Padding headed is = tt
if_seen e tile Obsolete headed is = tt
if_seen e tile Attribute headed is = tt
if_seen e tile (Skippable t) headed is = tt
if_seen e tile (ReadOnly t) headed is = tt
if_seen e tile (Incompatible t) headed is = tt
if_seen e tile (Damaged q) headed is = tt

pub compressed_is_seen : (e : Endian) (rest : List ℕ) (found : Option CompressedNode) → IsGood e rest → length rest % 4 ≡ 0
    → found ≡ compressed_seen e (tile_of e rest) → IfSome found (λ node. seen_of e (tile_of e rest) ≡ Compressed node.compr)
compressed_is_seen e rest found good words exact =
    let tile : List ℕ = tile_of e rest in
    subst (λ (f : Option CompressedNode). IfSome f (λ node. seen_of e tile ≡ Compressed node.compr)) (sym exact)
    (if_seen e tile (seen_of e tile) (tile_headed e rest good words) refl)

pub none_is_seen : (e : Endian) (rest : List ℕ) (found : Option CompressedNode) → found ≡ compressed_seen e (tile_of e rest)
    → found ≡ None → (compr : ℕ) → seen_of e (tile_of e rest) ≢ Compressed compr
none_is_seen e rest found exact none compr is =
    let some : compressed_seen e (tile_of e rest) ≡ Some (compressed_of e (tile_of e rest)) = by_again e (tile_of e rest) (seen_of e (tile_of e rest)) compr is in
    let clash : None ≡ Some (compressed_of e (tile_of e rest)) = sym none ∙ exact ∙ some in
    absurd (cc)

pub some_by : (e : Endian) (tile : List ℕ) (s : Seen) (compr : ℕ) → s ≡ seen_of e tile → s ≡ Compressed compr → Some (compressed_of e tile) ≡ compressed_seen e tile
some_by e tile s compr exact is = sym (by_again e tile (seen_of e tile) compr (sym exact ∙ is))

by_none : (e : Endian) (tile : List ℕ) (s : Seen) → ((compr : ℕ) → s ≡ Compressed compr → ⊥) → None ≡ compressed_by e tile s
by_none e tile (Compressed compr) other = absurd (other compr refl)
by_none e tile (Entry d) other = refl
by_none e tile (Inode n) other = refl
by_none e tile Marker other = refl
by_none e tile Padding other = refl
by_none e tile Obsolete other = refl
by_none e tile Attribute other = refl
by_none e tile (Skippable t) other = refl
by_none e tile (ReadOnly t) other = refl
by_none e tile (Incompatible t) other = refl
by_none e tile (Damaged q) other = refl

pub none_by : (e : Endian) (tile : List ℕ) (s : Seen) → s ≡ seen_of e tile → ((compr : ℕ) → s ≡ Compressed compr → ⊥) → None ≡ compressed_seen e tile
none_by e tile s exact other = by_none e tile s other ∙ ap (compressed_by e tile) exact

-- ---- writing

-- the bytes of a compressed node, field by field
record CompressedBytes (e : Endian) (n : CompressedNode) (rest tile : List ℕ) : Type 0 where
  header : HeaderBytes e inode_type (inode_len + length n.data) tile
  ino : take 4 (drop 12 tile) ≡ bytes_in e 4 n.ino
  version : take 4 (drop 16 tile) ≡ bytes_in e 4 n.version
  mode : take 4 (drop 20 tile) ≡ bytes_in e 4 n.mode
  uid : take 2 (drop 24 tile) ≡ bytes_in e 2 n.uid
  gid : take 2 (drop 26 tile) ≡ bytes_in e 2 n.gid
  isize : take 4 (drop 28 tile) ≡ bytes_in e 4 n.isize
  atime : take 4 (drop 32 tile) ≡ bytes_in e 4 n.atime
  mtime : take 4 (drop 36 tile) ≡ bytes_in e 4 n.mtime
  ctime : take 4 (drop 40 tile) ≡ bytes_in e 4 n.ctime
  offset : take 4 (drop 44 tile) ≡ bytes_in e 4 n.offset
  csize : take 4 (drop 48 tile) ≡ bytes_in e 4 (length n.data)
  dsize : take 4 (drop 52 tile) ≡ bytes_in e 4 n.dsize
  compr : slice_index tile 56 ≡ n.compr
  front : take 60 tile ≡ compressed_front e n
  data_crc : take 4 (drop 60 tile) ≡ bytes_in e 4 (crc_of n.data)
  node_crc : take 4 (drop 64 tile) ≡ bytes_in e 4 (crc_of (compressed_front e n))
  behind : drop 68 tile ≡ n.data ++ rest

compressed_bytes_are : (e : Endian) (n : CompressedNode) (rest : List ℕ) → CompressedBytes e n rest (canonical_compressed e n ++ rest)
unfolding canonical_compressed compressed_front object_bytes time_bytes compressed_range_bytes header_bytes bytes_in
compressed_bytes_are Little n rest = record {
  header = record { magic_is = refl; type_is = refl; totlen_is = refl; crc_is = refl };
  ino = refl;
  version = refl;
  mode = refl;
  uid = refl;
  gid = refl;
  isize = refl;
  atime = refl;
  mtime = refl;
  ctime = refl;
  offset = refl;
  csize = refl;
  dsize = refl;
  compr = refl;
  front = refl;
  data_crc = refl;
  node_crc = refl;
  behind = refl;
}
compressed_bytes_are Big n rest = record {
  header = record { magic_is = refl; type_is = refl; totlen_is = refl; crc_is = refl };
  ino = refl;
  version = refl;
  mode = refl;
  uid = refl;
  gid = refl;
  isize = refl;
  atime = refl;
  mtime = refl;
  ctime = refl;
  offset = refl;
  csize = refl;
  dsize = refl;
  compr = refl;
  front = refl;
  data_crc = refl;
  node_crc = refl;
  behind = refl;
}

compressed_from : (e : Endian) (tile : List ℕ) (node : CompressedNode)
    → number_at e 4 12 tile ≡ node.ino → number_at e 4 16 tile ≡ node.version → number_at e 4 20 tile ≡ node.mode
    → number_at e 2 24 tile ≡ node.uid → number_at e 2 26 tile ≡ node.gid → number_at e 4 28 tile ≡ node.isize
    → number_at e 4 32 tile ≡ node.atime → number_at e 4 36 tile ≡ node.mtime → number_at e 4 40 tile ≡ node.ctime
    → number_at e 4 44 tile ≡ node.offset → number_at e 4 52 tile ≡ node.dsize → compr_of tile ≡ node.compr
    → data_of e tile ≡ node.data → node ≡ compressed_of e tile
compressed_from e tile node ino version mode uid gid isize atime mtime ctime offset dsize compr bytes =
    rw (ino, version, mode, uid, gid, isize, atime, mtime, ctime, offset, dsize, compr, bytes) refl

bytes_read : (e : Endian) (n : CompressedNode) (rest tile : List ℕ) → CompressedBytes e n rest tile → FitsCompressed n → IsWritableCompressed n
    → length tile ≡ pad4_of (inode_len + length n.data) → ReadsCompressedNode e tile n
bytes_read e n rest tile b fits writable long =
    let size : ℕ = length n.data in
    let most : inode_len + size ≤ 4194304 = writable.long in
    let object : 1 ≤ n.ino = writable.object in
    let end : n.offset + n.dsize ≤ 0xFFFF_FFFF = writable.end in
    let h = header_reads e inode_type (inode_len + size) tile b.header (omega arith) (omega arith) refl in
    let totlen : totlen_of e tile ≡ inode_len + size = h.totlen_is in
    let ino : number_at e 4 12 tile ≡ n.ino = number_is e 4 n.ino (drop 12 tile) b.ino fits.inode.ino in
    let offset : number_at e 4 44 tile ≡ n.offset = number_is e 4 n.offset (drop 44 tile) b.offset fits.inode.offset in
    let csize : csize_of e tile ≡ size = number_is e 4 size (drop 48 tile) b.csize (omega arith) in
    let dsize : number_at e 4 52 tile ≡ n.dsize = number_is e 4 n.dsize (drop 52 tile) b.dsize fits.inode.dsize in
    let bytes : data_of e tile ≡ n.data = ap₂ (λ (k : ℕ) (xs : List ℕ). take k xs) csize b.behind ∙ take-append_seam n.data rest in
    record {
      sound = record {
        is_tile = tile_from e inode_type (inode_len + size) tile h long refl;
        nodetype = h.nodetype_is;
        least = omega arith;
        sizes = ap (λ (k : ℕ). pad4_of (inode_len + k)) csize ∙ ap pad4_of (sym totlen);
        object = λ none. absurd (omega (arith, none, ino));
        end = omega arith;
        node_crc = number_is e 4 (crc_of (compressed_front e n)) (drop 64 tile) b.node_crc (crc_of-lt (compressed_front e n)) ∙ ap crc_of (sym b.front);
        data_crc = λ _. number_is e 4 (crc_of n.data) (drop 60 tile) b.data_crc (crc_of-lt n.data) ∙ ap crc_of (sym bytes);
      };
      not_none = writable.not_none;
      not_zero = writable.not_zero;
      fields = compressed_from e tile n ino
          (number_is e 4 n.version (drop 16 tile) b.version fits.inode.version)
          (number_is e 4 n.mode (drop 20 tile) b.mode fits.inode.mode)
          (number_is e 2 n.uid (drop 24 tile) b.uid fits.inode.uid)
          (number_is e 2 n.gid (drop 26 tile) b.gid fits.inode.gid)
          (number_is e 4 n.isize (drop 28 tile) b.isize fits.inode.isize)
          (number_is e 4 n.atime (drop 32 tile) b.atime fits.inode.atime)
          (number_is e 4 n.mtime (drop 36 tile) b.mtime fits.inode.mtime)
          (number_is e 4 n.ctime (drop 40 tile) b.ctime fits.inode.ctime)
          offset dsize b.compr bytes;
    }

pub length-canonical_compressed : (e : Endian) (n : CompressedNode) → length (canonical_compressed e n) ≡ inode_len + length n.data
unfolding canonical_compressed compressed_front object_bytes time_bytes compressed_range_bytes header_bytes bytes_in
length-canonical_compressed Little n = omega arith
length-canonical_compressed Big n = omega arith

pub compressed_reads_back : (e : Endian) (n : CompressedNode) → FitsCompressed n → IsWritableCompressed n → ReadsCompressedNode e (filled (canonical_compressed e n)) n
compressed_reads_back e n fits writable =
    let bytes : List ℕ = canonical_compressed e n in
    let gap : List ℕ = erased (pad4_of (length bytes) - length bytes) in
    bytes_read e n gap (bytes ++ gap) (compressed_bytes_are e n gap) fits writable (length-filled bytes ∙ ap pad4_of (length-canonical_compressed e n))

-- ---- and is a tile of its own, whatever follows

compressed_shape : (e : Endian) (n : CompressedNode) → canonical_compressed e n ≡ header_bytes e inode_type (inode_len + length n.data) ++ drop 12 (canonical_compressed e n)
unfolding canonical_compressed compressed_front object_bytes time_bytes compressed_range_bytes header_bytes bytes_in
compressed_shape Little n = refl
compressed_shape Big n = refl

pub compressed_is_tile : (e : Endian) (n : CompressedNode) (rest : List ℕ) → length (canonical_compressed e n) < 2 ^ 32
    → IsTileOf e (canonical_compressed e n) (filled (canonical_compressed e n) ++ rest)
compressed_is_tile e n rest small =
    let bytes : List ℕ = canonical_compressed e n in
    let size : ℕ = inode_len + length n.data in
    let long : length bytes ≡ size = length-canonical_compressed e n in
    let has : HasHeader e inode_type size (filled bytes ++ rest) =
    header_reads e inode_type size (filled bytes ++ rest) (header_of_filled e inode_type size bytes (drop 12 bytes) rest (compressed_shape e n)) (omega arith) (omega arith) refl in
    a_tile e inode_type size bytes rest long (omega arith) has

pub compressed_fits : (e : Endian) (tile : List ℕ) → AreBytes tile → FitsCompressed (compressed_of e tile)
compressed_fits e tile are = record { inode = inode_fits e tile Zero are; compr = are 56 }
