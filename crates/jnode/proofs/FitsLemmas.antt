-- What is seen of bytes fits its widths, and is what the tile reads as.
use Rattle.std.proofs.Common.{◌≡◌, ◌↔◌, ℕ, ◌+◌, ◌^◌, ◌%◌, ◌<◌, ◌==◌, not, List, [], length, take, drop, Some, None, refl, sym, ap, subst, ◌∙◌, arith}
use Rattle.std.proofs.lemmas.Bool.{cond_both}
use Rattle.byteorder.specs.Numbers.{little_from-lt, big_from-lt}
use Rattle.flashbase.specs.Ranges.{AreBytes}
use Rattle.jnode.specs.Order.{number_in}
use Rattle.jnode.specs.Header.{IsGood, nodetype_of, is_accurate}
use Rattle.jnode.specs.Reading.{dirent_type, inode_type, dirent_of, inode_of, data_of, compr_of, csize_of, nsize_of, name_of, tile_of, node_in, Reads, seen_of, entry_seen, inode_seen, passed_seen, plain_seen, is_entry_long, is_crc_right, is_size_right, is_entry_in_range, is_inode_long, is_inode_in_range, is_data_crc_right}
use Rattle.jnode.specs.Writing.{FitsEntry, FitsInode, Fits, HoldsBytes}
use Rattle.jnode.specs.declared.order.Endian.{Endian}
use Rattle.jnode.specs.declared.order.Endian.TheVariants.{Little, Big}
use Rattle.jnode.specs.declared.node.Dirent.{Dirent}
use Rattle.jnode.specs.declared.node.InodeNode.{InodeNode}
use Rattle.jnode.specs.declared.node.Fill.{Fill}
use Rattle.jnode.specs.declared.node.Fill.TheVariants.{Zero, Data}
use Rattle.jnode.specs.declared.node.NodeRef.{NodeRef}
use Rattle.jnode.specs.declared.node.NodeRef.TheVariants as node
use Rattle.jnode.specs.declared.node.Seen.{Seen}
use Rattle.jnode.specs.declared.node.Seen.TheVariants.{Entry, Inode, Marker, Padding, Obsolete, Attribute, Skippable, ReadOnly, Incompatible, Compressed, Damaged}
use Rattle.jnode.proofs.OrderLemmas.{bytes-take, bytes-drop}
use Rattle.jnode.proofs.TileLemmas.{tile_headed}
use Rattle.jnode.proofs.ReadingLemmas.{five_both, plain_both, seen_entry, seen_inode}

-- ---- bytes

number_in-lt : (e : Endian) (n : ℕ) (xs : List ℕ) → AreBytes xs → number_in e n xs < 256 ^ n
unfolding number_in
number_in-lt Little n xs are = little_from-lt 0 n xs are
number_in-lt Big n xs are = big_from-lt 0 n xs are

entry_fits : (e : Endian) (tile : List ℕ) → AreBytes tile → FitsEntry (dirent_of e tile)
entry_fits e tile are =
    let word = λ (k : ℕ). number_in-lt e 4 (drop k tile) (bytes-drop k tile are) in
    record { pino = word 12; version = word 16; ino = word 20; mctime = word 24; kind = are 29 }

pub inode_fits : (e : Endian) (tile : List ℕ) (fill : Fill) → AreBytes tile → FitsInode (inode_of e tile fill)
inode_fits e tile fill are =
    let word = λ (k : ℕ). number_in-lt e 4 (drop k tile) (bytes-drop k tile are) in
    let half = λ (k : ℕ). number_in-lt e 2 (drop k tile) (bytes-drop k tile are) in
    record {
      ino = word 12;
      version = word 16;
      mode = word 20;
      uid = half 24;
      gid = half 26;
      isize = word 28;
      atime = word 32;
      mtime = word 36;
      ctime = word 40;
      offset = word 44;
      dsize = word 52;
    }

-- ---- what is seen

-- a node that is seen fits
record SeesFitting (s : Seen) : Type 0 where
  pub fits : (x : NodeRef) → node_in s ≡ Some x → Fits x × HoldsBytes x

nothing : (s : Seen) → node_in s ≡ None → SeesFitting s
nothing s none = record { fits = λ x is. let clash : None ≡ Some x = sym none ∙ is in absurd (cc) }

sees : (s : Seen) (y : NodeRef) → node_in s ≡ Some y → Fits y → HoldsBytes y → SeesFitting s
sees s y here fits bytes = record {
  fits = λ x is.
      let same : y ≡ x = let both : Some y ≡ Some x = sym here ∙ is in cc in
      subst (λ (z : NodeRef). Fits z × HoldsBytes z) same (fits, bytes);
}

entry_sees : (e : Endian) (tile : List ℕ) → AreBytes tile → SeesFitting (entry_seen e tile)
unfolding entry_seen
entry_sees e tile are =
    five_both (is_entry_long e tile) (is_crc_right e tile 32 (take 32 tile)) (is_size_right e tile (40 + nsize_of tile)) (is_entry_in_range e tile) (is_crc_right e tile 36 (name_of tile))
    _ _ _ _ _ (Entry (dirent_of e tile)) SeesFitting (λ q. nothing (Damaged q) refl)
    (sees (Entry (dirent_of e tile)) (node.Entry (dirent_of e tile)) refl (entry_fits e tile are) (bytes-take (nsize_of tile) (drop 40 tile) (bytes-drop 40 tile are)))

none_stored : AreBytes []
none_stored i = omega arith

passed_sees : (e : Endian) (tile : List ℕ) → AreBytes tile → SeesFitting (passed_seen e tile)
unfolding passed_seen
passed_sees e tile are =
    let data_fill : Fill = Data (data_of e tile) in
    cond_both (compr_of tile == 0) _ _ SeesFitting
    (λ _. sees (Inode (inode_of e tile data_fill)) (node.Inode (inode_of e tile data_fill)) refl (inode_fits e tile data_fill are)
    (bytes-take (csize_of e tile) (drop 68 tile) (bytes-drop 68 tile are)))
    (λ _. cond_both (compr_of tile == 1) _ _ SeesFitting
    (λ _. sees (Inode (inode_of e tile Zero)) (node.Inode (inode_of e tile Zero)) refl (inode_fits e tile Zero are) none_stored)
    (λ _. nothing (Compressed (compr_of tile)) refl))

inode_sees : (e : Endian) (tile : List ℕ) → AreBytes tile → SeesFitting (inode_seen e tile)
unfolding inode_seen
inode_sees e tile are =
    five_both (is_inode_long e tile) (is_crc_right e tile 64 (take 60 tile)) (is_size_right e tile (68 + csize_of e tile)) (is_inode_in_range e tile) (is_data_crc_right e tile)
    _ _ _ _ _ (passed_seen e tile) SeesFitting (λ q. nothing (Damaged q) refl) (passed_sees e tile are)

plain_sees : (t : ℕ) → SeesFitting (plain_seen t)
plain_sees t =
    plain_both t SeesFitting (nothing Marker refl) (nothing Padding refl) (nothing Attribute refl)
    (λ n. nothing (Skippable n) refl) (λ n. nothing (ReadOnly n) refl) (λ n. nothing (Incompatible n) refl)

pub seen_fits : (e : Endian) (tile : List ℕ) (x : NodeRef) → AreBytes tile → node_in (seen_of e tile) ≡ Some x → Fits x × HoldsBytes x
unfolding seen_of
seen_fits e tile x are is =
    let all : SeesFitting (seen_of e tile) =
    cond_both (not (is_accurate (nodetype_of e tile))) _ _ SeesFitting (λ _. nothing Obsolete refl) (λ _.
    cond_both (nodetype_of e tile == dirent_type) _ _ SeesFitting (λ _. entry_sees e tile are) (λ _.
    cond_both (nodetype_of e tile == inode_type) _ _ SeesFitting (λ _. inode_sees e tile are) (λ _. plain_sees (nodetype_of e tile)))) in
    all.fits x is

-- ---- what is seen is what the tile reads as

entry_in : (s : Seen) (d : Dirent) → node_in s ≡ Some (node.Entry d) → s ≡ Entry d
entry_in (Entry x) d is = cc
entry_in (Inode x) d is = cc
entry_in Marker d is = cc
entry_in Padding d is = cc
entry_in Obsolete d is = cc
entry_in Attribute d is = cc
entry_in (Skippable t) d is = cc
entry_in (ReadOnly t) d is = cc
entry_in (Incompatible t) d is = cc
entry_in (Compressed t) d is = cc
entry_in (Damaged q) d is = cc

inode_in : (s : Seen) (n : InodeNode) → node_in s ≡ Some (node.Inode n) → s ≡ Inode n
inode_in (Entry x) n is = cc
inode_in (Inode x) n is = cc
inode_in Marker n is = cc
inode_in Padding n is = cc
inode_in Obsolete n is = cc
inode_in Attribute n is = cc
inode_in (Skippable t) n is = cc
inode_in (ReadOnly t) n is = cc
inode_in (Incompatible t) n is = cc
inode_in (Compressed t) n is = cc
inode_in (Damaged q) n is = cc

pub seen_is_read : (e : Endian) (rest : List ℕ) (x : NodeRef) → IsGood e rest → length rest % 4 ≡ 0
    → (node_in (seen_of e (tile_of e rest)) ≡ Some x) ↔ Reads e (tile_of e rest) x
seen_is_read e rest (node.Entry d) good words =
    let it = seen_entry e (tile_of e rest) d (tile_headed e rest good words) in
    ((λ is. it.0 (entry_in (seen_of e (tile_of e rest)) d is)), (λ r. ap node_in (it.1 r)))
seen_is_read e rest (node.Inode n) good words =
    let it = seen_inode e (tile_of e rest) n (tile_headed e rest good words) in
    ((λ is. it.0 (inode_in (seen_of e (tile_of e rest)) n is)), (λ r. ap node_in (it.1 r)))
