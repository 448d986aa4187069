-- A cut in the name or the data of a written node: the one check that sees these bytes is their checksum.
use Rattle.std.proofs.Common.{◌≡◌, Some, None, ◌≤◌, ◌<◌, ◌+◌, ◌-◌, ◌==◌, ◌&&◌, ◌||◌, ℕ, Bool, true, false, not, cond, IsTrue, List, [], ◌∷◌, ◌++◌, length, take, drop, slice_index, refl, sym, ap, ap₂, ◌∙◌, subst, arith, inl, inr, length-drop, append_assoc}
use Rattle.std.specs.Prelude.{bytes_eq, nat_le, nat_lt}
use Rattle.std.proofs.lemmas.Bool.{cases_lt, cases_Bool, both_ways, ne_eqb, false_from_ne_true}
use Rattle.std.proofs.lemmas.List.{length-take-le, length-append, length-replicate, take-append-drop, drop_at, take-append-le, drop-append-le, get_or-take}
use Rattle.std.proofs.Math.Seq.{take-append-add, take-append_seam}
use Rattle.std.proofs.lemmas.Slice.Eq.{bytes_eq-Decides}
use Rattle.flashbase.specs.Bytes.{erased, pad4_of}
use Rattle.flashbase.specs.Crc.{crc_of}
use Rattle.flashbase.proofs.CrcLemmas.{crc_of-lt}
use Rattle.flashbase.proofs.BytesLemmas.{le_pad4}
use Rattle.jnode.specs.Order.{number_at}
use Rattle.jnode.specs.Header.{nodetype_of, totlen_of, is_good, is_good_front}
use Rattle.jnode.specs.Reading.{nsize_of, name_of, csize_of, data_of, seen_of, entry_seen, inode_seen, passed_seen, dirent_of, is_entry_long, is_crc_right, is_size_right, is_entry_in_range, is_inode_long, is_inode_in_range, is_data_crc_right}
use Rattle.jnode.specs.Writing.{canonical, canonical_entry, canonical_inode, filled, stored_bytes, Fits, IsWritable, FitsEntry, FitsInode, IsWritableEntry, IsWritableInode}
use Rattle.jnode.specs.Weak.{torn, is_sound, is_weak, is_hidden, has_bounded_header, stored_at, IsWrittenNode, IsLeastWeak, IsLeastHidden}
use Rattle.jnode.specs.Laws.{IsTornTile}
use Rattle.jnode.specs.declared.order.Endian.{Endian}
use Rattle.jnode.specs.declared.node.Damage.{Damage}
use Rattle.jnode.specs.declared.node.Damage.TheVariants.{NameCrc, DataCrc}
use Rattle.jnode.specs.declared.node.Dirent.{Dirent}
use Rattle.jnode.specs.declared.node.InodeNode.{InodeNode}
use Rattle.jnode.specs.declared.node.Seen.{Seen}
use Rattle.jnode.specs.declared.node.Seen.TheVariants as seen
use Rattle.jnode.specs.declared.node.NodeRef.{NodeRef}
use Rattle.jnode.specs.declared.node.NodeRef.TheVariants.{Entry, Inode}
use Rattle.jnode.proofs.OrderLemmas.{number_at-take, take_of_take}
use Rattle.jnode.proofs.ReadingLemmas.{five_passed, entry_again, inode_again, damaged_no_entry, damaged_no_inode}
use Rattle.jnode.proofs.WritingLemmas.{canonical_long, canonical_reads, nodetype_to, size_of, length-canonical, length-canonical_entry, length-canonical_inode, entry_bytes_are, inode_bytes_are, number_is}
use Rattle.jnode.proofs.CutLemmas.{torn_past}
use Rattle.jnode.proofs.WeakLemmas.{bounded_front, same_front, canonical_type, filled_type, passed_is_sound, cut_behind_keeps_header, torn_is_tile, torn_long}

-- ---- how long written bytes are

size_most : (node : NodeRef) → IsWritable node → size_of node ≤ 4194304
unfolding size_of
size_most (Entry d) w = let most = w.name.1 in omega arith
size_most (Inode n) w = w.long

pub record HasSize (xs : List ℕ) : Type 0 where
  pub least : 12 ≤ length xs
  pub most : length xs ≤ 4194304

pub written_size : (e : Endian) (xs : List ℕ) → IsWrittenNode e xs → HasSize xs
written_size e xs w =
    let node = w.0 in
    let is = w.1 in
    let size : length xs ≡ length (canonical e node) = ap length is.form in
    record {
      least = omega (arith, canonical_long e node);
      most = omega (arith, length-canonical e node, size_most node is.writable);
    }

-- ---- a cut, by reading what it leaves

pub weak_same : (e : Endian) (xs : List ℕ) (j : ℕ) → torn xs j ≡ xs → is_weak e xs j ≡ false
unfolding is_weak
weak_same e xs j same = let it : bytes_eq (torn xs j) xs ≡ true = (bytes_eq-Decides _ _).1 same in rw it refl

pub weak_intact : (e : Endian) (xs : List ℕ) (j : ℕ) → (torn xs j ≡ xs → ⊥) → take 12 (torn xs j) ≡ take 12 xs → is_weak e xs j ≡ is_sound (seen_of e (filled (torn xs j)))
unfolding is_weak
weak_intact e xs j differs same =
    let all : bytes_eq (torn xs j) xs ≡ false = false_from_ne_true _ (λ t. differs ((bytes_eq-Decides _ _).0 t)) in
    let front : bytes_eq (take 12 (torn xs j)) (take 12 xs) ≡ true = (bytes_eq-Decides _ _).1 same in
    rw (all, front) refl

pub weak_lost : (e : Endian) (xs : List ℕ) (j : ℕ) → (torn xs j ≡ xs → ⊥) → (take 12 (torn xs j) ≡ take 12 xs → ⊥) → is_weak e xs j ≡ has_bounded_header e (torn xs j)
unfolding is_weak
weak_lost e xs j differs other =
    let all : bytes_eq (torn xs j) xs ≡ false = false_from_ne_true _ (λ t. differs ((bytes_eq-Decides _ _).0 t)) in
    let front : bytes_eq (take 12 (torn xs j)) (take 12 xs) ≡ false = false_from_ne_true _ (λ t. other ((bytes_eq-Decides _ _).0 t)) in
    rw (all, front) refl

-- what a cut leaves, up to whole words
abbrev pub left_of : List ℕ → ℕ → List ℕ
left_of xs j = take j xs ++ erased (pad4_of (length xs) - j)

pub left_front : (xs : List ℕ) (j : ℕ) → HasSize xs → j ≤ length xs → take 12 (left_of xs j) ≡ take 12 (torn xs j)
left_front xs j size within =
    let up = le_pad4 (length xs) in
    let least = size.least in
    same_front xs j (pad4_of (length xs) - j) (length xs - j) within (omega arith) (omega arith)

pub length-left_of : (xs : List ℕ) (j : ℕ) → j ≤ length xs → length (left_of xs j) ≡ pad4_of (length xs)
length-left_of xs j within =
    let up = le_pad4 (length xs) in
    omega (arith, length-append (take j xs) (erased (pad4_of (length xs) - j)), length-take-le j xs within, length-replicate {A = ℕ} (pad4_of (length xs) - j) 0xFF)

pub record IsLeft (e : Endian) (xs : List ℕ) (j : ℕ) : Type 0 where
  pub good : IsTrue (is_good e (left_of xs j))
  pub is : (differs : torn xs j ≡ xs → ⊥) → is_sound (seen_of e (take (pad4_of (totlen_of e (left_of xs j))) (left_of xs j))) ≡ is_weak e xs j

tile_left : (e : Endian) (node : NodeRef) (xs : List ℕ) (j : ℕ) → xs ≡ canonical e node
    → length xs ≤ 4194304 → j ≤ length xs → take 12 (torn xs j) ≡ take 12 xs → IsTornTile e xs j (left_of xs j)
tile_left e node xs j form =
    subst (λ (zs : List ℕ). length zs ≤ 4194304 → j ≤ length zs → take 12 (torn zs j) ≡ take 12 zs → IsTornTile e zs j (left_of zs j)) (sym form)
    (λ most within same.
    torn_is_tile e node j (pad4_of (length (canonical e node)) - j) (omega arith) within (omega (arith, le_pad4 (length (canonical e node)))) same)

pub left_intact : (e : Endian) (xs : List ℕ) (j : ℕ) → IsWrittenNode e xs → j ≤ length xs → take 12 (left_of xs j) ≡ take 12 xs → IsLeft e xs j
left_intact e xs j w within same =
    let node = w.0 in
    let form : xs ≡ canonical e node = w.1.form in
    let size = written_size e xs w in
    let front : take 12 (torn xs j) ≡ take 12 xs = sym (left_front xs j size within) ∙ same in
    let t = tile_left e node xs j form size.most within front in
    record {
      good = t.good;
      is = λ differs. ap (λ (zs : List ℕ). is_sound (seen_of e zs)) t.tile ∙ sym (weak_intact e xs j differs front);
    }

pub bounded : (e : Endian) (front : List ℕ) → is_good_front e front 4194304 ≡ has_bounded_header e front
unfolding is_good_front has_bounded_header
bounded e front = refl

pub left_lost : (e : Endian) (xs : List ℕ) (j : ℕ) (front : List ℕ) → IsWrittenNode e xs → j ≤ length xs → (torn xs j ≡ xs → ⊥) → front ≡ take 12 (left_of xs j)
    → (front ≡ take 12 xs → ⊥) → is_good_front e front 4194304 ≡ is_weak e xs j
left_lost e xs j front w within differs is other =
    let size = written_size e xs w in
    let same : take 12 front ≡ take 12 (torn xs j) = ap (take 12) is ∙ take_of_take 12 12 (left_of xs j) (omega arith) ∙ left_front xs j size within in
    let at : front ≡ take 12 (torn xs j) = is ∙ left_front xs j size within in
    bounded e front ∙ bounded_front e front (torn xs j) same ∙ sym (weak_lost e xs j differs (λ intact. other (at ∙ intact)))

pub weak_unchanged : (e : Endian) (xs : List ℕ) (j : ℕ) (b : Bool) → ((torn xs j ≡ xs → ⊥) → IsTrue b) → b ≡ false → is_weak e xs j ≡ false
weak_unchanged e xs j b found isnt = elim (cases_Bool (bytes_eq (torn xs j) xs)) [
  | inl t ↦ weak_same e xs j ((bytes_eq-Decides _ _).0 t)
  | inr f ↦ absurd (both_ways b isnt (found (λ same. both_ways _ f ((bytes_eq-Decides _ _).1 same))))
]

-- ---- a cut in the name or the data

torn_split : (front stored : List ℕ) (k : ℕ) → torn (front ++ stored) (length front + k) ≡ front ++ torn stored k
torn_split front stored k =
    let size : length (front ++ stored) - (length front + k) ≡ length stored - k = omega (arith, length-append front stored) in
    ap₂ (λ (a : List ℕ) (n : ℕ). a ++ erased n) (take-append-add front stored k) size
    ∙ append_assoc front (take k stored) (erased (length stored - k))

pub torn_stored : (m : ℕ) (xs : List ℕ) (k : ℕ) → m ≤ length xs → torn xs (m + k) ≡ take m xs ++ torn (drop m xs) k
torn_stored m xs k within =
    let len : length (take m xs) ≡ m = length-take-le m xs within in
    ap₂ (λ (ys : List ℕ) (n : ℕ). torn ys (n + k)) (sym (take-append-drop m xs)) (sym len) ∙ torn_split (take m xs) (drop m xs) k

-- the same front, and after it what is left of the name or the data
pub record IsCut (m : ℕ) (xs : List ℕ) (k : ℕ) (tile : List ℕ) : Type 0 where
  pub front : take m tile ≡ take m (filled xs)
  pub stored : take (length (drop m xs)) (drop m tile) ≡ torn (drop m xs) k

pub cut_is : (m : ℕ) (xs : List ℕ) (k : ℕ) → m ≤ length xs → IsCut m xs k (filled (torn xs (m + k)))
cut_is m xs k within =
    let left = torn xs (m + k) in
    let gap = erased (pad4_of (length left) - length left) in
    let stored = torn (drop m xs) k in
    let len : length (take m xs) ≡ m = length-take-le m xs within in
    let size : length stored ≡ length (drop m xs) = torn_long (drop m xs) k in
    let split : filled left ≡ take m xs ++ (stored ++ gap) =
    ap (λ (ys : List ℕ). ys ++ gap) (torn_stored m xs k within) ∙ append_assoc (take m xs) stored gap in
    record {
      front = ap (take m) split ∙ ap (λ (n : ℕ). take n (take m xs ++ (stored ++ gap))) (sym len) ∙ take-append_seam (take m xs) (stored ++ gap)
          ∙ sym (take-append-le m xs (erased (pad4_of (length xs) - length xs)) within);
      stored = ap₂ (λ (n : ℕ) (ys : List ℕ). take n (drop m ys)) (sym size) split
          ∙ ap (take (length stored)) (drop_at (take m xs) (stored ++ gap) m len) ∙ take-append_seam stored gap;
    }

pub whole_stored : (m : ℕ) (xs : List ℕ) → m ≤ length xs → take (length (drop m xs)) (drop m (filled xs)) ≡ drop m xs
whole_stored m xs within =
    let gap = erased (pad4_of (length xs) - length xs) in
    ap (take (length (drop m xs))) (drop-append-le m xs gap within) ∙ take-append_seam (drop m xs) gap

same_bool : (a b : Bool) → (a ≡ true → b ≡ true) → (b ≡ true → a ≡ true) → a ≡ b
same_bool true b to from = sym (to refl)
same_bool false true to from = from refl
same_bool false false to from = refl

-- the node differs exactly where its name or its data differ
differs_stored : (m : ℕ) (xs : List ℕ) (k : ℕ) → m ≤ length xs → bytes_eq (torn xs (m + k)) xs ≡ bytes_eq (torn (drop m xs) k) (drop m xs)
differs_stored m xs k within =
    let len : length (take m xs) ≡ m = length-take-le m xs within in
    same_bool _ _
    (λ t. (bytes_eq-Decides _ _).1 (sym (drop_at (take m xs) (torn (drop m xs) k) m len) ∙ ap (drop m) (sym (torn_stored m xs k within) ∙ (bytes_eq-Decides _ _).0 t)))
    (λ t. (bytes_eq-Decides _ _).1 (torn_stored m xs k within ∙ ap (λ (h : List ℕ). take m xs ++ h) ((bytes_eq-Decides _ _).0 t) ∙ take-append-drop m xs))

-- ---- checks that speak of the front alone

pub same_number : (e : Endian) (n p m : ℕ) (a b : List ℕ) → take m a ≡ take m b → p + n ≤ m → number_at e n p a ≡ number_at e n p b
same_number e n p m a b same within = sym (number_at-take e n p m a within) ∙ ap (number_at e n p) same ∙ number_at-take e n p m b within

pub same_byte : (i m : ℕ) (a b : List ℕ) → take m a ≡ take m b → i < m → slice_index a i ≡ slice_index b i
same_byte i m a b same within = sym (get_or-take m a i 0 within) ∙ ap (λ (l : List ℕ). slice_index l i) same ∙ get_or-take m b i 0 within

same_take : (n m : ℕ) (a b : List ℕ) → take m a ≡ take m b → n ≤ m → take n a ≡ take n b
same_take n m a b same within = sym (take_of_take n m a within) ∙ ap (take n) same ∙ take_of_take n m b within

pub crc_check : (e : Endian) (place n m : ℕ) (a b : List ℕ) → take m a ≡ take m b → place + 4 ≤ m → n ≤ m
    → is_crc_right e a place (take n a) ≡ is_crc_right e b place (take n b)
unfolding is_crc_right
crc_check e place n m a b same room covered =
    ap₂ (λ (x : ℕ) (ys : List ℕ). x == crc_of ys) (same_number e 4 place m a b same room) (same_take n m a b same covered)

pub size_check : (e : Endian) (x y m : ℕ) (a b : List ℕ) → take m a ≡ take m b → 8 ≤ m → x ≡ y → is_size_right e a x ≡ is_size_right e b y
unfolding is_size_right
size_check e x y m a b same room is =
    ap₂ (λ (s t : ℕ). pad4_of s == pad4_of t) is (same_number e 4 4 m a b same room)

pub entry_long_check : (e : Endian) (a b : List ℕ) → take 40 a ≡ take 40 b → is_entry_long e a ≡ is_entry_long e b
unfolding is_entry_long
entry_long_check e a b same = ap (nat_le 40) (same_number e 4 4 40 a b same (omega arith))

pub entry_range_check : (e : Endian) (a b : List ℕ) → take 40 a ≡ take 40 b → is_entry_in_range e a ≡ is_entry_in_range e b
unfolding is_entry_in_range
entry_range_check e a b same =
    ap₂ (λ (n p : ℕ). nat_le 1 n && nat_le n 254 && nat_lt 0 p) (same_byte 28 40 a b same (omega arith)) (same_number e 4 12 40 a b same (omega arith))

pub inode_long_check : (e : Endian) (a b : List ℕ) → take 68 a ≡ take 68 b → is_inode_long e a ≡ is_inode_long e b
unfolding is_inode_long
inode_long_check e a b same = ap (nat_le 68) (same_number e 4 4 68 a b same (omega arith))

pub inode_range_check : (e : Endian) (a b : List ℕ) → take 68 a ≡ take 68 b → is_inode_in_range e a ≡ is_inode_in_range e b
unfolding is_inode_in_range
inode_range_check e a b same =
    rw (
      same_number e 4 12 68 a b same (omega arith),
      same_number e 4 44 68 a b same (omega arith),
      same_number e 4 52 68 a b same (omega arith),
      same_number e 4 48 68 a b same (omega arith),
      same_byte 56 68 a b same (omega arith),
    ) refl

-- the last check decides, where the others pass
pub last_check : (a b c d f : Bool) (v w x y z : Damage) (r : Seen) → a ≡ true → b ≡ true → c ≡ true → d ≡ true → is_sound r ≡ true
    → is_sound (cond (not a) (seen.Damaged v) (cond (not b) (seen.Damaged w) (cond (not c) (seen.Damaged x) (cond (not d) (seen.Damaged y) (cond (not f) (seen.Damaged z) r))))) ≡ f
last_check true true true true true v w x y z r ha hb hc hd sound = sound
last_check true true true true false v w x y z r ha hb hc hd sound = refl
last_check true true true false f v w x y z r ha hb hc hd sound = absurd (both_ways false refl hd)
last_check true true false d f v w x y z r ha hb hc hd sound = absurd (both_ways false refl hc)
last_check true false c d f v w x y z r ha hb hc hd sound = absurd (both_ways false refl hb)
last_check false b c d f v w x y z r ha hb hc hd sound = absurd (both_ways false refl ha)

-- ---- what the checks see of the name or the data

stored_is : (m : ℕ) (xs stored gap : List ℕ) → m ≤ length xs → length (drop m xs) ≡ length stored → drop m (filled xs) ≡ stored ++ gap → drop m xs ≡ stored
stored_is m xs stored gap within size behind =
    sym (whole_stored m xs within) ∙ ap₂ (λ (n : ℕ) (ys : List ℕ). take n ys) size behind ∙ take-append_seam stored gap

entry_stored : (e : Endian) (d : Dirent) (k : ℕ) → FitsEntry d → IsWritableEntry d
    → is_sound (entry_seen e (filled (torn (canonical_entry e d) (40 + k)))) ≡ (crc_of (drop 40 (canonical_entry e d)) == crc_of (torn (drop 40 (canonical_entry e d)) k))
unfolding entry_seen is_crc_right
entry_stored e d k fits writable =
    let xs = canonical_entry e d in
    let gap = erased (pad4_of (length xs) - length xs) in
    let a = filled (torn xs (40 + k)) in
    let b = xs ++ gap in
    let len : length xs ≡ 40 + length d.name = length-canonical_entry e d in
    let within : 40 ≤ length xs = omega arith in
    let stored = drop 40 xs in
    let bytes = entry_bytes_are e d gap in
    let size : length stored ≡ length d.name = omega (arith, length-drop 40 xs) in
    let is : stored ≡ d.name = stored_is 40 xs d.name gap within size bytes.behind in
    let cut = cut_is 40 xs k within in
    let nsize_b : nsize_of b ≡ length d.name = bytes.nsize in
    let nsize : nsize_of a ≡ nsize_of b = same_byte 28 40 a b cut.front (omega arith) in
    let name : name_of a ≡ torn stored k = ap (λ (n : ℕ). take n (drop 40 a)) (nsize ∙ nsize_b ∙ sym size) ∙ cut.stored in
    let crc : number_at e 4 36 a ≡ crc_of stored =
    same_number e 4 36 40 a b cut.front (omega arith) ∙ number_is e 4 (crc_of d.name) (drop 36 b) bytes.name_crc (crc_of-lt d.name) ∙ ap crc_of (sym is) in
    let parts = five_passed _ _ _ _ (is_crc_right e b 36 (name_of b)) _ _ _ _ NameCrc (seen.Entry (dirent_of e b)) (seen.Entry d) (damaged_no_entry d) (entry_again e b d (canonical_reads e (Entry d) fits writable)) in
    last_check _ _ _ _ (is_crc_right e a 36 (name_of a)) _ _ _ _ NameCrc (seen.Entry (dirent_of e a))
    (entry_long_check e a b cut.front ∙ parts.0)
    (crc_check e 32 32 40 a b cut.front (omega arith) (omega arith) ∙ parts.1)
    (size_check e (40 + nsize_of a) (40 + nsize_of b) 40 a b cut.front (omega arith) (ap (λ (n : ℕ). 40 + n) nsize) ∙ parts.2)
    (entry_range_check e a b cut.front ∙ parts.3)
    refl
    ∙ ap₂ (λ (x : ℕ) (ys : List ℕ). x == crc_of ys) crc name

inode_stored : (e : Endian) (n : InodeNode) (k : ℕ) → FitsInode n → IsWritableInode n
    → is_sound (inode_seen e (filled (torn (canonical_inode e n) (68 + k))))
    ≡ ((length (drop 68 (canonical_inode e n)) == 0) || (crc_of (drop 68 (canonical_inode e n)) == crc_of (torn (drop 68 (canonical_inode e n)) k)))
unfolding inode_seen is_crc_right is_data_crc_right
inode_stored e n k fits writable =
    let xs = canonical_inode e n in
    let gap = erased (pad4_of (length xs) - length xs) in
    let a = filled (torn xs (68 + k)) in
    let b = xs ++ gap in
    let bytes_of = stored_bytes n.fill in
    let len : length xs ≡ 68 + length bytes_of = length-canonical_inode e n in
    let most : 68 + length bytes_of ≤ 4194304 = writable.long in
    let within : 68 ≤ length xs = omega arith in
    let stored = drop 68 xs in
    let bytes = inode_bytes_are e n gap in
    let size : length stored ≡ length bytes_of = omega (arith, length-drop 68 xs) in
    let is : stored ≡ bytes_of = stored_is 68 xs bytes_of gap within size bytes.behind in
    let cut = cut_is 68 xs k within in
    let csize_b : csize_of e b ≡ length bytes_of = number_is e 4 (length bytes_of) (drop 48 b) bytes.csize (omega arith) in
    let csize : csize_of e a ≡ csize_of e b = same_number e 4 48 68 a b cut.front (omega arith) in
    let csize_is : csize_of e a ≡ length stored = csize ∙ csize_b ∙ sym size in
    let given : data_of e a ≡ torn stored k = ap (λ (n : ℕ). take n (drop 68 a)) csize_is ∙ cut.stored in
    let crc : number_at e 4 60 a ≡ crc_of stored =
    same_number e 4 60 68 a b cut.front (omega arith) ∙ number_is e 4 (crc_of bytes_of) (drop 60 b) bytes.data_crc (crc_of-lt bytes_of) ∙ ap crc_of (sym is) in
    let parts = five_passed _ _ _ _ (is_data_crc_right e b) _ _ _ _ DataCrc (passed_seen e b) (seen.Inode n) (damaged_no_inode n) (inode_again e b n (canonical_reads e (Inode n) fits writable)) in
    last_check _ _ _ _ (is_data_crc_right e a) _ _ _ _ DataCrc (passed_seen e a)
    (inode_long_check e a b cut.front ∙ parts.0)
    (crc_check e 64 60 68 a b cut.front (omega arith) (omega arith) ∙ parts.1)
    (size_check e (68 + csize_of e a) (68 + csize_of e b) 68 a b cut.front (omega arith) (ap (λ (n : ℕ). 68 + n) csize) ∙ parts.2)
    (inode_range_check e a b cut.front ∙ parts.3)
    (passed_is_sound e a)
    ∙ ap₂ (λ (c : ℕ) (x : Bool). (c == 0) || x) csize_is (ap₂ (λ (x : ℕ) (ys : List ℕ). x == crc_of ys) crc given)

-- ---- so the cut is weak just where the checksum does not show it

pub weak_of_sound : (e : Endian) (xs : List ℕ) (m k : ℕ) (s : Bool) → m ≤ length xs → 12 ≤ m → is_sound (seen_of e (filled (torn xs (m + k)))) ≡ s
    → is_weak e xs (m + k) ≡ (not (bytes_eq (torn (drop m xs) k) (drop m xs)) && s)
unfolding is_weak
weak_of_sound e xs m k s within least is =
    let front : bytes_eq (take 12 (torn xs (m + k))) (take 12 xs) ≡ true =
    (bytes_eq-Decides _ _).1 (cut_behind_keeps_header xs (m + k) (omega arith) (omega arith)) in
    rw front (ap₂ (λ (x y : Bool). not x && y) (differs_stored m xs k within) is)

pub none_stored : (stored : List ℕ) (k : ℕ) (x : Bool) → (not (bytes_eq (torn stored k) stored) && ((length stored == 0) || x)) ≡ (not (bytes_eq (torn stored k) stored) && x)
none_stored [] k x =
    let it : bytes_eq (torn [] k) [] ≡ true = (bytes_eq-Decides _ _).1 (torn_past [] k (omega arith)) in
    rw it refl
none_stored (b ∷ stored) k x =
    let some : (length (b ∷ stored) == 0) ≡ false = ne_eqb _ _ (omega arith) in
    rw some refl

pub seen_as_entry : (e : Endian) (tile : List ℕ) → nodetype_of e tile ≡ 0xE001 → seen_of e tile ≡ entry_seen e tile
unfolding seen_of
seen_as_entry e tile kind = rw kind refl

pub seen_as_inode : (e : Endian) (tile : List ℕ) → nodetype_of e tile ≡ 0xE002 → seen_of e tile ≡ inode_seen e tile
unfolding seen_of
seen_as_inode e tile kind = rw kind refl

abbrev place_of : NodeRef → ℕ
place_of (Entry d) = 40
place_of (Inode n) = 68

weak_stored : (e : Endian) (node : NodeRef) (k : ℕ) → Fits node → IsWritable node
    → is_weak e (canonical e node) (place_of node + k) ≡ is_hidden (drop (place_of node) (canonical e node)) k
unfolding is_hidden nodetype_to
weak_stored e (Entry d) k fits writable =
    let xs = canonical_entry e d in
    let within : 40 ≤ length xs = omega (arith, length-canonical_entry e d) in
    let kind = filled_type e (Entry d) (40 + k) (cut_behind_keeps_header xs (40 + k) (omega arith) (omega arith)) in
    weak_of_sound e xs 40 k _ within (omega arith) (ap is_sound (seen_as_entry e (filled (torn xs (40 + k))) kind) ∙ entry_stored e d k fits writable)
weak_stored e (Inode n) k fits writable =
    let xs = canonical_inode e n in
    let within : 68 ≤ length xs = omega (arith, length-canonical_inode e n) in
    let kind = filled_type e (Inode n) (68 + k) (cut_behind_keeps_header xs (68 + k) (omega arith) (omega arith)) in
    weak_of_sound e xs 68 k _ within (omega arith) (ap is_sound (seen_as_inode e (filled (torn xs (68 + k))) kind) ∙ inode_stored e n k fits writable)
    ∙ none_stored (drop 68 xs) k _

place_is : (e : Endian) (node : NodeRef) → stored_at e (canonical e node) ≡ place_of node
unfolding nodetype_to
place_is e (Entry d) = let kind = canonical_type e (Entry d) in rw kind refl
place_is e (Inode n) = let kind = canonical_type e (Inode n) in rw kind refl

place_within : (e : Endian) (node : NodeRef) → place_of node ≤ length (canonical e node)
place_within e (Entry d) = omega (arith, length-canonical_entry e d)
place_within e (Inode n) = omega (arith, length-canonical_inode e n)

-- after its front, the weak cuts of a written node are the hidden ones of its name or its data
pub record HasStoredCuts (e : Endian) (xs : List ℕ) : Type 0 where
  pub within : stored_at e xs ≤ length xs
  pub same : (k : ℕ) → is_weak e xs (stored_at e xs + k) ≡ is_hidden (drop (stored_at e xs) xs) k

pub has_stored_cuts : (e : Endian) (xs : List ℕ) → IsWrittenNode e xs → HasStoredCuts e xs
has_stored_cuts e xs w =
    let node = w.0 in
    subst (HasStoredCuts e) (sym w.1.form) (record {
      within = omega (arith, place_is e node, place_within e node);
      same = λ k. subst (λ (m : ℕ). is_weak e (canonical e node) (m + k) ≡ is_hidden (drop m (canonical e node)) k) (sym (place_is e node))
          (weak_stored e node k w.1.fits w.1.writable);
    })

-- ---- the least of all

pub least_front : (e : Endian) (xs : List ℕ) (cut : ℕ) → is_weak e xs cut ≡ true → ((i : ℕ) → i < cut → is_weak e xs i ≡ false) → IsLeastWeak e xs (Some cut)
least_front e xs cut weak before = (
  weak,
  λ i hit. elim (cases_lt i cut) [
    | inl less ↦ absurd (both_ways _ (before i less) hit)
    | inr at ↦ at
  ],
)

pub least_none : (e : Endian) (xs : List ℕ) (m : ℕ) → ((i : ℕ) → i < m → is_weak e xs i ≡ false)
    → ((k : ℕ) → is_weak e xs (m + k) ≡ is_hidden (drop m xs) k) → IsLeastHidden (drop m xs) None → IsLeastWeak e xs None
least_none e xs m before same none = λ j. elim (cases_lt j m) [
  | inl less ↦ before j less
  | inr past ↦ let at : m + (j - m) ≡ j = omega arith in ap (is_weak e xs) (sym at) ∙ same (j - m) ∙ none (j - m)
]

pub least_some : (e : Endian) (xs : List ℕ) (m k : ℕ) → ((i : ℕ) → i < m → is_weak e xs i ≡ false)
    → ((k : ℕ) → is_weak e xs (m + k) ≡ is_hidden (drop m xs) k) → IsLeastHidden (drop m xs) (Some k) → IsLeastWeak e xs (Some (m + k))
least_some e xs m k before same least = (
  same k ∙ least.0,
  λ i hit. elim (cases_lt i m) [
    | inl less ↦ absurd (both_ways _ (before i less) hit)
    | inr past ↦
        let at : m + (i - m) ≡ i = omega arith in
        let later : k ≤ i - m = least.1 (i - m) (sym (same (i - m)) ∙ ap (is_weak e xs) at ∙ hit) in
        omega arith
  ],
)

-- ---- what was written onto nothing

pub written_entry : (e : Endian) (d : Dirent) (bytes before out : List ℕ) → bytes ≡ out → out ≡ before ++ canonical_entry e d → before ≡ []
    → FitsEntry d → IsWritableEntry d → IsWrittenNode e bytes
written_entry e d bytes before out is wrote none fits writable =
    (Entry d, record { form = is ∙ wrote ∙ ap (λ (xs : List ℕ). xs ++ canonical_entry e d) none; fits = fits; writable = writable })

pub written_inode : (e : Endian) (n : InodeNode) (bytes before out : List ℕ) → bytes ≡ out → out ≡ before ++ canonical_inode e n → before ≡ []
    → FitsInode n → IsWritableInode n → IsWrittenNode e bytes
written_inode e n bytes before out is wrote none fits writable =
    (Inode n, record { form = is ∙ wrote ∙ ap (λ (xs : List ℕ). xs ++ canonical_inode e n) none; fits = fits; writable = writable })
