-- What a cut leaves of a node.
use Rattle.std.proofs.Common.{◌≡◌, ◌≢◌, ℕ, zero, suc, ◌+◌, ◌-◌, ◌*◌, ◌^◌, ◌<◌, ◌≤◌, ◌==◌, ◌&&◌, Bool, true, false, List, [], ◌++◌, length, take, drop, slice_index, refl, sym, ap, ap₂, ◌∙◌, arith, inl, inr, append_assoc, length-append, length-drop}
use Rattle.std.specs.Prelude.{nat_le, bytes_eq}
use Rattle.std.proofs.lemmas.Bool.{le-leb, leb-true, ne_eqb, and_from, and_parts, cases_lt, both_ways, false_from_ne_true, cond_both}
use Rattle.std.proofs.lemmas.List.{length-take-le, length-take, length-replicate, take-replicate, drop-replicate, drop-drop, take-take, take_all, append-nil, get_or-drop, get_or_append_left, get_or-take, get_or-append_right, get_or-replicate, take-append-le, replicate-append-replicate}
use Rattle.std.proofs.Math.Seq.{take-append-add, drop-append-add}
use Rattle.std.proofs.lemmas.Slice.Eq.{bytes_eq-Decides}
use Rattle.flashbase.specs.Bytes.{erased, pad4_of}
use Rattle.flashbase.proofs.BytesLemmas.{le_pad4}
use Rattle.jnode.specs.Order.{number_in, bytes_in}
use Rattle.jnode.specs.Header.{magic_of, nodetype_of, totlen_of, has_header, is_good, is_good_front}
use Rattle.jnode.specs.Reading.{dirent_of, compr_of, csize_of, nsize_of, name_of, seen_of, entry_seen, inode_seen, passed_seen, is_entry_long, is_crc_right, is_size_right, is_entry_in_range, is_inode_long, is_inode_in_range, is_data_crc_right}
use Rattle.jnode.specs.Writing.{canonical, canonical_entry, canonical_inode, entry_front, inode_front, object_bytes, time_bytes, range_bytes, header_bytes, filled}
use Rattle.jnode.specs.Weak.{torn, is_sound, is_weak, has_bounded_header}
use Rattle.jnode.specs.Laws.{IsPlain, IsTornTile}
use Rattle.jnode.specs.declared.order.Endian.{Endian}
use Rattle.jnode.specs.declared.order.Endian.TheVariants.{Little, Big}
use Rattle.jnode.specs.declared.header.Header.{Header}
use Rattle.jnode.specs.declared.node.Damage.{Damage}
use Rattle.jnode.specs.declared.node.Seen.{Seen}
use Rattle.jnode.specs.declared.node.Seen.TheVariants as seen
use Rattle.jnode.specs.declared.node.NodeRef.{NodeRef}
use Rattle.jnode.specs.declared.node.NodeRef.TheVariants.{Entry, Inode}
use Rattle.jnode.proofs.HeaderLemmas.{header_is_twelve_bytes, no_magic, too_short, too_long, erased_is_not_good, header_holds, good_from}
use Rattle.jnode.proofs.ReadingLemmas.{five_both}
use Rattle.jnode.proofs.WritingLemmas.{canonical_long, canonical_header, nodetype_to, size_of, length-canonical, length-filled}

-- ---- bytes and erased ones after them

pub length_of : (p : List ℕ) (n : ℕ) → length (p ++ erased n) ≡ length p + n
length_of p n = omega (arith, length-append p (erased n), length-replicate {A = ℕ} n 0xFF)

pub front_of : (p : List ℕ) (n : ℕ) → length p ≤ 12 → 12 ≤ length p + n → take 12 (p ++ erased n) ≡ p ++ erased (12 - length p)
front_of p n short long =
    let at : length p + (12 - length p) ≡ 12 = omega arith in
    ap (λ (k : ℕ). take k (p ++ erased n)) (sym at) ∙ take-append-add p (erased n) (12 - length p)
    ∙ ap (λ (q : List ℕ). p ++ q) (take-replicate (12 - length p) n 0xFF (omega arith))

pub behind : (p : List ℕ) (n k : ℕ) → length p ≤ k → drop k (p ++ erased n) ≡ erased (n - (k - length p))
behind p n k past =
    let at : length p + (k - length p) ≡ k = omega arith in
    ap (λ (i : ℕ). drop i (p ++ erased n)) (sym at) ∙ drop-append-add p (erased n) (k - length p) ∙ drop-replicate (k - length p) n 0xFF

intact : (xs : List ℕ) (j n i : ℕ) → i < j → j ≤ length xs → slice_index (take j xs ++ erased n) i ≡ slice_index xs i
intact xs j n i before within =
    let len : length (take j xs) ≡ j = length-take-le j xs within in
    get_or_append_left (take j xs) (erased n) 0 i (omega arith) ∙ get_or-take j xs i 0 before

lost : (xs : List ℕ) (j n i : ℕ) → j ≤ i → j ≤ length xs → i < j + n → slice_index (take j xs ++ erased n) i ≡ 0xFF
lost xs j n i after within inside =
    get_or-append_right (take j xs) (erased n) j i 0 (length-take-le j xs within) after ∙ get_or-replicate n (i - j) 0xFF 0 (omega arith)

-- ---- a node's first bytes

-- the bytes of the length do not begin with the magic
abbrev HasNoMagic : Endian → List ℕ → Type 0
HasNoMagic Little xs = (slice_index xs 4 + 256 * slice_index xs 5 ≢ 6533) × (slice_index xs 4 < 256)
HasNoMagic Big xs = (slice_index xs 4 ≡ 0) × (slice_index xs 5 < 256)

canonical_has_no_magic : (e : Endian) (node : NodeRef) → IsPlain (size_of node) → HasNoMagic e (canonical e node)
unfolding canonical_entry entry_front canonical_inode inode_front object_bytes time_bytes range_bytes header_bytes bytes_in size_of
canonical_has_no_magic Little (Entry d) plain = (λ same. plain.1 (omega (arith, plain.0)), omega arith)
canonical_has_no_magic Little (Inode n) plain = (λ same. plain.1 (omega (arith, plain.0)), omega arith)
canonical_has_no_magic Big (Entry d) plain = (omega (arith, plain.0), omega arith)
canonical_has_no_magic Big (Inode n) plain = (omega (arith, plain.0), omega arith)

-- ---- the header where the node was

-- a good header is that of a node that is not too long
bounded : (e : Endian) (rest : List ℕ) → length rest ≤ 4194304 → is_good e rest ≡ true → has_bounded_header e rest ≡ true
unfolding is_good is_good_front has_bounded_header
bounded e rest long good =
    let parts = and_parts (nat_le 12 (length rest)) (has_header e rest && nat_le 12 (totlen_of e rest) && nat_le (totlen_of e rest) (length rest)) good in
    let front = and_parts (has_header e rest && nat_le 12 (totlen_of e rest)) (nat_le (totlen_of e rest) (length rest)) parts.1 in
    let within : totlen_of e rest ≤ length rest = leb-true _ _ front.1 in
    let fits : totlen_of e rest ≤ 4194304 = omega arith in
    and_from _ _ front.0 (le-leb _ _ fits)

pub bounded_front : (e : Endian) (a b : List ℕ) → take 12 a ≡ take 12 b → has_bounded_header e a ≡ has_bounded_header e b
unfolding has_bounded_header
bounded_front e a b same =
    let words = header_is_twelve_bytes e a b same in
    ap₂ (λ (has : Bool) (h : Header). has && nat_le 12 h.totlen && nat_le h.totlen 4194304) words.0 words.1

-- where a cut changed the header and is not weak, there is no header of such a node
shown : (e : Endian) (xs : List ℕ) (j : ℕ) → take 12 (torn xs j) ≢ take 12 xs → is_weak e xs j ≡ false → has_bounded_header e (torn xs j) ≡ false
unfolding is_weak
shown e xs j differs weak =
    let front : bytes_eq (take 12 (torn xs j)) (take 12 xs) ≡ false = false_from_ne_true _ (λ t. differs ((bytes_eq-Decides _ _).0 t)) in
    let all : bytes_eq (torn xs j) xs ≡ false = false_from_ne_true _ (λ t. differs (ap (take 12) ((bytes_eq-Decides _ _).0 t))) in
    rw (all, front) at weak

at_first : (e : Endian) (xs : List ℕ) (j n : ℕ) → 12 ≤ length xs → j < 12 → j + n ≤ 4194304
    → take 12 (torn xs j) ≢ take 12 xs → is_weak e xs j ≡ false → is_good e (take j xs ++ erased n) ≡ false
at_first e xs j n long inside room differs weak =
    let rest = take j xs ++ erased n in
    let cut : length (take j xs) ≡ j = length-take-le j xs (omega arith) in
    let len : length rest ≡ j + n = length_of (take j xs) n ∙ ap (λ (k : ℕ). k + n) cut in
    elim (cases_lt (length rest) 12) [
      | inl short ↦ too_short e rest short
      | inr whole ↦
          let front : take 12 rest ≡ take 12 (torn xs j) =
          front_of (take j xs) n (omega arith) (omega arith) ∙ sym (front_of (take j xs) (length xs - j) (omega arith) (omega arith)) in
          false_from_ne_true _ (λ good.
          both_ways _ (shown e xs j differs weak) (sym (bounded_front e rest (torn xs j) front) ∙ bounded e rest (omega arith) good))
    ]

-- ---- at the second word

half_little : (xs : List ℕ) → magic_of Little (drop 4 xs) ≡ slice_index xs 4 + 256 * slice_index xs 5
unfolding number_in
half_little xs = omega (arith, get_or-drop 4 xs 0 0, get_or-drop 4 xs 1 0)

half_big : (xs : List ℕ) → magic_of Big (drop 4 xs) ≡ slice_index xs 4 * 256 + slice_index xs 5
unfolding number_in
half_big xs = omega (arith, get_or-drop 4 xs 0 0, get_or-drop 4 xs 1 0)

no_half : (e : Endian) (xs : List ℕ) (j n : ℕ) → HasNoMagic e xs → 4 < j → j ≤ length xs → 5 < j + n
    → magic_of e (drop 4 (take j xs ++ erased n)) ≢ 6533
no_half Little xs j n plain past within long same =
    let half = half_little (take j xs ++ erased n) in
    let first = intact xs j n 4 past within in
    elim (cases_lt 5 j) [
      | inl both ↦
          let second = intact xs j n 5 both within in
          plain.0 (omega (arith, half, first, second, same))
      | inr one ↦
          let second = lost xs j n 5 one within long in
          omega (arith, half, first, second, same, plain.1)
    ]
no_half Big xs j n plain past within long same =
    let half = half_big (take j xs ++ erased n) in
    let first = intact xs j n 4 past within in
    elim (cases_lt 5 j) [
      | inl both ↦
          let second = intact xs j n 5 both within in
          omega (arith, half, first, second, same, plain.0, plain.1)
      | inr one ↦
          let second = lost xs j n 5 one within long in
          omega (arith, half, first, second, same, plain.0)
    ]

at_second : (e : Endian) (xs : List ℕ) (j n : ℕ) → 12 ≤ length xs → j < 12 → HasNoMagic e xs
    → is_good e (drop 4 (take j xs ++ erased n)) ≡ false
at_second e xs j n long inside plain =
    let rest = take j xs ++ erased n in
    let cut : length (take j xs) ≡ j = length-take-le j xs (omega arith) in
    let len : length rest ≡ j + n = length_of (take j xs) n ∙ ap (λ (k : ℕ). k + n) cut in
    let left : length (drop 4 rest) ≡ length rest - 4 = length-drop 4 rest in
    elim (cases_lt (length (drop 4 rest)) 12) [
      | inl short ↦ too_short e (drop 4 rest) short
      | inr whole ↦ elim (cases_lt 4 j) [
        | inl past ↦ no_magic e (drop 4 rest) (ne_eqb _ _ (no_half e xs j n plain past (omega arith) (omega arith)))
        | inr before ↦ ap (is_good e) (behind (take j xs) n 4 (omega arith)) ∙ erased_is_not_good e (n - (4 - length (take j xs)))
      ]
    ]

-- ---- from the third word on

erased_word : (e : Endian) (m : ℕ) → number_in e 4 (erased (suc (suc (suc (suc m))))) ≡ 0xFFFFFFFF
unfolding number_in
erased_word Little m = refl
erased_word Big m = refl

erased_totlen : (e : Endian) (rest : List ℕ) (m : ℕ) → drop 4 rest ≡ erased m → length rest ≤ 4194304 → is_good e rest ≡ false
erased_totlen e rest m behind_it room = elim (cases_lt (length rest) 12) [
  | inl short ↦ too_short e rest short
  | inr whole ↦
      let len : length rest - 4 ≡ m = sym (length-drop 4 rest) ∙ ap length behind_it ∙ length-replicate m 0xFF in
      let four : m ≡ suc (suc (suc (suc (m - 4)))) = omega arith in
      let totlen : totlen_of e rest ≡ 0xFFFFFFFF = ap (number_in e 4) (behind_it ∙ ap erased four) ∙ erased_word e (m - 4) in
      too_long e rest (omega arith)
]

at_later : (e : Endian) (p : List ℕ) (n word : ℕ) → length p < 12 → length p + n ≤ 4194304
    → is_good e (drop (4 * suc (suc word)) (p ++ erased n)) ≡ false
at_later e p n word inside room =
    let k = 4 * suc (suc word) in
    let len : length (drop k (p ++ erased n)) ≡ length p + n - k = length-drop k (p ++ erased n) ∙ ap (λ (m : ℕ). m - k) (length_of p n) in
    erased_totlen e (drop k (p ++ erased n)) (n - (k + 4 - length p)) (drop-drop 4 k (p ++ erased n) ∙ behind p n (k + 4) (omega arith)) (omega arith)

-- there is no good header at any word of a torn header that is changed and not weak
pub torn_header_is_none : (e : Endian) (node : NodeRef) (j n word : ℕ) → IsPlain (length (canonical e node)) → j < 12 → j + n ≤ 4194304
    → take 12 (torn (canonical e node) j) ≢ take 12 (canonical e node) → is_weak e (canonical e node) j ≡ false
    → is_good e (drop (4 * word) (take j (canonical e node) ++ erased n)) ≡ false
torn_header_is_none e node j n zero plain inside room differs weak = at_first e (canonical e node) j n (canonical_long e node) inside room differs weak
torn_header_is_none e node j n (suc zero) plain inside room differs weak =
    let same = length-canonical e node in
    at_second e (canonical e node) j n (canonical_long e node) inside
    (canonical_has_no_magic e node (omega (arith, plain.0, same), λ is. plain.1 (same ∙ is)))
torn_header_is_none e node j n (suc (suc word)) plain inside room differs weak =
    let long = canonical_long e node in
    let cut : length (take j (canonical e node)) ≡ j = length-take-le j (canonical e node) (omega arith) in
    at_later e (take j (canonical e node)) n word (omega arith) (omega arith)

-- ---- a node that was cut after its header

IsDamaged : Seen → Type 0
IsDamaged s = is_sound s ≡ false → (which : Damage) × (s ≡ seen.Damaged which)

damaged_is : (q : Damage) → IsDamaged (seen.Damaged q)
unfolding IsDamaged
damaged_is q not = (q, refl)

sound_is : (s : Seen) → is_sound s ≡ true → IsDamaged s
unfolding IsDamaged
sound_is s is not = absurd (both_ways _ not is)

pub passed_is_sound : (e : Endian) (tile : List ℕ) → is_sound (passed_seen e tile) ≡ true
unfolding passed_seen
passed_is_sound e tile =
    cond_both (compr_of tile == 0) _ _ (λ s. is_sound s ≡ true) (λ _. refl) (λ _.
    cond_both (compr_of tile == 1) _ _ (λ s. is_sound s ≡ true) (λ _. refl) (λ _. refl))

entry_damaged : (e : Endian) (tile : List ℕ) → IsDamaged (entry_seen e tile)
unfolding entry_seen
entry_damaged e tile =
    five_both (is_entry_long e tile) (is_crc_right e tile 32 (take 32 tile)) (is_size_right e tile (40 + nsize_of tile)) (is_entry_in_range e tile) (is_crc_right e tile 36 (name_of tile))
    _ _ _ _ _ (seen.Entry (dirent_of e tile)) IsDamaged damaged_is (sound_is (seen.Entry (dirent_of e tile)) refl)

inode_damaged : (e : Endian) (tile : List ℕ) → IsDamaged (inode_seen e tile)
unfolding inode_seen
inode_damaged e tile =
    five_both (is_inode_long e tile) (is_crc_right e tile 64 (take 60 tile)) (is_size_right e tile (68 + csize_of e tile)) (is_inode_in_range e tile) (is_data_crc_right e tile)
    _ _ _ _ _ (passed_seen e tile) IsDamaged damaged_is (sound_is (passed_seen e tile) (passed_is_sound e tile))

seen_of_type : (e : Endian) (node : NodeRef) (tile : List ℕ) → nodetype_of e tile ≡ nodetype_to node → IsDamaged (seen_of e tile)
unfolding seen_of nodetype_to
seen_of_type e (Entry d) tile kind = rw kind (entry_damaged e tile)
seen_of_type e (Inode n) tile kind = rw kind (inode_damaged e tile)

not_sound : (e : Endian) (xs : List ℕ) (j : ℕ) → take 12 (torn xs j) ≡ take 12 xs → torn xs j ≢ xs → is_weak e xs j ≡ false
    → is_sound (seen_of e (filled (torn xs j))) ≡ false
unfolding is_weak
not_sound e xs j same differs weak =
    let front : bytes_eq (take 12 (torn xs j)) (take 12 xs) ≡ true = (bytes_eq-Decides _ _).1 same in
    let all : bytes_eq (torn xs j) xs ≡ false = false_from_ne_true _ (λ t. differs ((bytes_eq-Decides _ _).0 t)) in
    rw (all, front) at weak

pub torn_long : (xs : List ℕ) (j : ℕ) → length (torn xs j) ≡ length xs
torn_long xs j = omega (arith, length_of (take j xs) (length xs - j), length-take j xs)

pub canonical_type : (e : Endian) (node : NodeRef) → nodetype_of e (canonical e node) ≡ nodetype_to node
unfolding canonical_entry entry_front canonical_inode inode_front object_bytes time_bytes range_bytes header_bytes bytes_in number_in nodetype_to
canonical_type Little (Entry d) = refl
canonical_type Little (Inode n) = refl
canonical_type Big (Entry d) = refl
canonical_type Big (Inode n) = refl

pub filled_type : (e : Endian) (node : NodeRef) (j : ℕ) → take 12 (torn (canonical e node) j) ≡ take 12 (canonical e node)
    → nodetype_of e (filled (torn (canonical e node) j)) ≡ nodetype_to node
filled_type e node j same =
    let left = torn (canonical e node) j in
    let long = canonical_long e node in
    let len = torn_long (canonical e node) j in
    let more = erased (pad4_of (length left) - length left) in
    let front : take 12 (left ++ more) ≡ take 12 (canonical e node) = take-append-le 12 left more (omega arith) ∙ same in
    let words = header_is_twelve_bytes e (left ++ more) (canonical e node) front in
    ap (λ (h : Header). h.nodetype) words.1 ∙ canonical_type e node

-- a torn node whose header is whole, that is changed and not weak, is seen as damaged
pub torn_node_is_damaged : (e : Endian) (node : NodeRef) (j : ℕ) → take 12 (torn (canonical e node) j) ≡ take 12 (canonical e node)
    → torn (canonical e node) j ≢ canonical e node → is_weak e (canonical e node) j ≡ false
    → (which : Damage) × (seen_of e (filled (torn (canonical e node) j)) ≡ seen.Damaged which)
unfolding IsDamaged
torn_node_is_damaged e node j same differs weak =
    seen_of_type e node (filled (torn (canonical e node) j)) (filled_type e node j same) (not_sound e (canonical e node) j same differs weak)

-- ---- and it is a tile as the whole node is

pub cut_behind_keeps_header : (xs : List ℕ) (j : ℕ) → 12 ≤ j → 12 ≤ length xs → take 12 (torn xs j) ≡ take 12 xs
cut_behind_keeps_header xs j behind_it long =
    elim (cases_lt (length xs) j) [
      | inl past ↦
          let none : length xs - j ≡ 0 = omega arith in
          ap (take 12) (ap₂ (λ (a : List ℕ) (k : ℕ). a ++ erased k) (take_all j xs (omega arith)) none ∙ append-nil xs)
      | inr within ↦
          let cut : length (take j xs) ≡ j = length-take-le j xs within in
          take-append-le 12 (take j xs) (erased (length xs - j)) (omega arith) ∙ take-take 12 j xs behind_it
    ]

-- the same front, however many erased bytes follow
pub same_front : (xs : List ℕ) (j m n : ℕ) → j ≤ length xs → 12 ≤ j + m → 12 ≤ j + n
    → take 12 (take j xs ++ erased m) ≡ take 12 (take j xs ++ erased n)
same_front xs j m n within lm ln =
    let cut : length (take j xs) ≡ j = length-take-le j xs within in
    elim (cases_lt j 12) [
      | inl before ↦ front_of (take j xs) m (omega arith) (omega arith) ∙ sym (front_of (take j xs) n (omega arith) (omega arith))
      | inr after ↦ take-append-le 12 (take j xs) (erased m) (omega arith) ∙ sym (take-append-le 12 (take j xs) (erased n) (omega arith))
    ]

tile_is_torn : (xs : List ℕ) (j n : ℕ) → j ≤ length xs → pad4_of (length xs) ≤ j + n
    → take (pad4_of (length xs)) (take j xs ++ erased n) ≡ filled (torn xs j)
tile_is_torn xs j n within room =
    let p = take j xs in
    let size = length xs in
    let cut : length p ≡ j = length-take-le j xs within in
    let len : length (torn xs j) ≡ size = torn_long xs j in
    let up : size ≤ pad4_of size = le_pad4 size in
    let whole : length p + (pad4_of size - j) ≡ pad4_of size = omega arith in
    let gap : (size - j) + (pad4_of size - size) ≡ pad4_of size - j = omega arith in
    ap (λ (k : ℕ). take k (p ++ erased n)) (sym whole)
    ∙ take-append-add p (erased n) (pad4_of size - j)
    ∙ ap (λ (q : List ℕ). p ++ q) (take-replicate (pad4_of size - j) n 0xFF (omega arith) ∙ ap erased (sym gap) ∙ sym (replicate-append-replicate (size - j) (pad4_of size - size) 0xFF))
    ∙ sym (append_assoc p (erased (size - j)) (erased (pad4_of size - size)))
    ∙ ap (λ (k : ℕ). torn xs j ++ erased (pad4_of k - k)) (sym len)

pub torn_is_tile : (e : Endian) (node : NodeRef) (j n : ℕ) → length (canonical e node) < 2 ^ 32 → j ≤ length (canonical e node)
    → pad4_of (length (canonical e node)) ≤ j + n → take 12 (torn (canonical e node) j) ≡ take 12 (canonical e node)
    → IsTornTile e (canonical e node) j (take j (canonical e node) ++ erased n)
torn_is_tile e node j n small within room same =
    let xs = canonical e node in
    let left = take j xs ++ erased n in
    let long = canonical_long e node in
    let cut : length (take j xs) ≡ j = length-take-le j xs within in
    let len : length left ≡ j + n = length_of (take j xs) n ∙ ap (λ (k : ℕ). k + n) cut in
    let up : length xs ≤ pad4_of (length xs) = le_pad4 (length xs) in
    let has = canonical_header e node [] small in
    let front : take 12 left ≡ take 12 (filled xs ++ []) =
    same_front xs j n (length xs - j) within (omega arith) (omega arith) ∙ same
    ∙ sym (take-append-le 12 xs (erased (pad4_of (length xs) - length xs)) long)
    ∙ sym (take-append-le 12 (filled xs) [] (omega (arith, length-filled xs))) in
    let words = header_is_twelve_bytes e left (filled xs ++ []) front in
    let totlen : totlen_of e left ≡ length xs = ap (λ (h : Header). h.totlen) words.1 ∙ has.totlen_is in
    let header : has_header e left ≡ true = words.0 ∙ header_holds e (filled xs ++ []) has.right_magic has.checksum in
    record {
      good = good_from e left header (omega arith) (omega arith) (omega arith);
      totlen = totlen;
      tile = ap (λ (k : ℕ). take (pad4_of k) left) totlen ∙ tile_is_torn xs j n within room;
    }
