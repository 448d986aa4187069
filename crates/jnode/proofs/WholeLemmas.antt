-- A cut in the name or the data of a form: the one check that sees these bytes is their checksum.
use Rattle.std.proofs.Common.{◌≡◌, ◌≤◌, ◌<◌, ◌+◌, ◌-◌, ◌%◌, ◌^◌, ◌==◌, ◌||◌, ℕ, Bool, true, false, not, cond, List, [], ◌++◌, length, take, drop, refl, sym, ap, ap₂, ◌∙◌, subst, arith, inl, inr, length-drop, length-append}
use Rattle.std.specs.Prelude.{◌⊎◌}
use Rattle.std.proofs.lemmas.Bool.{eqb-true, false≢true, both_ways}
use Rattle.std.proofs.lemmas.List.{append-nil, take-append-le, length-take-le}
use Rattle.flashbase.specs.Bytes.{erased, pad4_of}
use Rattle.flashbase.specs.Crc.{crc_of}
use Rattle.flashbase.proofs.BytesLemmas.{le_pad4, pad4_words}
use Rattle.jnode.specs.Order.{number_at}
use Rattle.jnode.specs.Header.{nodetype_of, is_good_front}
use Rattle.jnode.specs.Reading.{dirent_type, inode_type, inode_len, nsize_of, name_of, csize_of, data_of, seen_of, entry_seen, inode_seen, passed_seen, plain_seen, dirent_of, is_crc_right, is_data_crc_right, ReadsCompressed}
use Rattle.jnode.specs.Header.{is_accurate}
use Rattle.jnode.specs.Compressed.{canonical_compressed, ReadsCompressedNode}
use Rattle.jnode.specs.Writing.{canonical, canonical_entry, canonical_inode, filled, stored_bytes, Fits, IsWritable}
use Rattle.jnode.specs.Weak.{torn, is_sound, is_weak, is_hidden, stored_at, IsForm, IsWholeForm, IsWrittenCompressed, IsWrittenForm}
use Rattle.jnode.specs.declared.order.Endian.{Endian}
use Rattle.jnode.specs.declared.node.CompressedNode.{CompressedNode}
use Rattle.jnode.specs.declared.node.Damage.{Damage}
use Rattle.jnode.specs.declared.node.Damage.TheVariants.{NameCrc, DataCrc}
use Rattle.jnode.specs.declared.node.Seen.{Seen}
use Rattle.jnode.specs.declared.node.Seen.TheVariants as seen
use Rattle.jnode.specs.declared.node.NodeRef.{NodeRef}
use Rattle.jnode.specs.declared.node.NodeRef.TheVariants.{Entry, Inode}
use Rattle.jnode.specs.declared.header.Header.{Header}
use Rattle.jnode.proofs.CompressedLemmas.{compressed_is_tile, compressed_reads_back, length-canonical_compressed, sound_room}
use Rattle.jnode.proofs.FormLemmas.{tile_is_form, torn_form_is_tile}
use Rattle.jnode.proofs.HeaderLemmas.{good_found, header_is_twelve_bytes}
use Rattle.jnode.proofs.ReadingLemmas.{plain_both, seen_entry, seen_inode, seen_compressed}
use Rattle.jnode.proofs.StoredLemmas.{HasSize, IsLeft, HasStoredCuts, bounded, crc_check, cut_is, entry_long_check, entry_range_check, inode_long_check, inode_range_check, last_check, left_front, left_of, none_stored, same_byte, same_number, seen_as_entry, seen_as_inode, size_check, weak_intact, weak_lost, weak_of_sound, whole_stored, written_size}
use Rattle.jnode.proofs.OrderLemmas.{take_of_take}
use Rattle.jnode.proofs.TileLemmas.{IsHeaded, tile_headed}
use Rattle.jnode.proofs.WeakLemmas.{bounded_front, canonical_type, cut_behind_keeps_header, passed_is_sound, torn_long}
use Rattle.jnode.proofs.WritingLemmas.{canonical_is_tile, canonical_long, canonical_reads, nodetype_to, length-canonical_entry, length-canonical_inode, length-filled, entry_bytes_are, inode_bytes_are, number_is}

-- ---- the kind of a sound node

plain_not_sound : (t : ℕ) → is_sound (plain_seen t) ≡ false
plain_not_sound t = plain_both t (λ s. is_sound s ≡ false) refl refl refl (λ _. refl) (λ _. refl) (λ _. refl)

kind_by : (a b c : Bool) (x y p : Seen) → is_sound p ≡ false → is_sound (cond a seen.Obsolete (cond b x (cond c y p))) ≡ true → (b ≡ true) ⊎ (c ≡ true)
kind_by true b c x y p none sound = absurd (false≢true sound)
kind_by false true c x y p none sound = inl refl
kind_by false false true x y p none sound = inr refl
kind_by false false false x y p none sound = absurd (both_ways _ none sound)

sound_kind : (e : Endian) (tile : List ℕ) → is_sound (seen_of e tile) ≡ true → (nodetype_of e tile ≡ dirent_type) ⊎ (nodetype_of e tile ≡ inode_type)
unfolding seen_of
sound_kind e tile sound =
    elim (kind_by (not (is_accurate (nodetype_of e tile))) (nodetype_of e tile == dirent_type) (nodetype_of e tile == inode_type) (entry_seen e tile) (inode_seen e tile)
    (plain_seen (nodetype_of e tile)) (plain_not_sound (nodetype_of e tile)) sound) [
      | inl entry ↦ inl (eqb-true _ _ entry)
      | inr inode ↦ inr (eqb-true _ _ inode)
    ]

-- five checks of a node that is sound
five_sound : (a b c d f : Bool) (v w x y z : Damage) (r : Seen)
    → is_sound (cond (not a) (seen.Damaged v) (cond (not b) (seen.Damaged w) (cond (not c) (seen.Damaged x) (cond (not d) (seen.Damaged y) (cond (not f) (seen.Damaged z) r))))) ≡ true
    → (a ≡ true) × (b ≡ true) × (c ≡ true) × (d ≡ true) × (f ≡ true)
five_sound true true true true true v w x y z r sound = (refl, refl, refl, refl, refl)
five_sound true true true true false v w x y z r sound = absurd (false≢true sound)
five_sound true true true false f v w x y z r sound = absurd (false≢true sound)
five_sound true true false d f v w x y z r sound = absurd (false≢true sound)
five_sound true false c d f v w x y z r sound = absurd (false≢true sound)
five_sound false b c d f v w x y z r sound = absurd (false≢true sound)

-- ---- the same front

filled_front : (m : ℕ) (xs : List ℕ) → m ≤ length xs → take m (filled xs) ≡ take m xs
filled_front m xs within = take-append-le m xs (erased (pad4_of (length xs) - length xs)) within

-- ---- the last check

entry_stored : (e : Endian) (xs : List ℕ) (k : ℕ) → length xs ≡ 40 + nsize_of xs → is_sound (entry_seen e (filled xs)) ≡ true
    → is_sound (entry_seen e (filled (torn xs (40 + k)))) ≡ (crc_of (drop 40 xs) == crc_of (torn (drop 40 xs) k))
unfolding entry_seen is_crc_right
entry_stored e xs k long sound =
    let a = filled (torn xs (40 + k)) in
    let b = filled xs in
    let within : 40 ≤ length xs = omega (arith, long) in
    let stored = drop 40 xs in
    let size : length stored ≡ nsize_of xs = omega (arith, length-drop 40 xs, long) in
    let cut = cut_is 40 xs k within in
    let front : take 40 b ≡ take 40 xs = filled_front 40 xs within in
    let nsize_b : nsize_of b ≡ length stored = same_byte 28 40 b xs front (omega arith) ∙ sym size in
    let nsize : nsize_of a ≡ nsize_of b = same_byte 28 40 a b cut.front (omega arith) in
    let name_b : name_of b ≡ stored = ap (λ (n : ℕ). take n (drop 40 b)) nsize_b ∙ whole_stored 40 xs within in
    let name : name_of a ≡ torn stored k = ap (λ (n : ℕ). take n (drop 40 a)) (nsize ∙ nsize_b) ∙ cut.stored in
    let parts = five_sound _ _ _ _ (is_crc_right e b 36 (name_of b)) _ _ _ _ NameCrc (seen.Entry (dirent_of e b)) sound in
    let crc : number_at e 4 36 a ≡ crc_of stored = same_number e 4 36 40 a b cut.front (omega arith) ∙ eqb-true _ _ parts.4 ∙ ap crc_of name_b in
    last_check _ _ _ _ (is_crc_right e a 36 (name_of a)) _ _ _ _ NameCrc (seen.Entry (dirent_of e a))
    (entry_long_check e a b cut.front ∙ parts.0)
    (crc_check e 32 32 40 a b cut.front (omega arith) (omega arith) ∙ parts.1)
    (size_check e (40 + nsize_of a) (40 + nsize_of b) 40 a b cut.front (omega arith) (ap (λ (n : ℕ). 40 + n) nsize) ∙ parts.2)
    (entry_range_check e a b cut.front ∙ parts.3)
    refl
    ∙ ap₂ (λ (x : ℕ) (ys : List ℕ). x == crc_of ys) crc name

data_check : (c : Bool) (n m t : ℕ) → (c || (n == m)) ≡ true → (c || (n == t)) ≡ (c || (m == t))
data_check true n m t right = refl
data_check false n m t right = ap (λ (i : ℕ). i == t) (eqb-true n m right)

inode_stored : (e : Endian) (xs : List ℕ) (k : ℕ) → length xs ≡ 68 + csize_of e xs → is_sound (inode_seen e (filled xs)) ≡ true
    → is_sound (inode_seen e (filled (torn xs (68 + k))))
    ≡ ((length (drop 68 xs) == 0) || (crc_of (drop 68 xs) == crc_of (torn (drop 68 xs) k)))
unfolding inode_seen is_crc_right is_data_crc_right
inode_stored e xs k long sound =
    let a = filled (torn xs (68 + k)) in
    let b = filled xs in
    let within : 68 ≤ length xs = omega (arith, long) in
    let stored = drop 68 xs in
    let size : length stored ≡ csize_of e xs = omega (arith, length-drop 68 xs, long) in
    let cut = cut_is 68 xs k within in
    let front : take 68 b ≡ take 68 xs = filled_front 68 xs within in
    let csize_b : csize_of e b ≡ length stored = same_number e 4 48 68 b xs front (omega arith) ∙ sym size in
    let csize : csize_of e a ≡ csize_of e b = same_number e 4 48 68 a b cut.front (omega arith) in
    let csize_is : csize_of e a ≡ length stored = csize ∙ csize_b in
    let data_b : data_of e b ≡ stored = ap (λ (n : ℕ). take n (drop 68 b)) csize_b ∙ whole_stored 68 xs within in
    let given : data_of e a ≡ torn stored k = ap (λ (n : ℕ). take n (drop 68 a)) csize_is ∙ cut.stored in
    let number : number_at e 4 60 a ≡ number_at e 4 60 b = same_number e 4 60 68 a b cut.front (omega arith) in
    let parts = five_sound _ _ _ _ (is_data_crc_right e b) _ _ _ _ DataCrc (passed_seen e b) sound in
    let right : ((length stored == 0) || (number_at e 4 60 b == crc_of stored)) ≡ true =
    sym (ap₂ (λ (c : ℕ) (ys : List ℕ). (c == 0) || (number_at e 4 60 b == crc_of ys)) csize_b data_b) ∙ parts.4 in
    last_check _ _ _ _ (is_data_crc_right e a) _ _ _ _ DataCrc (passed_seen e a)
    (inode_long_check e a b cut.front ∙ parts.0)
    (crc_check e 64 60 68 a b cut.front (omega arith) (omega arith) ∙ parts.1)
    (size_check e (68 + csize_of e a) (68 + csize_of e b) 68 a b cut.front (omega arith) (ap (λ (n : ℕ). 68 + n) csize) ∙ parts.2)
    (inode_range_check e a b cut.front ∙ parts.3)
    (passed_is_sound e a)
    ∙ (ap₂ (λ (c : ℕ) (x : Bool). (c == 0) || x) csize_is (ap₂ (λ (x : ℕ) (ys : List ℕ). x == crc_of ys) number given)
    ∙ data_check (length stored == 0) (number_at e 4 60 b) (crc_of stored) (crc_of (torn stored k)) right)

-- ---- so the cut is weak just where the checksum does not show it

kind_of : (e : Endian) (a b : List ℕ) → take 12 a ≡ take 12 b → nodetype_of e a ≡ nodetype_of e b
kind_of e a b same = ap (λ (h : Header). h.nodetype) (header_is_twelve_bytes e a b same).1

torn_kind : (e : Endian) (xs : List ℕ) (j : ℕ) → 12 ≤ j → 12 ≤ length xs → nodetype_of e (filled (torn xs j)) ≡ nodetype_of e xs
torn_kind e xs j behind_it long =
    let front : take 12 (torn xs j) ≡ take 12 xs = cut_behind_keeps_header xs j behind_it long in
    let len : length (torn xs j) ≡ length xs = torn_long xs j in
    kind_of e (filled (torn xs j)) xs (filled_front 12 (torn xs j) (omega arith) ∙ front)

pub whole_stored_cuts : (e : Endian) (xs : List ℕ) → IsWholeForm e xs → HasStoredCuts e xs
unfolding is_hidden
whole_stored_cuts e xs w =
    let least : 12 ≤ length xs = w.is.least in
    let whole : nodetype_of e (filled xs) ≡ nodetype_of e xs = kind_of e (filled xs) xs (filled_front 12 xs least) in
    elim (sound_kind e (filled xs) w.is.sound) [
      | inl entry ↦
          let kind : nodetype_of e xs ≡ 0xE001 = sym whole ∙ entry in
          let long : length xs ≡ 40 + nsize_of xs = w.name kind in
          let within : 40 ≤ length xs = omega (arith, long) in
          let place : stored_at e xs ≡ 40 = rw kind refl in
          let sound : is_sound (entry_seen e (filled xs)) ≡ true = ap is_sound (sym (seen_as_entry e (filled xs) entry)) ∙ w.is.sound in
          record {
            within = omega (arith, place, within);
            same = λ k. subst (λ (m : ℕ). is_weak e xs (m + k) ≡ is_hidden (drop m xs) k) (sym place)
                (weak_of_sound e xs 40 k _ within (omega arith)
                (ap is_sound (seen_as_entry e (filled (torn xs (40 + k))) (torn_kind e xs (40 + k) (omega arith) least ∙ kind)) ∙ entry_stored e xs k long sound));
          }
      | inr inode ↦
          let kind : nodetype_of e xs ≡ 0xE002 = sym whole ∙ inode in
          let long : length xs ≡ 68 + csize_of e xs = w.«data» kind in
          let within : 68 ≤ length xs = omega (arith, long) in
          let place : stored_at e xs ≡ 68 = rw kind refl in
          let sound : is_sound (inode_seen e (filled xs)) ≡ true = ap is_sound (sym (seen_as_inode e (filled xs) inode)) ∙ w.is.sound in
          record {
            within = omega (arith, place, within);
            same = λ k. subst (λ (m : ℕ). is_weak e xs (m + k) ≡ is_hidden (drop m xs) k) (sym place)
                (weak_of_sound e xs 68 k _ within (omega arith)
                (ap is_sound (seen_as_inode e (filled (torn xs (68 + k))) (torn_kind e xs (68 + k) (omega arith) least ∙ kind)) ∙ inode_stored e xs k long sound)
                ∙ none_stored (drop 68 xs) k _);
          }
    ]

-- ---- a cut, by reading what it leaves

pub whole_size : (e : Endian) (xs : List ℕ) → IsWholeForm e xs → HasSize xs
whole_size e xs w = record { least = w.is.least; most = w.most }

pub whole_intact : (e : Endian) (xs : List ℕ) (j : ℕ) → IsWholeForm e xs → j ≤ length xs → take 12 (left_of xs j) ≡ take 12 xs → IsLeft e xs j
whole_intact e xs j w within same =
    let size = whole_size e xs w in
    let front : take 12 (torn xs j) ≡ take 12 xs = sym (left_front xs j size within) ∙ same in
    let t = torn_form_is_tile e xs j (pad4_of (length xs) - j) w.is within (omega (arith, le_pad4 (length xs))) front in
    record {
      good = t.good;
      is = λ differs. ap (λ (zs : List ℕ). is_sound (seen_of e zs)) t.tile ∙ sym (weak_intact e xs j differs front);
    }

pub whole_lost : (e : Endian) (xs : List ℕ) (j : ℕ) (front : List ℕ) → IsWholeForm e xs → j ≤ length xs → (torn xs j ≡ xs → ⊥) → front ≡ take 12 (left_of xs j)
    → (front ≡ take 12 xs → ⊥) → is_good_front e front 4194304 ≡ is_weak e xs j
whole_lost e xs j front w within differs is other =
    let size = whole_size e xs w in
    let same : take 12 front ≡ take 12 (torn xs j) = ap (take 12) is ∙ take_of_take 12 12 (left_of xs j) (omega arith) ∙ left_front xs j size within in
    let at : front ≡ take 12 (torn xs j) = is ∙ left_front xs j size within in
    bounded e front ∙ bounded_front e front (torn xs j) same ∙ sym (weak_lost e xs j differs (λ intact. other (at ∙ intact)))

-- ---- written forms are such

node_headed : (e : Endian) (x : NodeRef) → length (canonical e x) < 2 ^ 32 → IsHeaded e (filled (canonical e x))
node_headed e x small =
    let bytes : List ℕ = filled (canonical e x) in
    let is = canonical_is_tile e x [] small in
    let words : length (bytes ++ []) % 4 ≡ 0 = omega (arith, length-append bytes [], length-filled (canonical e x), pad4_words (length (canonical e x))) in
    subst (IsHeaded e) is.tile (tile_headed e (bytes ++ []) (good_found e (bytes ++ []) is.good) words)

node_sound : (e : Endian) (x : NodeRef) → Fits x → IsWritable x → length (canonical e x) < 2 ^ 32 → is_sound (seen_of e (filled (canonical e x))) ≡ true
node_sound e (Entry d) fits writable small = ap is_sound ((seen_entry e (filled (canonical_entry e d)) d (node_headed e (Entry d) small)).1 (canonical_reads e (Entry d) fits writable))
node_sound e (Inode n) fits writable small = ap is_sound ((seen_inode e (filled (canonical_inode e n)) n (node_headed e (Inode n) small)).1 (canonical_reads e (Inode n) fits writable))

node_form : (e : Endian) (x : NodeRef) → Fits x → IsWritable x → length (canonical e x) ≤ 4194304 → IsForm e (canonical e x)
node_form e x fits writable most = tile_is_form e (canonical e x) (canonical_long e x) (canonical_is_tile e x [] (omega arith)) (node_sound e x fits writable (omega arith))

node_whole : (e : Endian) (x : NodeRef) → Fits x → IsWritable x → length (canonical e x) ≤ 4194304 → IsWholeForm e (canonical e x)
unfolding nodetype_to
node_whole e (Entry d) fits writable most =
    let kind = canonical_type e (Entry d) in
    let nsize : nsize_of (canonical_entry e d) ≡ length d.name = ap nsize_of (sym (append-nil (canonical_entry e d))) ∙ (entry_bytes_are e d []).nsize in
    record {
      is = node_form e (Entry d) fits writable most;
      most = most;
      name = λ _. omega (arith, length-canonical_entry e d, nsize);
      «data» = λ other. absurd (omega (arith, kind, other));
    }
node_whole e (Inode n) fits writable most =
    let kind = canonical_type e (Inode n) in
    let stored : List ℕ = stored_bytes n.fill in
    let long : length (canonical_inode e n) ≡ 68 + length stored = length-canonical_inode e n in
    let bytes = inode_bytes_are e n [] in
    let csize : csize_of e (canonical_inode e n) ≡ length stored =
    ap (csize_of e) (sym (append-nil (canonical_inode e n))) ∙ number_is e 4 (length stored) (drop 48 (canonical_inode e n ++ [])) bytes.csize (omega (arith, long, most)) in
    record {
      is = node_form e (Inode n) fits writable most;
      most = most;
      name = λ other. absurd (omega (arith, kind, other));
      «data» = λ _. omega (arith, long, csize);
    }

compressed_whole : (e : Endian) (xs : List ℕ) → IsWrittenCompressed e xs → IsWholeForm e xs
compressed_whole e xs w =
    let n : CompressedNode = w.node in
    let form : List ℕ = canonical_compressed e n in
    let tile : List ℕ = filled form in
    let long : length form ≡ inode_len + length n.data = length-canonical_compressed e n in
    let most : length form ≤ 4194304 = omega (arith, long, w.writable.long) in
    let is = compressed_is_tile e n [] (omega (arith, most)) in
    let words : length (tile ++ []) % 4 ≡ 0 = omega (arith, length-append tile [], length-filled form, pad4_words (length form)) in
    let headed : IsHeaded e tile = subst (IsHeaded e) is.tile (tile_headed e (tile ++ []) (good_found e (tile ++ []) is.good) words) in
    let reads : ReadsCompressedNode e tile n = compressed_reads_back e n w.fits w.writable in
    let it : ReadsCompressed e tile n.compr = record {
      sound = reads.sound;
      compression = ap (λ (c : CompressedNode). c.compr) reads.fields;
      not_none = reads.not_none;
      not_zero = reads.not_zero;
    } in
    let within : 12 ≤ length form = omega (arith, long) in
    let kind : nodetype_of e form ≡ inode_type = sym (kind_of e tile form (filled_front 12 form within)) ∙ reads.sound.nodetype in
    let room = sound_room e tile reads.sound in
    let held : length (data_of e tile) ≡ csize_of e tile = length-take-le (csize_of e tile) (drop 68 tile) (omega (arith, room, length-drop 68 tile)) in
    let stored : length n.data ≡ csize_of e tile = ap (λ (c : CompressedNode). length c.data) reads.fields ∙ held in
    let front : take 68 tile ≡ take 68 form = filled_front 68 form (omega (arith, long)) in
    let csize : csize_of e tile ≡ csize_of e form = same_number e 4 48 68 tile form front (omega arith) in
    subst (IsWholeForm e) (sym w.form)
    (record {
      is = tile_is_form e form within is (ap is_sound ((seen_compressed e tile n.compr headed).1 it));
      most = most;
      name = λ other. absurd (omega (arith, kind, other));
      «data» = λ _. omega (arith, long, stored, csize);
    })

pub written_is_whole : (e : Endian) (xs : List ℕ) → IsWrittenForm e xs → IsWholeForm e xs
written_is_whole e xs (inl w) =
    let size = written_size e xs w in
    let most : length (canonical e w.0) ≤ 4194304 = omega (arith, size.most, ap length w.1.form) in
    subst (IsWholeForm e) (sym w.1.form) (node_whole e w.0 w.1.fits w.1.writable most)
written_is_whole e xs (inr w) = compressed_whole e xs w
