-- What a tile is read as, check by check, is what the relation on its fields says.
use Rattle.std.proofs.Common.{◌≡◌, ◌↔◌, ℕ, ◌+◌, ◌%◌, ◌<◌, ◌==◌, ◌||◌, Bool, true, false, not, cond, List, take, length, bit_and, refl, sym, ap, subst, ◌∙◌, arith, inl, inr, ◌⊎◌}
use Rattle.std.proofs.lemmas.Bool.{both_ways, false≢true, not-false, cond_both, leb-true, le-leb, ltb-true, lt-ltb, eqb-true, eq-eqb, and_parts, and_from, or_cases, or_left, or_right, cases_eq, not-true, ne_eqb}
use Rattle.flashbase.specs.Crc.{crc_of}
use Rattle.jnode.specs.Order.{number_at}
use Rattle.jnode.specs.declared.order.Endian.{Endian}
use Rattle.jnode.specs.Header.{nodetype_of, is_accurate}
use Rattle.jnode.specs.Reading.{dirent_type, inode_type, entry_len, inode_len, IsSoundInode, ReadsCompressed, IsTile, ReadsEntry, ReadsInode, ReadsFill, dirent_of, inode_of, nsize_of, name_of, csize_of, compr_of, data_of, entry_seen, inode_seen, passed_seen, plain_seen, other_seen, seen_of, is_entry_long, is_crc_right, is_size_right, is_entry_in_range, is_inode_long, is_inode_in_range, is_data_crc_right}
use Rattle.jnode.specs.declared.node.Dirent.{Dirent}
use Rattle.jnode.specs.declared.node.InodeNode.{InodeNode}
use Rattle.jnode.specs.declared.node.Fill.{Fill}
use Rattle.jnode.specs.declared.node.NodeRef.{NodeRef}
use Rattle.jnode.specs.declared.node.NodeRef.TheVariants as node
use Rattle.jnode.specs.declared.node.Fill.TheVariants.{Zero, Data}
use Rattle.jnode.specs.declared.node.Damage.{Damage}
use Rattle.jnode.specs.declared.node.Seen.{Seen}
use Rattle.jnode.specs.declared.node.Seen.TheVariants.{Entry, Inode, Marker, Padding, Attribute, Skippable, ReadOnly, Incompatible, Compressed, Damaged}
use Rattle.jnode.specs.Header.{IsGood}
use Rattle.jnode.specs.Reading.{tile_of, Reads}
use Rattle.jnode.proofs.TileLemmas.{IsHeaded, tile_headed}

-- ---- five checks in a row

pub five_passed : (a b c d f : Bool) (v w x y z : Damage) (r s : Seen) → ((q : Damage) → Damaged q ≡ s → ⊥)
    → cond (not a) (Damaged v) (cond (not b) (Damaged w) (cond (not c) (Damaged x) (cond (not d) (Damaged y) (cond (not f) (Damaged z) r)))) ≡ s
    → (a ≡ true) × (b ≡ true) × (c ≡ true) × (d ≡ true) × (f ≡ true) × (r ≡ s)
five_passed true true true true true v w x y z r s apart h = (refl, refl, refl, refl, refl, h)
five_passed true true true true false v w x y z r s apart h = absurd (apart z h)
five_passed true true true false f v w x y z r s apart h = absurd (apart y h)
five_passed true true false d f v w x y z r s apart h = absurd (apart x h)
five_passed true false c d f v w x y z r s apart h = absurd (apart w h)
five_passed false b c d f v w x y z r s apart h = absurd (apart v h)

pub five_pass : (a b c d f : Bool) (v w x y z : Damage) (r : Seen)
    → a ≡ true → b ≡ true → c ≡ true → d ≡ true → f ≡ true
    → cond (not a) (Damaged v) (cond (not b) (Damaged w) (cond (not c) (Damaged x) (cond (not d) (Damaged y) (cond (not f) (Damaged z) r)))) ≡ r
five_pass a b c d f v w x y z r ha hb hc hd hf = rw (ha, hb, hc, hd, hf) refl

pub damaged_no_entry : (node : Dirent) (q : Damage) → Damaged q ≡ Entry node → ⊥
damaged_no_entry node q h = cc

pub damaged_no_inode : (node : InodeNode) (q : Damage) → Damaged q ≡ Inode node → ⊥
damaged_no_inode node q h = cc

damaged_no_compressed : (compr : ℕ) (q : Damage) → Damaged q ≡ Compressed compr → ⊥
damaged_no_compressed compr q h = cc

-- ---- an entry node

entry_found : (e : Endian) (tile : List ℕ) (node : Dirent) → IsTile e tile → nodetype_of e tile ≡ dirent_type
    → entry_seen e tile ≡ Entry node → ReadsEntry e tile node
unfolding entry_seen is_entry_long is_crc_right is_size_right is_entry_in_range
entry_found e tile node is_tile kind h =
    let parts = five_passed _ _ _ _ _ _ _ _ _ _ _ (Entry node) (damaged_no_entry node) h in
    let range = and_parts _ _ parts.3 in
    let sizes = and_parts _ _ range.0 in
    record {
      is_tile = is_tile;
      nodetype = kind;
      least = leb-true _ _ parts.0;
      sizes = eqb-true _ _ parts.2;
      name_least = leb-true _ _ sizes.0;
      name_most = leb-true _ _ sizes.1;
      parent = let above : 0 < number_at e 4 12 tile = ltb-true _ _ range.1 in omega arith;
      node_crc = eqb-true _ _ parts.1;
      name_crc = eqb-true _ _ parts.4;
      fields = let same : Entry (dirent_of e tile) ≡ Entry node = parts.5 in cc;
    }

pub entry_again : (e : Endian) (tile : List ℕ) (node : Dirent) → ReadsEntry e tile node → entry_seen e tile ≡ Entry node
unfolding entry_seen is_entry_long is_crc_right is_size_right is_entry_in_range
entry_again e tile node r =
    let parent : 0 < number_at e 4 12 tile = let ne = r.parent in omega arith in
    five_pass _ _ _ _ _ _ _ _ _ _ (Entry (dirent_of e tile))
    (le-leb _ _ r.least) (eq-eqb _ _ r.node_crc) (eq-eqb _ _ r.sizes)
    (and_from _ _ (and_from _ _ (le-leb _ _ r.name_least) (le-leb _ _ r.name_most)) (lt-ltb _ _ parent))
    (eq-eqb _ _ r.name_crc)
    ∙ ap Entry (sym r.fields)

-- ---- an inode node

pub chosen : (b : Bool) (x y s : Seen) → cond b x y ≡ s → ((b ≡ true) × (x ≡ s)) ⊎ ((b ≡ false) × (y ≡ s))
chosen true x y s h = inl (refl, h)
chosen false x y s h = inr (refl, h)

passed_found : (e : Endian) (tile : List ℕ) (node : InodeNode)
    → (not (compr_of tile == 0) || (csize_of e tile == number_at e 4 52 tile)) ≡ true
    → passed_seen e tile ≡ Inode node → ReadsFill e tile node.fill × (node ≡ inode_of e tile node.fill)
unfolding passed_seen
passed_found e tile node range h =
    let P : InodeNode → Type 0 = λ n. ReadsFill e tile n.fill × (n ≡ inode_of e tile n.fill) in
    elim (chosen (compr_of tile == 0) _ _ (Inode node) h) [
      | inl none ↦
          let same : inode_of e tile (Data (data_of e tile)) ≡ node = let found = none.1 in cc in
          let sizes : csize_of e tile ≡ number_at e 4 52 tile = elim (or_cases (not (compr_of tile == 0)) (csize_of e tile == number_at e 4 52 tile) range) [
            | inl other ↦ absurd (both_ways (compr_of tile == 0) (not-true (compr_of tile == 0) other) none.0)
            | inr equal ↦ eqb-true _ _ equal
          ] in
          subst P same ((eqb-true _ _ none.0, sizes, refl), refl)
      | inr stored ↦ elim (chosen (compr_of tile == 1) _ _ (Inode node) stored.1) [
        | inl zeros ↦
            let same : inode_of e tile Zero ≡ node = let found = zeros.1 in cc in
            subst P same (eqb-true _ _ zeros.0, refl)
        | inr compressed ↦ let it = compressed.1 in absurd (cc)
      ]
    ]

other_passed : (e : Endian) (tile : List ℕ) (compr : ℕ) → passed_seen e tile ≡ Compressed compr
    → ((compr_of tile ≡ 0) → ⊥) × ((compr_of tile ≡ 1) → ⊥) × (compr ≡ compr_of tile)
unfolding passed_seen
other_passed e tile compr h = elim (chosen (compr_of tile == 0) _ _ (Compressed compr) h) [
  | inl none ↦ let it = none.1 in absurd (cc)
  | inr stored ↦ elim (chosen (compr_of tile == 1) _ _ (Compressed compr) stored.1) [
    | inl zeros ↦ let it = zeros.1 in absurd (cc)
    | inr other ↦ (
      λ none. both_ways _ stored.0 (eq-eqb _ _ none),
      λ zeros. both_ways _ other.0 (eq-eqb _ _ zeros),
      let same : Compressed (compr_of tile) ≡ Compressed compr = other.1 in cc,
    )
  ]
]

passed_again : (e : Endian) (tile : List ℕ) (fill : Fill) → ReadsFill e tile fill → passed_seen e tile ≡ Inode (inode_of e tile fill)
unfolding passed_seen
passed_again e tile Zero h = rw h refl
passed_again e tile (Data bytes) h = rw h.0 (ap (λ (b : List ℕ). Inode (inode_of e tile (Data b))) (sym h.2))

fill_range : (e : Endian) (tile : List ℕ) (fill : Fill) → ReadsFill e tile fill
    → (not (compr_of tile == 0) || (csize_of e tile == number_at e 4 52 tile)) ≡ true
fill_range e tile Zero h = rw h refl
fill_range e tile (Data bytes) h = or_right _ _ (eq-eqb _ _ h.1)

inode_sound : (e : Endian) (tile : List ℕ) → IsTile e tile → nodetype_of e tile ≡ inode_type
    → is_inode_long e tile ≡ true → is_crc_right e tile 64 (take 60 tile) ≡ true → is_size_right e tile (inode_len + csize_of e tile) ≡ true
    → is_inode_in_range e tile ≡ true → is_data_crc_right e tile ≡ true → IsSoundInode e tile
unfolding is_inode_long is_crc_right is_size_right is_inode_in_range is_data_crc_right
inode_sound e tile is_tile kind long node_crc size in_range data_crc =
    let range = and_parts _ _ in_range in
    let ends = and_parts _ _ range.0 in
    record {
      is_tile = is_tile;
      nodetype = kind;
      least = leb-true _ _ long;
      sizes = eqb-true _ _ size;
      object = let above : 0 < number_at e 4 12 tile = ltb-true _ _ ends.0 in omega arith;
      end = leb-true _ _ ends.1;
      node_crc = eqb-true _ _ node_crc;
      data_crc = λ some. elim (or_cases _ _ data_crc) [
        | inl none ↦ absurd (some (eqb-true _ _ none))
        | inr right ↦ eqb-true _ _ right
      ];
    }

inode_found : (e : Endian) (tile : List ℕ) (node : InodeNode) → IsTile e tile → nodetype_of e tile ≡ inode_type
    → inode_seen e tile ≡ Inode node → ReadsInode e tile node
unfolding inode_seen is_inode_in_range
inode_found e tile node is_tile kind h =
    let parts = five_passed _ _ _ _ _ _ _ _ _ _ _ (Inode node) (damaged_no_inode node) h in
    let range = and_parts _ _ parts.3 in
    let stored = passed_found e tile node range.1 parts.5 in
    record {
      sound = inode_sound e tile is_tile kind parts.0 parts.1 parts.2 parts.3 parts.4;
      gives = stored.0;
      fields = stored.1;
    }

compressed_found : (e : Endian) (tile : List ℕ) (compr : ℕ) → IsTile e tile → nodetype_of e tile ≡ inode_type
    → inode_seen e tile ≡ Compressed compr → ReadsCompressed e tile compr
unfolding inode_seen
compressed_found e tile compr is_tile kind h =
    let parts = five_passed _ _ _ _ _ _ _ _ _ _ _ (Compressed compr) (damaged_no_compressed compr) h in
    let other = other_passed e tile compr parts.5 in
    record {
      sound = inode_sound e tile is_tile kind parts.0 parts.1 parts.2 parts.3 parts.4;
      compression = other.2;
      not_none = λ none. other.0 (sym other.2 ∙ none);
      not_zero = λ zeros. other.1 (sym other.2 ∙ zeros);
    }

-- the five checks of a sound inode node pass
inode_passes : (e : Endian) (tile : List ℕ) → IsSoundInode e tile
    → (not (compr_of tile == 0) || (csize_of e tile == number_at e 4 52 tile)) ≡ true → inode_seen e tile ≡ passed_seen e tile
unfolding inode_seen is_inode_long is_crc_right is_size_right is_inode_in_range is_data_crc_right
inode_passes e tile r range =
    let object : 0 < number_at e 4 12 tile = let ne = r.object in omega arith in
    let data_crc : ((csize_of e tile == 0) || (number_at e 4 60 tile == crc_of (data_of e tile))) ≡ true =
    elim (cases_eq (csize_of e tile) 0) [
      | inl none ↦ or_left _ _ (eq-eqb _ _ none)
      | inr some ↦ or_right _ _ (eq-eqb _ _ (r.data_crc some))
    ] in
    five_pass _ _ _ _ _ _ _ _ _ _ (passed_seen e tile)
    (le-leb _ _ r.least) (eq-eqb _ _ r.node_crc) (eq-eqb _ _ r.sizes)
    (and_from _ _ (and_from _ _ (lt-ltb _ _ object) (le-leb _ _ r.end)) range)
    data_crc

pub inode_again : (e : Endian) (tile : List ℕ) (node : InodeNode) → ReadsInode e tile node → inode_seen e tile ≡ Inode node
inode_again e tile node r =
    inode_passes e tile r.sound (fill_range e tile node.fill r.gives)
    ∙ passed_again e tile node.fill r.gives ∙ ap Inode (sym r.fields)

compressed_again : (e : Endian) (tile : List ℕ) (compr : ℕ) → ReadsCompressed e tile compr → inode_seen e tile ≡ Compressed compr
unfolding passed_seen
compressed_again e tile compr r =
    let not_none : (compr_of tile == 0) ≡ false = ne_eqb _ _ (λ none. r.not_none (r.compression ∙ none)) in
    let not_zero : (compr_of tile == 1) ≡ false = ne_eqb _ _ (λ zeros. r.not_zero (r.compression ∙ zeros)) in
    inode_passes e tile r.sound (rw not_none refl) ∙ rw (not_none, not_zero) (ap Compressed (sym r.compression))

-- ---- any node

abbrev is_entry : Seen → Bool
is_entry (Entry node) = true
is_entry s = false

abbrev is_inode : Seen → Bool
is_inode (Inode node) = true
is_inode s = false

abbrev is_compressed : Seen → Bool
is_compressed (Compressed compr) = true
is_compressed s = false

-- what holds of each answer that shows no node holds of a plain type's
pub plain_both : (t : ℕ) (P : Seen → Type 0) → P Marker → P Padding → P Attribute → ((n : ℕ) → P (Skippable n)) → ((n : ℕ) → P (ReadOnly n)) → ((n : ℕ) → P (Incompatible n)) → P (plain_seen t)
unfolding plain_seen other_seen
plain_both t P marker padding attribute skippable read_only incompatible =
    cond_both (t == 0x2003) _ _ P (λ _. marker) (λ _.
    cond_both (t == 0x2004) _ _ P (λ _. padding) (λ _.
    cond_both (t == 0x2006) _ _ P (λ _. skippable t) (λ _.
    cond_both ((t == 0xE008) || (t == 0xE009)) _ _ P (λ _. attribute) (λ _.
    cond_both (bit_and t 0xC000 == 0xC000) _ _ P (λ _. incompatible t) (λ _.
    cond_both (bit_and t 0xC000 == 0x8000) _ _ P (λ _. read_only t) (λ _. skippable t))))))

plain_no_compressed : (t : ℕ) → is_compressed (plain_seen t) ≡ false
plain_no_compressed t = plain_both t (λ s. is_compressed s ≡ false) refl refl refl (λ _. refl) (λ _. refl) (λ _. refl)

plain_no_entry : (t : ℕ) → is_entry (plain_seen t) ≡ false
plain_no_entry t = plain_both t (λ s. is_entry s ≡ false) refl refl refl (λ _. refl) (λ _. refl) (λ _. refl)

plain_no_inode : (t : ℕ) → is_inode (plain_seen t) ≡ false
plain_no_inode t = plain_both t (λ s. is_inode s ≡ false) refl refl refl (λ _. refl) (λ _. refl) (λ _. refl)

-- what holds of each damage and of the last answer holds of what five checks give
pub five_both : (a b c d f : Bool) (v w x y z : Damage) (r : Seen) (P : Seen → Type 0) → ((q : Damage) → P (Damaged q)) → P r
    → P (cond (not a) (Damaged v) (cond (not b) (Damaged w) (cond (not c) (Damaged x) (cond (not d) (Damaged y) (cond (not f) (Damaged z) r)))))
five_both true true true true true v w x y z r P damaged last = last
five_both true true true true false v w x y z r P damaged last = damaged z
five_both true true true false f v w x y z r P damaged last = damaged y
five_both true true false d f v w x y z r P damaged last = damaged x
five_both true false c d f v w x y z r P damaged last = damaged w
five_both false b c d f v w x y z r P damaged last = damaged v

passed_no_entry : (e : Endian) (tile : List ℕ) → is_entry (passed_seen e tile) ≡ false
unfolding passed_seen
passed_no_entry e tile =
    cond_both (compr_of tile == 0) _ _ (λ s. is_entry s ≡ false) (λ _. refl) (λ _.
    cond_both (compr_of tile == 1) _ _ (λ s. is_entry s ≡ false) (λ _. refl) (λ _. refl))

inode_no_entry : (e : Endian) (tile : List ℕ) → is_entry (inode_seen e tile) ≡ false
unfolding inode_seen
inode_no_entry e tile =
    five_both (is_inode_long e tile) (is_crc_right e tile 64 (take 60 tile)) (is_size_right e tile (inode_len + csize_of e tile)) (is_inode_in_range e tile) (is_data_crc_right e tile)
    _ _ _ _ _ (passed_seen e tile) (λ s. is_entry s ≡ false) (λ _. refl) (passed_no_entry e tile)

entry_no_inode : (e : Endian) (tile : List ℕ) → is_inode (entry_seen e tile) ≡ false
unfolding entry_seen
entry_no_inode e tile =
    five_both (is_entry_long e tile) (is_crc_right e tile 32 (take 32 tile)) (is_size_right e tile (entry_len + nsize_of tile)) (is_entry_in_range e tile) (is_crc_right e tile 36 (name_of tile))
    _ _ _ _ _ (Entry (dirent_of e tile)) (λ s. is_inode s ≡ false) (λ _. refl) refl

entry_no_compressed : (e : Endian) (tile : List ℕ) → is_compressed (entry_seen e tile) ≡ false
unfolding entry_seen
entry_no_compressed e tile =
    five_both (is_entry_long e tile) (is_crc_right e tile 32 (take 32 tile)) (is_size_right e tile (entry_len + nsize_of tile)) (is_entry_in_range e tile) (is_crc_right e tile 36 (name_of tile))
    _ _ _ _ _ (Entry (dirent_of e tile)) (λ s. is_compressed s ≡ false) (λ _. refl) refl

tile_from : (e : Endian) (tile : List ℕ) → IsHeaded e tile → not (is_accurate (nodetype_of e tile)) ≡ false → IsTile e tile
tile_from e tile headed h = record {
  whole = headed.whole.whole;
  right_magic = headed.right_magic;
  checksum = headed.checksum;
  accurate = not-false _ h;
}

seen_entry_found : (e : Endian) (tile : List ℕ) (node : Dirent) → IsHeaded e tile → seen_of e tile ≡ Entry node → ReadsEntry e tile node
unfolding seen_of
seen_entry_found e tile node headed h = elim (chosen (not (is_accurate (nodetype_of e tile))) _ _ (Entry node) h) [
  | inl obsolete ↦ let it = obsolete.1 in absurd (cc)
  | inr accurate ↦ elim (chosen (nodetype_of e tile == dirent_type) _ _ (Entry node) accurate.1) [
    | inl entry ↦ entry_found e tile node (tile_from e tile headed accurate.0) (eqb-true _ _ entry.0) entry.1
    | inr other ↦ elim (chosen (nodetype_of e tile == inode_type) _ _ (Entry node) other.1) [
      | inl inode ↦ absurd (false≢true (sym (inode_no_entry e tile) ∙ ap is_entry inode.1))
      | inr plain ↦ absurd (false≢true (sym (plain_no_entry (nodetype_of e tile)) ∙ ap is_entry plain.1))
    ]
  ]
]

seen_inode_found : (e : Endian) (tile : List ℕ) (node : InodeNode) → IsHeaded e tile → seen_of e tile ≡ Inode node → ReadsInode e tile node
unfolding seen_of
seen_inode_found e tile node headed h = elim (chosen (not (is_accurate (nodetype_of e tile))) _ _ (Inode node) h) [
  | inl obsolete ↦ let it = obsolete.1 in absurd (cc)
  | inr accurate ↦ elim (chosen (nodetype_of e tile == dirent_type) _ _ (Inode node) accurate.1) [
    | inl entry ↦ absurd (false≢true (sym (entry_no_inode e tile) ∙ ap is_inode entry.1))
    | inr other ↦ elim (chosen (nodetype_of e tile == inode_type) _ _ (Inode node) other.1) [
      | inl inode ↦ inode_found e tile node (tile_from e tile headed accurate.0) (eqb-true _ _ inode.0) inode.1
      | inr plain ↦ absurd (false≢true (sym (plain_no_inode (nodetype_of e tile)) ∙ ap is_inode plain.1))
    ]
  ]
]

seen_compressed_found : (e : Endian) (tile : List ℕ) (compr : ℕ) → IsHeaded e tile → seen_of e tile ≡ Compressed compr → ReadsCompressed e tile compr
unfolding seen_of
seen_compressed_found e tile compr headed h = elim (chosen (not (is_accurate (nodetype_of e tile))) _ _ (Compressed compr) h) [
  | inl obsolete ↦ let it = obsolete.1 in absurd (cc)
  | inr accurate ↦ elim (chosen (nodetype_of e tile == dirent_type) _ _ (Compressed compr) accurate.1) [
    | inl entry ↦ absurd (false≢true (sym (entry_no_compressed e tile) ∙ ap is_compressed entry.1))
    | inr other ↦ elim (chosen (nodetype_of e tile == inode_type) _ _ (Compressed compr) other.1) [
      | inl inode ↦ compressed_found e tile compr (tile_from e tile headed accurate.0) (eqb-true _ _ inode.0) inode.1
      | inr plain ↦ absurd (false≢true (sym (plain_no_compressed (nodetype_of e tile)) ∙ ap is_compressed plain.1))
    ]
  ]
]

seen_entry_again : (e : Endian) (tile : List ℕ) (node : Dirent) → ReadsEntry e tile node → seen_of e tile ≡ Entry node
unfolding seen_of
seen_entry_again e tile node r = rw r.nodetype (entry_again e tile node r)

seen_inode_again : (e : Endian) (tile : List ℕ) (node : InodeNode) → ReadsInode e tile node → seen_of e tile ≡ Inode node
unfolding seen_of
seen_inode_again e tile node r = rw r.sound.nodetype (inode_again e tile node r)

seen_compressed_again : (e : Endian) (tile : List ℕ) (compr : ℕ) → ReadsCompressed e tile compr → seen_of e tile ≡ Compressed compr
unfolding seen_of
seen_compressed_again e tile compr r = rw r.sound.nodetype (compressed_again e tile compr r)

pub seen_entry : (e : Endian) (tile : List ℕ) (node : Dirent) → IsHeaded e tile → (seen_of e tile ≡ Entry node) ↔ ReadsEntry e tile node
seen_entry e tile node headed = (seen_entry_found e tile node headed, seen_entry_again e tile node)

pub seen_inode : (e : Endian) (tile : List ℕ) (node : InodeNode) → IsHeaded e tile → (seen_of e tile ≡ Inode node) ↔ ReadsInode e tile node
seen_inode e tile node headed = (seen_inode_found e tile node headed, seen_inode_again e tile node)

pub seen_compressed : (e : Endian) (tile : List ℕ) (compr : ℕ) → IsHeaded e tile → (seen_of e tile ≡ Compressed compr) ↔ ReadsCompressed e tile compr
seen_compressed e tile compr headed = (seen_compressed_found e tile compr headed, seen_compressed_again e tile compr)

-- ---- a tile reads as at most one node

same_fill : (e : Endian) (tile : List ℕ) (f g : Fill) → ReadsFill e tile f → ReadsFill e tile g → f ≡ g
same_fill e tile Zero Zero p q = refl
same_fill e tile Zero (Data b) p q = absurd (omega (arith, p, q.0))
same_fill e tile (Data a) Zero p q = absurd (omega (arith, p.0, q))
same_fill e tile (Data a) (Data b) p q = ap Data (p.2 ∙ sym q.2)

pub one_entry : (e : Endian) (tile : List ℕ) (a b : Dirent) → ReadsEntry e tile a → ReadsEntry e tile b → a ≡ b
one_entry e tile a b p q = p.fields ∙ sym q.fields

pub one_inode : (e : Endian) (tile : List ℕ) (a b : InodeNode) → ReadsInode e tile a → ReadsInode e tile b → a ≡ b
one_inode e tile a b p q = p.fields ∙ ap (inode_of e tile) (same_fill e tile a.fill b.fill p.gives q.gives) ∙ sym q.fields

pub not_both : (e : Endian) (tile : List ℕ) (a : Dirent) (b : InodeNode) → ReadsEntry e tile a → ReadsInode e tile b → ⊥
not_both e tile a b p q = omega (arith, p.nodetype, q.sound.nodetype)

pub reads_one : (e : Endian) (tile : List ℕ) (a b : NodeRef) → Reads e tile a → Reads e tile b → a ≡ b
reads_one e tile (node.Entry a) (node.Entry b) p q = ap node.Entry (one_entry e tile a b p q)
reads_one e tile (node.Entry a) (node.Inode b) p q = absurd (not_both e tile a b p q)
reads_one e tile (node.Inode a) (node.Entry b) p q = absurd (not_both e tile b a q p)
reads_one e tile (node.Inode a) (node.Inode b) p q = ap node.Inode (one_inode e tile a b p q)

-- ---- the node at the start of the rest of a block

pub read_entry : (e : Endian) (bytes : List ℕ) (seen : Seen) → IsGood e bytes → length bytes % 4 ≡ 0 → seen ≡ seen_of e (tile_of e bytes)
    → (node : Dirent) → (seen ≡ Entry node) ↔ ReadsEntry e (tile_of e bytes) node
read_entry e bytes seen good words exact node =
    let it = seen_entry e (tile_of e bytes) node (tile_headed e bytes good words) in
    ((λ h. it.0 (sym exact ∙ h)), (λ r. exact ∙ it.1 r))

pub read_inode : (e : Endian) (bytes : List ℕ) (seen : Seen) → IsGood e bytes → length bytes % 4 ≡ 0 → seen ≡ seen_of e (tile_of e bytes)
    → (node : InodeNode) → (seen ≡ Inode node) ↔ ReadsInode e (tile_of e bytes) node
read_inode e bytes seen good words exact node =
    let it = seen_inode e (tile_of e bytes) node (tile_headed e bytes good words) in
    ((λ h. it.0 (sym exact ∙ h)), (λ r. exact ∙ it.1 r))

pub read_compressed : (e : Endian) (bytes : List ℕ) (seen : Seen) → IsGood e bytes → length bytes % 4 ≡ 0 → seen ≡ seen_of e (tile_of e bytes)
    → (compr : ℕ) → (seen ≡ Compressed compr) ↔ ReadsCompressed e (tile_of e bytes) compr
read_compressed e bytes seen good words exact compr =
    let it = seen_compressed e (tile_of e bytes) compr (tile_headed e bytes good words) in
    ((λ h. it.0 (sym exact ∙ h)), (λ r. exact ∙ it.1 r))
