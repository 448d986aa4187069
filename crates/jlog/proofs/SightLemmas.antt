-- What is sighted where nodes were written, whole or cut: clean markers and damaged nodes left out.
use Rattle.std.proofs.Common.{◌≡◌, ◌≢◌, ℕ, ◌+◌, ◌-◌, ◌%◌, ◌^◌, ◌<◌, ◌≤◌, Bool, true, false, cond, eqb, List, [], ◌∷◌, ◌++◌, length, take, drop, refl, ap, subst, ◌∙◌, arith, inl, inr, length-append}
use Rattle.std.specs.Prelude.{filter, bytes_eq}
use Rattle.std.proofs.lemmas.Bool.{cases_Bool, cases_lt, both_ways, false≢true}
use Rattle.std.proofs.lemmas.List.{drop_at, length-take-le}
use Rattle.std.proofs.lemmas.Slice.Eq.{bytes_eq-Decides}
use Rattle.flashbase.specs.Bytes.{pad4_of, erased}
use Rattle.flashbase.proofs.BytesLemmas.{le_pad4, pad4_words}
use Rattle.jnode.specs.Header.{is_good}
use Rattle.jnode.specs.Laws.{IsPlain}
use Rattle.jnode.specs.Reading.{seen_of, tile_of}
use Rattle.jnode.specs.Weak.{torn, is_sound, is_weak, IsForm}
use Rattle.jnode.specs.Writing.{canonical, clean_marker, filled}
use Rattle.jnode.specs.declared.node.NodeRef.{NodeRef}
use Rattle.jnode.specs.declared.node.NodeRef.TheVariants as node
use Rattle.jnode.specs.declared.node.Seen.{Seen}
use Rattle.jnode.specs.declared.node.Seen.TheVariants as seen
use Rattle.jnode.specs.declared.order.Endian.{Endian}
use Rattle.jnode.proofs.HeaderLemmas.{good_found}
use Rattle.jnode.proofs.ReadingLemmas.{seen_entry, seen_inode}
use Rattle.jnode.proofs.TileLemmas.{IsHeaded, tile_headed}
use Rattle.jnode.proofs.WritingLemmas.{written_reads, canonical_is_tile, canonical_long, marker_is_tile, length-filled, length-header_bytes}
use Rattle.jnode.proofs.WeakLemmas.{behind, cut_behind_keeps_header, torn_long}
use Rattle.jscan.specs.Tiling.{Tile, tiling_from}
use Rattle.jscan.specs.Image.{sightings_from}
use Rattle.jscan.specs.Blank.{marked}
use Rattle.jscan.proofs.TileLemmas.{tile_good, tile_then_rest}
use Rattle.jscan.proofs.HeaderlessLemmas.{seen_among, headerless_has_no_nodes, erased_none_good}
use Rattle.jscan.proofs.MarkedLemmas.{marked_has_no_nodes}
use Rattle.jlog.specs.LeftLaws.{IsStorable, tells, sighting_of}
use Rattle.jlog.specs.Forms.{form_sighted}
use Rattle.jnode.proofs.FormLemmas.{tile_is_form, form_is_tile, torn_form_header_is_none, torn_form_is_damaged, torn_form_is_tile}

-- what is told of the rest of a block, from a place on
abbrev pub told : Endian → ℕ → ℕ → List ℕ → List (ℕ × Seen)
told e start place rest = filter tells (sightings_from e start place rest)

pub erased_told : (e : Endian) (start place n : ℕ) → told e start place (erased n) ≡ []
erased_told e start place n = ap (filter tells) (headerless_has_no_nodes e start place (erased n) (erased_none_good e n))

marker_or_none : (start : ℕ) (t : Bool) → filter tells (cond t ((start, seen.Marker) ∷ []) []) ≡ []
marker_or_none start true = refl
marker_or_none start false = refl

pub marked_told : (e : Endian) (start size j : ℕ) → j ≤ 12 → 12 ≤ size → told e start 0 (marked e size j) ≡ []
marked_told e start size j most large = ap (filter tells) (marked_has_no_nodes e start size j most large) ∙ marker_or_none start (eqb j 12)

-- ---- a tile at the front

node_first : (e : Endian) (start place : ℕ) (rest : List ℕ) → is_good e rest ≡ true
    → sightings_from e start place rest
    ≡ (start + place, seen_of e (tile_of e rest)) ∷ sightings_from e start (place + length (tile_of e rest)) (drop (length (tile_of e rest)) rest)
node_first e start place rest good =
    let some : 0 < length rest = omega (arith, (good_found e rest good).room) in
    ap (seen_among e start)
    (subst (λ (t : Tile). tiling_from e place 0 rest ≡ t ∷ tiling_from e (place + length t.bytes) 0 (drop (length t.bytes) rest)) (tile_good e place rest good) (tile_then_rest e place rest some))

-- a tile whose bytes are in front of others
tile_first : (e : Endian) (start place : ℕ) (tile more : List ℕ) → is_good e (tile ++ more) ≡ true → tile_of e (tile ++ more) ≡ tile
    → sightings_from e start place (tile ++ more) ≡ (start + place, seen_of e tile) ∷ sightings_from e start (place + length tile) more
tile_first e start place tile more good is =
    node_first e start place (tile ++ more) good
    ∙ ap (λ (t : List ℕ). (start + place, seen_of e t) ∷ sightings_from e start (place + length t) (drop (length t) (tile ++ more))) is
    ∙ ap (λ (r : List ℕ). (start + place, seen_of e tile) ∷ sightings_from e start (place + length tile) r) (drop_at tile more (length tile) refl)

pub marker_long : (e : Endian) → length (clean_marker e) ≡ 12
marker_long e = length-header_bytes e 0x2003 12

-- the clean marker
pub marker_then : (e : Endian) (start : ℕ) (more : List ℕ) → told e start 0 (clean_marker e ++ more) ≡ told e start 12 more
marker_then e start more =
    let is = marker_is_tile e more in
    ap (filter tells) (tile_first e start 0 (clean_marker e) more is.good is.tile)
    ∙ ap (λ (s : Seen). filter tells ((start + 0, s) ∷ sightings_from e start (0 + length (clean_marker e)) more)) is.seen
    ∙ ap (λ (n : ℕ). told e start (0 + n) more) (marker_long e)

-- ---- a whole form

sound_told : (addr : ℕ) (s : Seen) (ss : List (ℕ × Seen)) → is_sound s ≡ true → filter tells ((addr, s) ∷ ss) ≡ (addr, s) ∷ filter tells ss
sound_told addr (seen.Entry entry) ss sound = refl
sound_told addr (seen.Inode inode) ss sound = refl
sound_told addr (seen.Compressed compr) ss sound = refl
sound_told addr _ ss sound = absurd (false≢true sound)

-- A form that stands whole is told, and then what is after it.
pub form_then : (e : Endian) (start place : ℕ) (form more : List ℕ) → IsForm e form
    → told e start place (filled form ++ more) ≡ form_sighted e (start + place, form) ∷ told e start (place + pad4_of (length form)) more
form_then e start place form more ok =
    let is = form_is_tile e form more ok in
    ap (filter tells) (tile_first e start place (filled form) more is.good is.tile)
    ∙ (sound_told (start + place) (seen_of e (filled form)) (sightings_from e start (place + length (filled form)) more) ok.sound
    ∙ ap (λ (n : ℕ). form_sighted e (start + place, form) ∷ told e start (place + n) more) (length-filled form))

-- ---- a form that was cut

-- its header is whole: the tile is seen as damaged, and erased flash follows
damaged_told : (e : Endian) (start place k n : ℕ) (form : List ℕ) → IsForm e form → k ≤ length form → pad4_of (length form) ≤ k + n
    → take 12 (torn form k) ≡ take 12 form → torn form k ≢ form → is_weak e form k ≡ false
    → told e start place (take k form ++ erased n) ≡ []
damaged_told e start place k n form ok within long same differs weak =
    let rest : List ℕ = take k form ++ erased n in
    let tile : List ℕ = filled (torn form k) in
    let is = torn_form_is_tile e form k n ok within long same in
    let bad = torn_form_is_damaged e form k ok same differs weak in
    let cut : length (take k form) ≡ k = length-take-le k form within in
    let size : length tile ≡ pad4_of (length form) = length-filled (torn form k) ∙ ap pad4_of (torn_long form k) in
    let past : length (take k form) ≤ length tile = omega (arith, le_pad4 (length form)) in
    ap (filter tells) (node_first e start place rest is.good)
    ∙ ap (λ (t : List ℕ). filter tells ((start + place, seen_of e t) ∷ sightings_from e start (place + length t) (drop (length t) rest))) is.tile
    ∙ ap (λ (s : Seen). filter tells ((start + place, s) ∷ sightings_from e start (place + length tile) (drop (length tile) rest))) bad.1
    ∙ ap (told e start (place + length tile)) (behind (take k form) n (length tile) past)
    ∙ erased_told e start (place + length tile) (n - (length tile - length (take k form)))

-- Of a form that was cut, and not weakly, nothing is told.
pub form_cut_told : (e : Endian) (start place k n : ℕ) (form : List ℕ) → IsForm e form → IsPlain (length form) → k ≤ length form → pad4_of (length form) ≤ k + n → k + n ≤ 4194304
    → torn form k ≢ form → is_weak e form k ≡ false → told e start place (take k form ++ erased n) ≡ []
form_cut_told e start place k n form ok plain within long room differs weak = elim (cases_Bool (bytes_eq (take 12 (torn form k)) (take 12 form))) [
  | inl same ↦ damaged_told e start place k n form ok within long ((bytes_eq-Decides _ _).0 same) differs weak
  | inr other ↦
      let changed : take 12 (torn form k) ≢ take 12 form = λ is. both_ways _ other ((bytes_eq-Decides _ _).1 is) in
      ap (filter tells) (headerless_has_no_nodes e start place (take k form ++ erased n) (λ word. elim (cases_lt k 12) [
        | inl inside ↦ torn_form_header_is_none e form k n word ok plain inside room changed weak
        | inr past ↦ absurd (changed (cut_behind_keeps_header form k past ok.least))
      ]))
]

-- ---- the written form of a node is a form

filled_headed : (e : Endian) (x : NodeRef) → length (canonical e x) < 2 ^ 32 → IsHeaded e (filled (canonical e x))
filled_headed e x small =
    let bytes : List ℕ = filled (canonical e x) in
    let is = canonical_is_tile e x [] small in
    let words : length (bytes ++ []) % 4 ≡ 0 = omega (arith, length-append bytes [], length-filled (canonical e x), pad4_words (length (canonical e x))) in
    subst (IsHeaded e) is.tile (tile_headed e (bytes ++ []) (good_found e (bytes ++ []) is.good) words)

pub whole_seen : (e : Endian) (addr : ℕ) (x : NodeRef) (size : ℕ) → IsStorable e size x → length (canonical e x) < 2 ^ 32 → form_sighted e (addr, canonical e x) ≡ sighting_of (addr, x)
whole_seen e addr (node.Entry entry) size ok small =
    ap (λ (s : Seen). (addr, s))
    ((seen_entry e (filled (canonical e (node.Entry entry))) entry (filled_headed e (node.Entry entry) small)).1 (written_reads e (node.Entry entry) ok.fits ok.writable))
whole_seen e addr (node.Inode inode) size ok small =
    ap (λ (s : Seen). (addr, s))
    ((seen_inode e (filled (canonical e (node.Inode inode))) inode (filled_headed e (node.Inode inode) small)).1 (written_reads e (node.Inode inode) ok.fits ok.writable))

sighting_sound : (addr : ℕ) (x : NodeRef) → is_sound (sighting_of (addr, x)).1 ≡ true
sighting_sound addr (node.Entry entry) = refl
sighting_sound addr (node.Inode inode) = refl

pub node_is_form : (e : Endian) (size : ℕ) (x : NodeRef) → IsStorable e size x → length (canonical e x) < 2 ^ 32 → IsForm e (canonical e x)
node_is_form e size x ok small =
    tile_is_form e (canonical e x) (canonical_long e x) (canonical_is_tile e x [] small) (ap (λ (s : ℕ × Seen). is_sound s.1) (whole_seen e 0 x size ok small) ∙ sighting_sound 0 x)

-- A node that stands whole is told, and then what is after it.
pub node_then : (e : Endian) (size start place : ℕ) (x : NodeRef) (more : List ℕ) → IsStorable e size x → length (canonical e x) < 2 ^ 32
    → told e start place (filled (canonical e x) ++ more) ≡ sighting_of (start + place, x) ∷ told e start (place + pad4_of (length (canonical e x))) more
node_then e size start place x more ok small =
    form_then e start place (canonical e x) more (node_is_form e size x ok small)
    ∙ ap (λ (s : ℕ × Seen). s ∷ told e start (place + pad4_of (length (canonical e x))) more) (whole_seen e (start + place) x size ok small)
