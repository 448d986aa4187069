-- What is seen of a block that was written from an opening on: what was seen of it, and the forms that are whole.
use Rattle.std.proofs.Common.{◌≡◌, ℕ, zero, suc, ◌+◌, ◌-◌, ◌*◌, ◌%◌, ◌<◌, ◌≤◌, Bool, true, List, [], ◌∷◌, ◌++◌, length, map, filter_map, take, drop, get_or, refl, sym, ap, ap₂, subst, ◌∙◌, arith, inl, inr, Option, None, Some, length-append, length-drop, length-take-le}
use Rattle.std.specs.Prelude.{◌⊎◌, filter, IsTrue}
use Rattle.std.specs.List.{AllByRecursion}
use Rattle.std.proofs.lemmas.Bool.{cases_Bool, cases_lt, and_parts, leb-true, true≢false}
use Rattle.std.proofs.lemmas.List.{append-nil, drop-drop, ext_get_or, get_or-take, length-take, length-replicate, take-map}
use Rattle.std.proofs.lemmas.List.Elements.{filter-append, filter_map-append}
use Rattle.std.proofs.lemmas.Nat.{mod-mul-add}
use Rattle.flashbase.specs.Bytes.{erased}
use Rattle.jnode.specs.Compressed.{compressed_of}
use Rattle.jnode.specs.Reading.{seen_of, tile_of}
use Rattle.jnode.specs.Weak.{IsForm}
use Rattle.jnode.specs.Writing.{clean_marker, filled}
use Rattle.jnode.specs.declared.node.CompressedNode.{CompressedNode}
use Rattle.jnode.specs.declared.node.Seen.{Seen}
use Rattle.jnode.specs.declared.node.Seen.TheVariants as seen
use Rattle.jnode.specs.declared.order.Endian.{Endian}
use Rattle.jnode.proofs.FormLemmas.{form_is_tile}
use Rattle.jscan.specs.Blank.{marked, is_blank}
use Rattle.jscan.specs.Image.{is_block_size, sighting, sightings_from}
use Rattle.jscan.specs.Tiling.{Tile, tile_at, tiling_from, tiling}
use Rattle.jscan.specs.declared.tiles.TileKind.{TileKind}
use Rattle.jscan.specs.declared.tiles.TileKind.TheVariants.{Node, Word, Rest}
use Rattle.jscan.proofs.BlankCalls.{blank_found}
use Rattle.std.proofs.lemmas.Slice.Eq.{bytes_eq-Decides}
use Rattle.jscan.proofs.TileLemmas.{tile_cases, tile_some, tile_then_rest}
use Rattle.jlog.specs.Places.{place_after, end_after, fit}
use Rattle.jlog.specs.Output.{output}
use Rattle.jlog.specs.Left.{HoldsWritten, HoldsMarker, IsLeft, intact}
use Rattle.jlog.specs.LeftLaws.{tells}
use Rattle.jlog.specs.Forms.{IsStorableForm, placed_forms, form_sighted}
use Rattle.jlog.proofs.ByteLemmas.{erased_end}
use Rattle.jlog.proofs.FlashLemmas.{BlockLeft, Flash}
use Rattle.jlog.proofs.HereLemmas.{Gives, StandsAt, Sure}
use Rattle.jlog.proofs.ImageLemmas.{block_size}
use Rattle.jlog.proofs.SightLemmas.{told, erased_told, marker_long}
use Rattle.jlog.proofs.WalkLemmas.{walks_all}
use Rattle.jrow.proofs.BlankLemmas.{blank_untold}
use Rattle.jrow.proofs.GlimpseLemmas.{Glimpse, glimpses_among, told_of, block_glimpses}
use Rattle.jscan.specs.Extents.{extents}
use Rattle.jrests.specs.Begun.{IsRest, clear_last, rest_of}
use Rattle.jrests.specs.Openings.{opening_in}
use Rattle.jrests.proofs.KeepLemmas.{keeps_front, whole_words}
use Rattle.jrests.proofs.RestLemmas.{rest_is_found}

-- ---- a glimpse of each node's tile, of its own bytes

abbrev pub glimpse_by : Endian → List ℕ → TileKind → Option Glimpse
glimpse_by e bytes (Node header) = Some (seen_of e bytes, compressed_of e bytes)
glimpse_by e bytes Word = None
glimpse_by e bytes Rest = None

abbrev pub glimpses_by : Endian → List Tile → List Glimpse
glimpses_by e tiles = filter_map (λ tile. glimpse_by e tile.bytes tile.kind) tiles

-- what is neither a marker's nor a damaged node's
abbrev pub is_fine : Glimpse → Bool
is_fine g = tells (0, g.0)

abbrev pub fine_of : List Glimpse → List Glimpse
fine_of gs = filter is_fine gs

-- of a block
abbrev pub fine_glimpses : Endian → List ℕ → List Glimpse
fine_glimpses e block = fine_of (glimpses_by e (tiling e block))

-- of what is sighted at a place of a block
abbrev pub glimpse_at : Endian → List ℕ → ℕ × Seen → Glimpse
glimpse_at e block s = (s.1, compressed_of e (tile_of e (drop s.0 block)))

-- and of a form
abbrev pub form_glimpse : Endian → List ℕ → Glimpse
form_glimpse e form = (seen_of e (filled form), compressed_of e (filled form))

-- the tiles of the rest of a block are glimpsed by their own bytes
record ByTheirBytes (e : Endian) (block : List ℕ) (place : ℕ) (rest : List ℕ) : Type 0 where
  among : glimpses_among e block (tiling_from e place 0 rest) ≡ glimpses_by e (tiling_from e place 0 rest)
  sighted : glimpses_by e (tiling_from e place 0 rest) ≡ map (glimpse_at e block) (sightings_from e 0 place rest)

one_tile : (e : Endian) (block : List ℕ) (place : ℕ) (rest : List ℕ) → rest ≡ drop place block → (tile : Tile) → tile_at e place rest ≡ tile → (ts : List Tile)
    → glimpses_among e block ts ≡ glimpses_by e ts
    → glimpses_by e ts ≡ map (glimpse_at e block) (filter_map (λ t. sighting e (0 + t.place) t.bytes t.kind) ts)
    → (glimpses_among e block (tile ∷ ts) ≡ glimpses_by e (tile ∷ ts))
    × (glimpses_by e (tile ∷ ts) ≡ map (glimpse_at e block) (filter_map (λ t. sighting e (0 + t.place) t.bytes t.kind) (tile ∷ ts)))
one_tile e block place rest is tile at ts among sighted =
    subst (λ (t : Tile). (glimpses_among e block (t ∷ ts) ≡ glimpses_by e (t ∷ ts))
    × (glimpses_by e (t ∷ ts) ≡ map (glimpse_at e block) (filter_map (λ t. sighting e (0 + t.place) t.bytes t.kind) (t ∷ ts)))) at
    (tile_cases e place rest (λ t. (glimpses_among e block (t ∷ ts) ≡ glimpses_by e (t ∷ ts))
    × (glimpses_by e (t ∷ ts) ≡ map (glimpse_at e block) (filter_map (λ t. sighting e (0 + t.place) t.bytes t.kind) (t ∷ ts))))
    (λ good.
    let here : compressed_of e (tile_of e (drop place block)) ≡ compressed_of e (tile_of e rest) = ap (λ (l : List ℕ). compressed_of e (tile_of e l)) (sym is) in
    let same_place : place ≡ 0 + place = omega arith in
    let there : compressed_of e (tile_of e rest) ≡ compressed_of e (tile_of e (drop (0 + place) block)) =
    ap (λ (l : List ℕ). compressed_of e (tile_of e l)) (is ∙ ap (λ (p : ℕ). drop p block) same_place) in (
      ap₂ (λ (c : CompressedNode) (gs : List Glimpse). (let g : Glimpse = (seen_of e (tile_of e rest), c) in g) ∷ gs) here among,
      ap₂ (λ (c : CompressedNode) (gs : List Glimpse). (let g : Glimpse = (seen_of e (tile_of e rest), c) in g) ∷ gs) there sighted,
    ))
    (λ bad long. (among, sighted))
    (λ bad short. (among, sighted)))

by_their_bytes : (n : ℕ) (e : Endian) (block : List ℕ) (place : ℕ) (rest : List ℕ) → length rest ≤ n → rest ≡ drop place block → ByTheirBytes e block place rest
by_their_bytes n e block place [] few is = record { among = refl; sighted = refl }
by_their_bytes zero e block place (b ∷ bs) few is = absurd (omega arith)
by_their_bytes (suc n) e block place (b ∷ bs) few is =
    let rest : List ℕ = b ∷ bs in
    let tile : Tile = tile_at e place rest in
    let len : ℕ = length tile.bytes in
    let some : 0 < len = tile_some e place rest (omega arith) in
    let left : List ℕ = drop len rest in
    let next = by_their_bytes n e block (place + len) left (omega (arith, length-drop len rest, some)) (ap (drop len) is ∙ drop-drop len place block) in
    let split : tiling_from e place 0 rest ≡ tile ∷ tiling_from e (place + len) 0 left = tile_then_rest e place rest (omega arith) in
    let it = one_tile e block place rest is tile refl (tiling_from e (place + len) 0 left) next.among next.sighted in
    record {
      among = ap (glimpses_among e block) split ∙ (it.0 ∙ ap (glimpses_by e) (sym split));
      sighted = ap (glimpses_by e) split
          ∙ (it.1 ∙ ap (λ (ts : List Tile). map (glimpse_at e block) (filter_map (λ t. sighting e (0 + t.place) t.bytes t.kind) ts)) (sym split));
    }

-- ---- those that are told

any_place : (s : ℕ × Seen) → tells (0, s.1) ≡ tells s
any_place (addr, seen.Marker) = refl
any_place (addr, seen.Damaged which) = refl
any_place (addr, _) = refl

fine_told : (e : Endian) (block : List ℕ) (ss : List (ℕ × Seen)) → fine_of (map (glimpse_at e block) ss) ≡ map (glimpse_at e block) (filter tells ss)
fine_told e block [] = refl
fine_told e block (s ∷ ss) = elim (cases_Bool (tells s)) [
  | inl is ↦ rw (any_place s, is) (ap (λ (gs : List Glimpse). glimpse_at e block s ∷ gs) (fine_told e block ss))
  | inr not ↦ rw (any_place s, not) (fine_told e block ss)
]

-- those of the rest of a block, from a place on
rest_told : (e : Endian) (block : List ℕ) (place : ℕ) → fine_of (glimpses_by e (tiling_from e place 0 (drop place block))) ≡ map (glimpse_at e block) (told e 0 place (drop place block))
rest_told e block place =
    let it = by_their_bytes (length (drop place block)) e block place (drop place block) (omega arith) refl in
    ap fine_of it.sighted ∙ fine_told e block (sightings_from e 0 place (drop place block))

fine_among : (gs : List Glimpse) → fine_of (told_of gs) ≡ fine_of gs
fine_among [] = refl
fine_among (g ∷ gs) = by g.0 g.1 (fine_among gs)
  where
    by : (s : Seen) (c : CompressedNode) → fine_of (told_of gs) ≡ fine_of gs → fine_of (told_of ((s, c) ∷ gs)) ≡ fine_of ((s, c) ∷ gs)
    by seen.Marker c later = later
    by (seen.Damaged which) c later = later
    by s c later = ap (λ (l : List Glimpse). (s, c) ∷ l) later

-- what is seen of a block is seen of these
pub block_fine : (e : Endian) (block : List ℕ) → fine_of (block_glimpses e block) ≡ fine_glimpses e block
unfolding block_glimpses
block_fine e block =
    let it = by_their_bytes (length block) e block 0 block (omega arith) refl in
    fine_among (glimpses_among e block (tiling e block)) ∙ ap fine_of it.among

-- ---- the forms

placed_within : (e : Endian) (size from : ℕ) (forms : List (List ℕ)) → AllByRecursion (IsStorableForm e size) forms → IsTrue (fit size 1 from forms)
    → AllByRecursion (λ (placed : ℕ × List ℕ). placed.0 < size) (placed_forms size from forms)
placed_within e size from [] ok room = tt
placed_within e size from (x ∷ xs) ok room =
    let both = and_parts _ _ room in
    let here : place_after size from (length x) + length x ≤ 1 * size = leb-true _ _ both.0 in
    (omega (arith, here, ok.0.is.least), placed_within e size (end_after size from (length x)) xs ok.1 both.1)

placed_are : (e : Endian) (size from : ℕ) (forms : List (List ℕ)) → AllByRecursion (IsStorableForm e size) forms → AllByRecursion (λ (placed : ℕ × List ℕ). IsForm e placed.1) (placed_forms size from forms)
placed_are e size from [] ok = tt
placed_are e size from (x ∷ xs) ok = (ok.0.is, placed_are e size (end_after size from (length x)) xs ok.1)

first_all : {A : Type 0} (P : A → Type 0) (n : ℕ) (xs : List A) → AllByRecursion P xs → AllByRecursion P (take n xs)
first_all P zero xs all = tt
first_all P (suc n) [] all = tt
first_all P (suc n) (x ∷ xs) all = (all.0, first_all P n xs all.1)

placed_forms_are : (size from : ℕ) (forms : List (List ℕ)) → map (λ n. n.1) (placed_forms size from forms) ≡ forms
placed_forms_are size from [] = refl
placed_forms_are size from (x ∷ xs) = ap (λ (l : List (List ℕ)). x ∷ l) (placed_forms_are size (end_after size from (length x)) xs)

-- a form that stands at its place in a block is glimpsed there
forms_glimpsed : (e : Endian) (size : ℕ) (block : List ℕ) (kept : List (ℕ × List ℕ)) → AllByRecursion (λ (placed : ℕ × List ℕ). IsForm e placed.1) kept
    → AllByRecursion (λ (placed : ℕ × List ℕ). placed.0 < size) kept → AllByRecursion (StandsAt size (λ d. block)) kept
    → map (glimpse_at e block) (map (form_sighted e) kept) ≡ map (form_glimpse e) (map (λ n. n.1) kept)
forms_glimpsed e size block [] are within stand = refl
forms_glimpsed e size block (p ∷ kept) are within stand =
    let whole : p.0 ≡ 0 * size + p.0 = omega arith in
    let place : p.0 % size ≡ p.0 = ap (λ (a : ℕ). a % size) whole ∙ mod-mul-add 0 size p.0 within.0 in
    let there : drop p.0 block ≡ filled p.1 ++ stand.0.0 = ap (λ (a : ℕ). drop a block) (sym place) ∙ stand.0.1 in
    let tile : tile_of e (drop p.0 block) ≡ filled p.1 = ap (tile_of e) there ∙ (form_is_tile e p.1 stand.0.0 are.0).tile in
    ap₂ (λ (c : CompressedNode) (gs : List Glimpse). (let g : Glimpse = (seen_of e (filled p.1), c) in g) ∷ gs) (ap (compressed_of e) tile)
    (forms_glimpsed e size block kept are.1 within.1 stand.1)

-- ---- a block as a flash of its own

block_marked : (e : Endian) (size from k j : ℕ) (block : List ℕ) → 12 ≤ size → length block ≡ size → HoldsMarker e size from k block 0 j → block ≡ marked e size j
block_marked e size from k j block large long m =
    let cut : length (take j (clean_marker e)) ≤ size = omega (arith, length-take j (clean_marker e), marker_long e) in
    let marked_long : length (marked e size j) ≡ size =
    omega (arith, length-append (take j (clean_marker e)) (erased (size - j)), length-take j (clean_marker e), marker_long e, m.most, length-replicate {A = ℕ} (size - j) 0xFF) in
    ext_get_or 0xFF block (marked e size j) (long ∙ sym marked_long) (λ i inside.
    let less : i < size = omega (arith, inside, long) in
    let at : i ≡ 0 * size + i = omega arith in
    ap (λ (n : ℕ). get_or block n 0xFF) at ∙ (m.bytes i less ∙ sym (erased_end (take j (clean_marker e)) (size - j) i)))

block_left : (e : Endian) (size from k : ℕ) (out block : List ℕ) → 12 ≤ size → length block ≡ size
    → HoldsWritten size from out k block 0 ⊎ ((j : ℕ) × HoldsMarker e size from k block 0 j) → BlockLeft e size from out k block 0
block_left e size from k out block large long (inl holds) =
    inl (λ i inside low.
    let at : i ≡ 0 * size + i = omega arith in
    ap (λ (n : ℕ). get_or block n 0xFF) at ∙ holds i inside low)
block_left e size from k out block large long (inr (j, m)) =
    inr (j, record { unwritten = m.unwritten; before = m.before; no_fewer = m.no_fewer; most = m.most; is = block_marked e size from k j block large long m })

flash_left : (e : Endian) (size from k : ℕ) (base out block : List ℕ) → 12 ≤ size → length block ≡ size → IsLeft e size 1 base from out k block → Flash e size from 1 (λ d. block) out k
flash_left e size from k base out block large long left = record {
  long = λ d inside. long;
  each = λ d inside.
      let first : 0 ≡ d = omega (arith, inside) in
      subst (BlockLeft e size from out k block) first (block_left e size from k out block large long (left.each 0 (omega arith)));
}

-- ---- what stands from an opening on

-- where in a block writing may begin, as the walk over it wants it
record Begins (e : Endian) (size : ℕ) (base : List ℕ) (p : ℕ) : Type 0 where
  before : List Tile
  words : p % 4 ≡ 0
  high : p < size
  beside : (p ≡ 0) ⊎ (12 ≤ p)
  keep : (block : List ℕ) → length block ≡ length base → take p block ≡ take p base → tiling e block ≡ before ++ tiling_from e p 0 (drop p block)
  seen_as : fine_glimpses e base ≡ fine_of (glimpses_by e before)

blank_begins : (e : Endian) (size : ℕ) (base : List ℕ) → 12 ≤ size → is_blank e size base ≡ true → Begins e size base 0
blank_begins e size base large blank = record {
  before = [];
  words = refl;
  high = omega (arith, large);
  beside = inl refl;
  keep = λ block long same. refl;
  seen_as = sym (block_fine e base) ∙ ap fine_of (blank_untold e size base large blank);
}

erased_blank : (e : Endian) (size : ℕ) → is_blank e size (erased size) ≡ true
erased_blank e size =
    let none : size - 0 ≡ size = omega arith in
    blank_found e size (erased size) 0 (omega arith) ((bytes_eq-Decides _ _).1 (sym (ap erased none)))

rest_begins : (e : Endian) (size : ℕ) (base : List ℕ) (p : ℕ) → size % 4 ≡ 0 → length base ≡ size → IsRest e size base p → Begins e size base p
rest_begins e size base p words long rest =
    let base_words : length base % 4 ≡ 0 = omega (arith, long, words) in
    let made = whole_words e 0 base rest.before rest.after base_words rest.tiles rest.whole in
    let keep : (block : List ℕ) → length block ≡ length base → take p block ≡ take p base → tiling e block ≡ rest.before ++ tiling_from e p 0 (drop p block) =
    λ block same_long same. keeps_front e p base block rest.before rest.after base_words same_long same rest.tiles rest.whole rest.begins in
    let split : tiling e base ≡ rest.before ++ tiling_from e p 0 (drop p base) = keep base refl refl in
    let none : fine_of (glimpses_by e (tiling_from e p 0 (drop p base))) ≡ [] =
    rest_told e base p
    ∙ ap (map (glimpse_at e base)) (ap (told e 0 p) rest.clear ∙ erased_told e 0 p (length base - p)) in
    let some : 0 < p = elim (cases_lt 0 p) [
      | inl more ↦ more
      | inr not ↦
          let zero_is : p ≡ 0 = omega (arith, not) in
          let all : base ≡ erased size =
          ap (λ (n : ℕ). drop n base) (sym zero_is) ∙ (rest.clear ∙ ap erased (omega (arith, long, zero_is))) in
          absurd (true≢false (sym (ap (is_blank e size) all ∙ erased_blank e size) ∙ rest.begun))
    ] in
    record {
      before = rest.before;
      words = subst (λ (n : ℕ). n % 4 ≡ 0) rest.begins made.0;
      high = omega (arith, rest.within, long);
      beside = inr (subst (λ (n : ℕ). 12 ≤ n) rest.begins (made.1 (omega (arith, some, rest.begins))));
      keep = keep;
      seen_as = ap (λ (ts : List Tile). fine_of (glimpses_by e ts)) split
          ∙ (ap fine_of (filter_map-append (λ (tile : Tile). glimpse_by e tile.bytes tile.kind) rest.before (tiling_from e p 0 (drop p base)))
          ∙ (filter-append is_fine (glimpses_by e rest.before) (glimpses_by e (tiling_from e p 0 (drop p base)))
          ∙ (ap (λ (gs : List Glimpse). fine_of (glimpses_by e rest.before) ++ gs) none ∙ append-nil (fine_of (glimpses_by e rest.before)))));
    }

opening_begins : (e : Endian) (size : ℕ) (base : List ℕ) (p : ℕ) → 12 ≤ size → size % 4 ≡ 0 → length base ≡ size → opening_in e size base ≡ Some p → Begins e size base p
opening_begins e size base p large words long is = elim (cases_Bool (is_blank e size base)) [
  | inl blank ↦
      let here : Some 0 ≡ Some p = rw blank at is in
      let same : 0 ≡ p = cc in
      subst (Begins e size base) same (blank_begins e size base large blank)
  | inr begun ↦
      let there : clear_last (extents e 0 base) ≡ Some p = rw begun at is in
      let here : rest_of e size base ≡ Some p = rw begun there in
      rest_begins e size base p words long (rest_is_found e size base p here)
]

front_stays : (e : Endian) (size p k : ℕ) (base out block : List ℕ) → length base ≡ size → length block ≡ size → p ≤ size → IsLeft e size 1 base p out k block → take p block ≡ take p base
front_stays e size p k base out block base_long long within left =
    let here : length (take p block) ≡ p = length-take-le p block (omega (arith, long, within)) in
    let was : length (take p base) ≡ p = length-take-le p base (omega (arith, base_long, within)) in
    ext_get_or 0xFF (take p block) (take p base) (here ∙ sym was) (λ i inside.
    let less : i < p = omega (arith, inside, here) in
    get_or-take p block i 0xFF less ∙ (left.stays i less ∙ sym (get_or-take p base i 0xFF less)))

-- Where forms were being written from an opening of a block on, what was seen of it is seen, and the forms that are whole.
pub opened : (e : Endian) (size p k : ℕ) (base block : List ℕ) (forms : List (List ℕ)) → IsTrue (is_block_size size) → length base ≡ size → length block ≡ size
    → opening_in e size base ≡ Some p → AllByRecursion (IsStorableForm e size) forms → IsTrue (fit size 1 p forms) → Sure e size p k forms
    → IsLeft e size 1 base p (output e size p forms) k block
    → fine_glimpses e block ≡ fine_glimpses e base ++ map (form_glimpse e) (take (intact size p k forms) forms)
opened e size p k base block forms size_is base_long long opens ok room sure left =
    let limits = block_size size size_is in
    let large : 12 ≤ size = omega (arith, limits.least) in
    let at = opening_begins e size base p large limits.words base_long opens in
    let n : ℕ = intact size p k forms in
    let kept : List (ℕ × List ℕ) = take n (placed_forms size p forms) in
    let walk : Gives e size (λ d. block) p 0 p 0 k forms = walks_all e size 1 (λ d. block) forms ok p 0 p 0 k (record {
      cursor = record {
        sized = limits.words;
        large = omega (arith, limits.least);
        small = limits.most;
        at = omega arith;
        words = at.words;
        high = omega (arith, at.high);
        beside = at.beside;
      };
      ends = refl;
      room = room;
      sure = sure;
      left = flash_left e size p k base (output e size p forms) block large long left;
    }) in
    let start : 0 * size ≡ 0 = omega arith in
    let is_told : told e 0 p (drop p block) ≡ map (form_sighted e) kept =
    ap (λ (a : ℕ). told e a p (drop p block)) (sym start) ∙ (sym (append-nil (told e (0 * size) p (drop p block))) ∙ walk.told) in
    let are = first_all (λ (placed : ℕ × List ℕ). IsForm e placed.1) n (placed_forms size p forms) (placed_are e size p forms ok) in
    let within = first_all (λ (placed : ℕ × List ℕ). placed.0 < size) n (placed_forms size p forms) (placed_within e size p forms ok room) in
    let names : map (λ (q : ℕ × List ℕ). q.1) kept ≡ take n forms =
    sym (take-map (λ (q : ℕ × List ℕ). q.1) n (placed_forms size p forms)) ∙ ap (take n) (placed_forms_are size p forms) in
    let behind : fine_of (glimpses_by e (tiling_from e p 0 (drop p block))) ≡ map (form_glimpse e) (take n forms) =
    rest_told e block p
    ∙ (ap (map (glimpse_at e block)) is_told
    ∙ (forms_glimpsed e size block kept are within walk.stand ∙ ap (map (form_glimpse e)) names)) in
    let split : tiling e block ≡ at.before ++ tiling_from e p 0 (drop p block) =
    at.keep block (long ∙ sym base_long) (front_stays e size p k base (output e size p forms) block base_long long (omega (arith, at.high)) left) in
    ap (λ (ts : List Tile). fine_of (glimpses_by e ts)) split
    ∙ (ap fine_of (filter_map-append (λ (tile : Tile). glimpse_by e tile.bytes tile.kind) at.before (tiling_from e p 0 (drop p block)))
    ∙ (filter-append is_fine (glimpses_by e at.before) (glimpses_by e (tiling_from e p 0 (drop p block)))
    ∙ ap₂ (λ (xs ys : List Glimpse). xs ++ ys) (sym at.seen_as) behind))
