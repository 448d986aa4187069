-- A block that holds a beginning of the clean marker.
use Rattle.std.proofs.Common.{◌≡◌, ℕ, zero, suc, ◌+◌, ◌-◌, ◌*◌, ◌<◌, ◌≤◌, true, false, leb, cond, eqb, ◌&&◌, List, [], ◌∷◌, ◌++◌, length, take, drop, refl, sym, ap, subst, ◌∙◌, arith, ⊎_elim, length-append, append_assoc}
use Rattle.std.proofs.lemmas.Bool.{cond-false, and_left, and_right, and_from, le-leb, agree_below_at, ne_eqb, cases_eq}
use Rattle.std.proofs.lemmas.List.{drop_at, take_all, length-take-le, length-replicate, drop-drop, replicate-append-replicate}
use Rattle.flashbase.specs.Bytes.{erased, pad4_of}
use Rattle.flashbase.specs.Crc.{crc_after, push_byte, push_bits, push_bit}
use Rattle.jnode.specs.Order.{number_in, bytes_in}
use Rattle.jnode.specs.Header.{is_good, is_good_front, has_header, header_crc_of, header_of, totlen_of}
use Rattle.jnode.specs.Reading.{seen_of, plain_seen}
use Rattle.jnode.specs.Writing.{clean_marker, header_bytes}
use Rattle.jnode.specs.declared.node.Seen.{Seen}
use Rattle.jnode.specs.declared.node.Seen.TheVariants as seen
use Rattle.jnode.specs.declared.order.Endian.{Endian}
use Rattle.jnode.specs.declared.order.Endian.TheVariants.{Little, Big}
use Rattle.jscan.specs.Tiling.{Tile, tiling_from, tile_at}
use Rattle.jscan.specs.declared.tiles.TileKind.TheVariants.{Node}
use Rattle.jscan.specs.Blank.{marked}
use Rattle.jscan.specs.Image.{sightings_in, sightings_from}
use Rattle.jscan.proofs.HeaderlessLemmas.{NoneGood, headerless_has_no_nodes, erased_none_good, seen_among}
use Rattle.jscan.proofs.TileLemmas.{tile_good, tile_then_rest}

-- the twelve bytes of a marker that was cut after j
abbrev pub cut_marker : Endian → ℕ → List ℕ
cut_marker e j = take j (clean_marker e) ++ erased (12 - j)

marked_is_cut : (e : Endian) (size j : ℕ) → j ≤ 12 → 12 ≤ size → marked e size j ≡ cut_marker e j ++ erased (size - 12)
marked_is_cut e size j h k =
    sym (append_assoc (take j (clean_marker e)) (erased (12 - j)) (erased (size - 12))
    ∙ ap (λ (xs : List ℕ). take j (clean_marker e) ++ xs) (replicate-append-replicate (12 - j) (size - 12) 0xFF ∙ ap (λ (n : ℕ). erased n) (omega arith)))

-- without a right magic and checksum no header is good
no_header : (e : Endian) (rest : List ℕ) → has_header e rest ≡ false → is_good e rest ≡ false
unfolding is_good is_good_front
no_header e rest h = and_right (leb 12 (length rest)) _ (and_left (has_header e rest && leb 12 (totlen_of e rest)) (leb (totlen_of e rest) (length rest)) (and_left (has_header e rest) (leb 12 (totlen_of e rest)) h))

-- no word of a cut marker is a header
word_no_header : (e : Endian) (word j s : ℕ) → word < 3 → j < 12 → has_header e (drop (4 * word) (cut_marker e j ++ erased s)) ≡ false
unfolding crc_after push_byte push_bits push_bit number_in bytes_in has_header header_crc_of header_bytes
word_no_header Little zero j s w h = agree_below_at (λ j. has_header Little (drop 0 (cut_marker Little j ++ erased s))) (λ j. false) 12 j refl h
word_no_header Little (suc zero) j s w h = agree_below_at (λ j. has_header Little (drop 4 (cut_marker Little j ++ erased s))) (λ j. false) 12 j refl h
word_no_header Little (suc (suc zero)) j s w h = agree_below_at (λ j. has_header Little (drop 8 (cut_marker Little j ++ erased s))) (λ j. false) 12 j refl h
word_no_header Little (suc (suc (suc n))) j s w h = absurd (omega arith)
word_no_header Big zero j s w h = agree_below_at (λ j. has_header Big (drop 0 (cut_marker Big j ++ erased s))) (λ j. false) 12 j refl h
word_no_header Big (suc zero) j s w h = agree_below_at (λ j. has_header Big (drop 4 (cut_marker Big j ++ erased s))) (λ j. false) 12 j refl h
word_no_header Big (suc (suc zero)) j s w h = agree_below_at (λ j. has_header Big (drop 8 (cut_marker Big j ++ erased s))) (λ j. false) 12 j refl h
word_no_header Big (suc (suc (suc n))) j s w h = absurd (omega arith)

length_marker : (e : Endian) → length (clean_marker e) ≡ 12
unfolding crc_after push_byte push_bits push_bit bytes_in header_bytes
length_marker Little = refl
length_marker Big = refl

length_cut : (e : Endian) (j : ℕ) → j < 12 → length (cut_marker e j) ≡ 12
length_cut e j h =
    length-append (take j (clean_marker e)) (erased (12 - j))
    ∙ omega (arith, length-take-le j (clean_marker e) (omega (arith, length_marker e)), length-replicate {A = ℕ} (12 - j) 0xFF)

drop_cut : (e : Endian) (j s : ℕ) → j < 12 → drop 12 (cut_marker e j ++ erased s) ≡ erased s
drop_cut e j s h = drop_at (cut_marker e j) (erased s) 12 (length_cut e j h)

cut_none_good : (e : Endian) (j s : ℕ) → j < 12 → NoneGood e (cut_marker e j ++ erased s)
cut_none_good e j s h zero = no_header e (drop 0 (cut_marker e j ++ erased s)) (word_no_header e 0 j s (omega arith) h)
cut_none_good e j s h (suc zero) = no_header e (drop 4 (cut_marker e j ++ erased s)) (word_no_header e 1 j s (omega arith) h)
cut_none_good e j s h (suc (suc zero)) = no_header e (drop 8 (cut_marker e j ++ erased s)) (word_no_header e 2 j s (omega arith) h)
cut_none_good e j s h (suc (suc (suc k))) =
    let same : 4 * suc (suc (suc k)) ≡ 12 + 4 * k = omega arith in
    ap (λ (n : ℕ). is_good e (drop n (cut_marker e j ++ erased s))) same
    ∙ (ap (is_good e) (sym (drop-drop (4 * k) 12 (cut_marker e j ++ erased s)) ∙ ap (drop (4 * k)) (drop_cut e j s h))
    ∙ erased_none_good e s k)

-- ---- a whole marker

whole_seen : (e : Endian) (s : ℕ) → seen_of e (take 12 (clean_marker e ++ erased s)) ≡ seen.Marker
unfolding crc_after push_byte push_bits push_bit number_in bytes_in header_bytes seen_of plain_seen
whole_seen Little s = refl
whole_seen Big s = refl

whole_header : (e : Endian) (s : ℕ) → has_header e (clean_marker e ++ erased s) ≡ true
unfolding crc_after push_byte push_bits push_bit number_in bytes_in header_bytes has_header header_crc_of
whole_header Little s = refl
whole_header Big s = refl

whole_totlen : (e : Endian) (s : ℕ) → totlen_of e (clean_marker e ++ erased s) ≡ 12
unfolding crc_after push_byte push_bits push_bit number_in bytes_in header_bytes
whole_totlen Little s = refl
whole_totlen Big s = refl

whole_good : (e : Endian) (s : ℕ) → is_good e (clean_marker e ++ erased s) ≡ true
unfolding is_good is_good_front
whole_good e s =
    let block : List ℕ = clean_marker e ++ erased s in
    let long : 12 ≤ length block = omega (arith, length-append (clean_marker e) (erased s), length_marker e) in
    let totlen = whole_totlen e s in
    and_from _ _ (le-leb 12 (length block) long)
    (and_from _ _ (and_from _ _ (whole_header e s) (le-leb 12 (totlen_of e block) (omega (arith, totlen)))) (le-leb (totlen_of e block) (length block) (omega (arith, totlen, long))))

whole_tile : (e : Endian) (s : ℕ)
    → tile_at e 0 (clean_marker e ++ erased s) ≡ record { place = 0; kind = Node (header_of e (clean_marker e ++ erased s)); bytes = take 12 (clean_marker e ++ erased s) }
unfolding pad4_of
whole_tile e s =
    let block : List ℕ = clean_marker e ++ erased s in
    tile_good e 0 block (whole_good e s)
    ∙ ap (λ (n : ℕ). let t : Tile = record { place = 0; kind = Node (header_of e block); bytes = take (pad4_of n) block } in t) (whole_totlen e s)

whole_sighted : (e : Endian) (start s : ℕ) → sightings_in e start (clean_marker e ++ erased s) ≡ (start, seen.Marker) ∷ []
whole_sighted e start s =
    let block : List ℕ = clean_marker e ++ erased s in
    let long : 12 ≤ length block = omega (arith, length-append (clean_marker e) (erased s), length_marker e) in
    let size : length (take 12 block) ≡ 12 = length-take-le 12 block long in
    let first = subst (λ (t : Tile). tiling_from e 0 0 block ≡ t ∷ tiling_from e (0 + length t.bytes) 0 (drop (length t.bytes) block)) (whole_tile e s)
    (tile_then_rest e 0 block (omega arith)) in
    let behind : sightings_from e start (0 + length (take 12 block)) (drop (length (take 12 block)) block) ≡ [] =
    ap (λ (n : ℕ). sightings_from e start (0 + n) (drop n block)) size
    ∙ ap (sightings_from e start (0 + 12)) (drop_at (clean_marker e) (erased s) 12 (length_marker e))
    ∙ headerless_has_no_nodes e start (0 + 12) (erased s) (erased_none_good e s) in
    ap (seen_among e start) first
    ∙ ap (λ (l : List (ℕ × Seen)). (start + 0, seen_of e (take 12 block)) ∷ l) behind
    ∙ ap (λ (n : ℕ). (n, seen_of e (take 12 block)) ∷ []) (omega arith)
    ∙ ap (λ (what : Seen). (start, what) ∷ []) (whole_seen e s)

pub marked_has_no_nodes : (e : Endian) (start size j : ℕ) → j ≤ 12 → 12 ≤ size
    → sightings_in e start (marked e size j) ≡ cond (eqb j 12) ((start, seen.Marker) ∷ []) []
marked_has_no_nodes e start size j h k =
    ⊎_elim
    (λ (same : j ≡ 12).
    subst (λ (j : ℕ). sightings_in e start (marked e size j) ≡ cond (eqb j 12) ((start, seen.Marker) ∷ []) []) (sym same)
    (ap (λ (m : List ℕ). sightings_in e start (m ++ erased (size - 12))) (take_all 12 (clean_marker e) (omega (arith, length_marker e))) ∙ whole_sighted e start (size - 12)))
    (λ (other : j ≡ 12 → ⊥).
    let less : j < 12 = omega arith in
    ap (sightings_in e start) (marked_is_cut e size j h k)
    ∙ (headerless_has_no_nodes e start 0 (cut_marker e j ++ erased (size - 12)) (cut_none_good e j (size - 12) less)
    ∙ sym (cond-false (eqb j 12) ((start, seen.Marker) ∷ []) [] (ne_eqb j 12 other))))
    (cases_eq j 12)
