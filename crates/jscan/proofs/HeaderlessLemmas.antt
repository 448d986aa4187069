-- Where there is no good header at any word, no node is sighted; so in erased flash.
use Rattle.std.proofs.Common.{◌≡◌, ℕ, zero, suc, ◌+◌, ◌-◌, ◌*◌, ◌≤◌, false, leb, List, [], ◌∷◌, length, take, drop, refl, ap, subst, ◌∙◌, arith, ⊎_elim, length-drop, length-take-le}
use Rattle.std.specs.Prelude.{filter_map}
use Rattle.std.proofs.lemmas.Bool.{cases_Bool, leb-true}
use Rattle.std.proofs.lemmas.List.{drop-drop, drop_all, drop-replicate}
use Rattle.flashbase.specs.Bytes.{erased}
use Rattle.jnode.specs.declared.order.Endian.{Endian}
use Rattle.jnode.specs.Header.{is_good}
use Rattle.jnode.specs.declared.node.Seen.{Seen}
use Rattle.jscan.specs.Tiling.{Tile, tiling_from}
use Rattle.jscan.specs.Image.{sighting, sightings_from, sightings_in}
use Rattle.jscan.proofs.FrontLemmas.{not_good}
use Rattle.jscan.proofs.ExtentLemmas.{erased_no_header}
use Rattle.jscan.proofs.TileLemmas.{tile_word, tile_rest, tile_then_rest}

-- the nodes' tiles among some
abbrev pub seen_among : Endian → ℕ → List Tile → List (ℕ × Seen)
seen_among e start tiles = filter_map (λ tile. sighting e (start + tile.place) tile.bytes tile.kind) tiles

-- at no word of the rest of a block is there a good header
abbrev pub NoneGood : Endian → List ℕ → Type 0
NoneGood e rest = (k : ℕ) → is_good e (drop (4 * k) rest) ≡ false

later : (e : Endian) (rest : List ℕ) → NoneGood e rest → NoneGood e (drop 4 rest)
later e rest h k =
    ap (is_good e) (drop-drop (4 * k) 4 rest ∙ ap (λ (n : ℕ). drop n rest) (omega arith)) ∙ h (k + 1)

pub none_sighted : (n : ℕ) (e : Endian) (start place : ℕ) (rest : List ℕ) → length rest ≤ n → NoneGood e rest
    → sightings_from e start place rest ≡ []
none_sighted n e start place [] l h = refl
none_sighted zero e start place (b ∷ bs) l h = absurd (omega arith)
none_sighted (suc n) e start place (b ∷ bs) l h =
    let rest : List ℕ = b ∷ bs in
    let bad : is_good e rest ≡ false = h 0 in
    let first = tile_then_rest e place rest (omega arith) in
    ⊎_elim
    (λ long.
    let size : length (take 4 rest) ≡ 4 = length-take-le 4 rest (omega (arith, leb-true 12 (length rest) long)) in
    ap (seen_among e start)
    (subst (λ (t : Tile). tiling_from e place 0 rest ≡ t ∷ tiling_from e (place + length t.bytes) 0 (drop (length t.bytes) rest)) (tile_word e place rest bad long) first)
    ∙ ap (λ (k : ℕ). sightings_from e start (place + k) (drop k rest)) size
    ∙ none_sighted n e start (place + 4) (drop 4 rest) (omega (arith, length-drop 4 rest)) (later e rest h))
    (λ short.
    ap (seen_among e start)
    (subst (λ (t : Tile). tiling_from e place 0 rest ≡ t ∷ tiling_from e (place + length t.bytes) 0 (drop (length t.bytes) rest)) (tile_rest e place rest bad short) first)
    ∙ ap (λ (r : List ℕ). sightings_from e start (place + length rest) r) (drop_all (length rest) rest (omega arith)))
    (cases_Bool (leb 12 (length rest)))

pub headerless_has_no_nodes : (e : Endian) (start place : ℕ) (rest : List ℕ) → NoneGood e rest → sightings_from e start place rest ≡ []
headerless_has_no_nodes e start place rest h = none_sighted (length rest) e start place rest (omega arith) h

pub erased_not_good : (e : Endian) (n : ℕ) → is_good e (erased n) ≡ false
erased_not_good e zero = not_good e (erased 0) (λ good. absurd (omega (arith, good.room)))
erased_not_good e (suc zero) = not_good e (erased 1) (λ good. absurd (omega (arith, good.room)))
erased_not_good e (suc (suc n)) = not_good e (erased (suc (suc n))) (erased_no_header e (erased n))

pub erased_none_good : (e : Endian) (n : ℕ) → NoneGood e (erased n)
erased_none_good e n k = ap (is_good e) (drop-replicate (4 * k) n 0xFF) ∙ erased_not_good e (n - 4 * k)

pub erased_has_no_nodes : (e : Endian) (start n : ℕ) → sightings_in e start (erased n) ≡ []
erased_has_no_nodes e start n = headerless_has_no_nodes e start 0 (erased n) (erased_none_good e n)
