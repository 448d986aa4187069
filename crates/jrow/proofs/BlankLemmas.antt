-- Of a blank block nothing is told.
use Rattle.std.proofs.Common.{◌≡◌, ℕ, zero, suc, ◌+◌, ◌<◌, ◌≤◌, Bool, true, false, cond, eqb, List, [], ◌∷◌, map, filter_map, refl, sym, ap, ◌∙◌, arith, inl, inr}
use Rattle.std.specs.Prelude.{filter, bytes_eq}
use Rattle.std.specs.List.{cons_option, list_any}
use Rattle.std.proofs.lemmas.Bool.{or_cases, false≢true}
use Rattle.std.proofs.lemmas.List.Folds.{list_any-append}
use Rattle.std.proofs.lemmas.Slice.Eq.{bytes_eq-Decides}
use Rattle.flashbase.specs.Lists.{below}
use Rattle.jnode.specs.Reading.{seen_of}
use Rattle.jnode.specs.declared.node.Seen.{Seen}
use Rattle.jnode.specs.declared.node.Seen.TheVariants as seen
use Rattle.jnode.specs.declared.order.Endian.{Endian}
use Rattle.jscan.specs.Blank.{marked, is_blank}
use Rattle.jscan.specs.Image.{sighting, sightings_in}
use Rattle.jscan.specs.Tiling.{Tile, tiling}
use Rattle.jscan.specs.declared.tiles.TileKind.{TileKind}
use Rattle.jscan.specs.declared.tiles.TileKind.TheVariants.{Node, Word, Rest}
use Rattle.jscan.proofs.MarkedLemmas.{marked_has_no_nodes}
use Rattle.jrow.proofs.GlimpseLemmas.{Glimpse, glimpse_of, glimpses_among, is_told, told_of, block_glimpses}

-- one below n passes the test
some_below : (p : ℕ → Bool) (n : ℕ) → list_any p (below n) ≡ true → (j : ℕ) × (j < n) × (p j ≡ true)
some_below p zero any = absurd (false≢true any)
some_below p (suc n) any = elim (or_cases (list_any p (below n)) (list_any p (n ∷ [])) (sym (list_any-append p (below n) (n ∷ [])) ∙ any)) [
  | inl before ↦ let it = some_below p n before in (it.0, omega (arith, it.1), it.2)
  | inr at ↦ elim (or_cases (p n) false at) [
    | inl here ↦ (n, omega arith, here)
    | inr none ↦ absurd (false≢true none)
  ]
]

blank_is_marked : (e : Endian) (size : ℕ) (block : List ℕ) → is_blank e size block ≡ true → (j : ℕ) × (j ≤ 12) × (block ≡ marked e size j)
unfolding is_blank
blank_is_marked e size block blank =
    let it = some_below (λ j. bytes_eq block (marked e size j)) 13 blank in
    (it.0, omega (arith, it.1), (bytes_eq-Decides _ _).0 it.2)

-- ---- glimpses are of what is sighted

same_seen : (e : Endian) (start : ℕ) (block : List ℕ) (tiles : List Tile)
    → map (λ (s : ℕ × Seen). s.1) (filter_map (λ tile. sighting e (start + tile.place) tile.bytes tile.kind) tiles) ≡ map (λ (g : Glimpse). g.0) (glimpses_among e block tiles)
same_seen e start block [] = refl
same_seen e start block (tile ∷ tiles) = by_kind tile.kind (same_seen e start block tiles)
  where
    by_kind : (kind : TileKind)
        → map (λ (s : ℕ × Seen). s.1) (filter_map (λ tile. sighting e (start + tile.place) tile.bytes tile.kind) tiles) ≡ map (λ (g : Glimpse). g.0) (glimpses_among e block tiles)
        → map (λ (s : ℕ × Seen). s.1) (cons_option (sighting e (start + tile.place) tile.bytes kind) (filter_map (λ tile. sighting e (start + tile.place) tile.bytes tile.kind) tiles))
        ≡ map (λ (g : Glimpse). g.0) (cons_option (glimpse_of e block tile.place tile.bytes kind) (glimpses_among e block tiles))
    by_kind Word rest = rest
    by_kind Rest rest = rest
    by_kind (Node header) rest = ap (λ (l : List Seen). seen_of e tile.bytes ∷ l) rest

-- where nothing but markers is seen, nothing is told
none_told : (gs : List Glimpse) → filter is_told (map (λ (g : Glimpse). g.0) gs) ≡ [] → told_of gs ≡ []
none_told [] none = refl
none_told (g ∷ gs) none = by_case (is_told g.0) none (none_told gs)
  where
    by_case : (b : Bool) → cond b (g.0 ∷ filter is_told (map (λ (g : Glimpse). g.0) gs)) (filter is_told (map (λ (g : Glimpse). g.0) gs)) ≡ []
        → (filter is_told (map (λ (g : Glimpse). g.0) gs) ≡ [] → told_of gs ≡ []) → cond b (g ∷ told_of gs) (told_of gs) ≡ []
    by_case true none later = absurd (cc)
    by_case false none later = later none

marker_untold : (start : ℕ) (t : Bool) → filter is_told (map (λ (s : ℕ × Seen). s.1) (cond t ((start, seen.Marker) ∷ []) [])) ≡ []
marker_untold start true = refl
marker_untold start false = refl

pub blank_untold : (e : Endian) (size : ℕ) (block : List ℕ) → 12 ≤ size → is_blank e size block ≡ true → block_glimpses e block ≡ []
unfolding block_glimpses
blank_untold e size block large blank =
    let it = blank_is_marked e size block blank in
    let looks : map (λ (s : ℕ × Seen). s.1) (sightings_in e 0 block) ≡ map (λ (g : Glimpse). g.0) (glimpses_among e block (tiling e block)) = same_seen e 0 block (tiling e block) in
    let sighted : sightings_in e 0 block ≡ cond (eqb it.0 12) ((0, seen.Marker) ∷ []) [] = ap (sightings_in e 0) it.2 ∙ marked_has_no_nodes e 0 size it.0 it.1 large in
    none_told (glimpses_among e block (tiling e block))
    (ap (filter is_told) (sym looks ∙ ap (map (λ (s : ℕ × Seen). s.1)) sighted) ∙ marker_untold 0 (eqb it.0 12))
