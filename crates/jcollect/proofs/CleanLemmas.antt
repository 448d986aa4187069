-- Where there are sound nodes and erased flash alone, nothing is a finding.
use Rattle.std.proofs.Common.{◌≡◌, ℕ, zero, suc, ◌+◌, ◌-◌, ◌*◌, ◌<◌, ◌≤◌, true, false, List, [], ◌∷◌, ◌++◌, length, drop, map, refl, sym, ap, ap₂, subst, ◌∙◌, arith, inl, inr, Option, None}
use Rattle.std.specs.Prelude.{filter_map, flat_map, ◌==◌}
use Rattle.std.specs.List.{AllByRecursion, list_all, cons_option}
use Rattle.std.proofs.lemmas.Bool.{cases_Bool, cond-true, both_ways, leb-true}
use Rattle.std.proofs.lemmas.Grind.{flat_map-append}
use Rattle.std.proofs.lemmas.List.{append-nil, take-replicate, drop-replicate, length-replicate}
use Rattle.std.proofs.lemmas.List.Elements.{filter_map-append}
use Rattle.flashbase.specs.Bytes.{erased}
use Rattle.flashbase.specs.Lists.{below}
use Rattle.jnode.specs.Header.{is_good, header_of}
use Rattle.jnode.specs.Reading.{seen_of, tile_of}
use Rattle.jnode.specs.declared.order.Endian.{Endian}
use Rattle.jnode.proofs.HeaderLemmas.{good_found}
use Rattle.jscan.specs.Counts.{extents_of_block, extents_below}
use Rattle.jscan.specs.Extents.{class_of, extent_of, in_front, is_one_run, runs_joined, extents, extents_from}
use Rattle.jscan.specs.Findings.{found, found_node, finding_of}
use Rattle.jscan.specs.Image.{block_of, block_count}
use Rattle.jscan.specs.Tiling.{Tile, tile_at, tiling_from}
use Rattle.jscan.specs.declared.extent.Extent.{Extent}
use Rattle.jscan.specs.declared.extent.ExtentKind.TheVariants.{Erased}
use Rattle.jscan.specs.declared.finding.Finding.{Finding}
use Rattle.jscan.specs.declared.tiles.TileKind.TheVariants.{Node}
use Rattle.jscan.proofs.HeaderlessLemmas.{erased_not_good}
use Rattle.jscan.proofs.TileLemmas.{tile_good, tile_cases, tile_some, tile_then_rest}
use Rattle.jcollect.specs.Clean.{IsCleanTile, IsClean, CleanBlocks}

-- ---- erased flash

all_erased : (n : ℕ) → list_all (λ b. b == 0xFF) (erased n) ≡ true
all_erased zero = refl
all_erased (suc n) = all_erased n

erased_class : (e : Endian) (n : ℕ) → found (class_of e (erased n)) ≡ None
unfolding class_of
erased_class e n = ap found (cond-true (list_all (λ b. b == 0xFF) (erased n)) Erased _ (all_erased n))

pub erased_clean : (n : ℕ) (e : Endian) (place m : ℕ) → m ≤ n → IsClean e place (erased m)
erased_clean n e place zero few = tt
erased_clean zero e place (suc m) few = absurd (omega (arith, few))
erased_clean (suc n) e place (suc m) few =
    let rest : List ℕ = erased (suc m) in
    let long : length rest ≡ suc m = length-replicate {A = ℕ} (suc m) 0xFF in
    let tile : Tile = tile_at e place rest in
    let k : ℕ = length tile.bytes in
    let bad : is_good e rest ≡ false = erased_not_good e (suc m) in
    let some : 0 < k = tile_some e place rest (omega (arith, long)) in
    let clean : IsCleanTile e tile =
    tile_cases e place rest (IsCleanTile e)
    (λ good. absurd (both_ways _ bad good))
    (λ _ words. let up : 12 ≤ length rest = leb-true 12 (length rest) words in
    ap (λ (bytes : List ℕ). found (class_of e bytes)) (take-replicate 4 (suc m) 0xFF (omega (arith, up, long))) ∙ erased_class e 4)
    (λ _ short. erased_class e (suc m)) in
    let later : IsClean e (place + k) (drop k rest) =
    subst (IsClean e (place + k)) (sym (drop-replicate k (suc m) 0xFF)) (erased_clean n e (place + k) (suc m - k) (omega (arith, few, some))) in
    subst (AllByRecursion (IsCleanTile e)) (sym (tile_then_rest e place rest (omega (arith, long)))) (clean, later)

-- ---- a node in front

pub node_clean : (e : Endian) (place : ℕ) (rest : List ℕ) → is_good e rest ≡ true → found_node (seen_of e (tile_of e rest)) ≡ None
    → IsClean e (place + length (tile_of e rest)) (drop (length (tile_of e rest)) rest) → IsClean e place rest
node_clean e place rest good none later =
    let some : 0 < length rest = omega (arith, (good_found e rest good).room) in
    let all : tiling_from e place 0 rest
    ≡ record { place = place; kind = Node (header_of e rest); bytes = tile_of e rest } ∷ tiling_from e (place + length (tile_of e rest)) 0 (drop (length (tile_of e rest)) rest) =
    subst (λ (t : Tile). tiling_from e place 0 rest ≡ t ∷ tiling_from e (place + length t.bytes) 0 (drop (length t.bytes) rest)) (tile_good e place rest good) (tile_then_rest e place rest some) in
    subst (AllByRecursion (IsCleanTile e)) (sym all) (none, later)

-- ---- the extents of clean tiles

abbrev IsFindless : Extent → Type 0
IsFindless s = found s.kind ≡ None

front_findless : (s : Extent) (ts : List Extent) → IsFindless s → AllByRecursion IsFindless ts → AllByRecursion IsFindless (in_front s ts)
front_findless s [] none all = (none, tt)
front_findless s (t ∷ ts) none all = elim (cases_Bool (is_one_run s.kind t.kind)) [
  | inl one ↦ rw one (none, all.1)
  | inr two ↦ rw two (none, all)
]

runs_findless : (ss : List Extent) → AllByRecursion IsFindless ss → AllByRecursion IsFindless (runs_joined ss)
runs_findless [] all = tt
runs_findless (s ∷ ss) all = front_findless s (runs_joined ss) all.0 (runs_findless ss all.1)

tiles_findless : (e : Endian) (start : ℕ) (tiles : List Tile) → AllByRecursion (IsCleanTile e) tiles → AllByRecursion IsFindless (map (extent_of e start) tiles)
tiles_findless e start [] all = tt
tiles_findless e start (t ∷ ts) all = (all.0, tiles_findless e start ts all.1)

no_finding : (s : Extent) → IsFindless s → finding_of s ≡ None
no_finding s none = rw none refl

none_found : (ss : List Extent) → AllByRecursion IsFindless ss → filter_map finding_of ss ≡ []
none_found [] all = refl
none_found (s ∷ ss) all = ap₂ (λ (o : Option Finding) (l : List Finding). cons_option o l) (no_finding s all.0) (none_found ss all.1)

clean_block : (e : Endian) (start : ℕ) (block : List ℕ) → IsClean e 0 block → filter_map finding_of (extents e start block) ≡ []
unfolding extents_from
clean_block e start block clean = none_found (runs_joined (map (extent_of e start) (tiling_from e 0 0 block))) (runs_findless _ (tiles_findless e start (tiling_from e 0 0 block) clean))

-- ---- an image

clean_below : (e : Endian) (size : ℕ) (image : List ℕ) (n : ℕ) → ((k : ℕ) → k < n → IsClean e 0 (block_of size image k)) → filter_map finding_of (extents_below e size image n) ≡ []
clean_below e size image zero clean = refl
clean_below e size image (suc n) clean =
    let f : ℕ → List Extent = extents_of_block e size image in
    ap (filter_map finding_of) (flat_map-append f (below n) (n ∷ []))
    ∙ (filter_map-append finding_of (flat_map f (below n)) (f n ++ [])
    ∙ ap₂ (λ (xs ys : List Finding). xs ++ ys) (clean_below e size image n (λ k less. clean k (omega arith)))
    (ap (filter_map finding_of) (append-nil (f n)) ∙ clean_block e (n * size) (block_of size image n) (clean n (omega arith))))

pub clean_blocks : CleanBlocks
clean_blocks e size image clean = clean_below e size image (block_count size image) clean
