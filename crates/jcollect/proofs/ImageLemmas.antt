-- An image of tiles has these tiles, their markers and erased flash.
use Rattle.std.proofs.Common.{◌≡◌, ℕ, zero, suc, ◌+◌, ◌*◌, ◌<◌, ◌≤◌, List, [], ◌∷◌, ◌++◌, length, get_or, map, refl, sym, ap, ap₂, subst, ◌∙◌, arith, inl, inr}
use Rattle.std.specs.Prelude.{IsTrue, filter, flat_map}
use Rattle.std.specs.List.{AllByRecursion}
use Rattle.std.proofs.lemmas.Bool.{cases_lt, and_parts, leb-true}
use Rattle.flashbase.specs.Lists.{below}
use Rattle.jnode.specs.Reading.{seen_of, tile_of}
use Rattle.jnode.specs.declared.node.Seen.{Seen}
use Rattle.jnode.specs.declared.order.Endian.{Endian}
use Rattle.jscan.specs.Image.{is_block_size, block_of, block_count, sightings_in, sightings}
use Rattle.jscan.proofs.BlockLemmas.{count_within}
use Rattle.jlog.specs.Places.{place_after, end_after, end_of_all, fit}
use Rattle.jlog.specs.Output.{output}
use Rattle.jlog.specs.LeftLaws.{tells}
use Rattle.jlog.specs.Forms.{placed_forms, form_sighted}
use Rattle.jlog.proofs.ByteLemmas.{block_long, block_byte}
use Rattle.jlog.proofs.FlashLemmas.{up}
use Rattle.jlog.proofs.HereLemmas.{StandsAt}
use Rattle.jlog.proofs.ImageLemmas.{told_below, below_same, below_up, told_image, block_size}
use Rattle.jlog.proofs.IntactLemmas.{output_is_long}
use Rattle.jlog.proofs.PlaceLemmas.{place_front}
use Rattle.jlog.proofs.RoomLemmas.{end_is_within}
use Rattle.jcollect.specs.Clean.{IsClean}
use Rattle.jcollect.specs.Tiles.{tile_in, IsStorableTile, tile_sighted, HasTilesAt, OutputHasTiles}
use Rattle.jcollect.proofs.CleanLemmas.{clean_blocks}
use Rattle.jcollect.proofs.TileLemmas.{filled_tile, tile_copies, tiles_copy, tiles_fit}
use Rattle.jcollect.proofs.WalkLemmas.{Copy, IsCleanUp, Lies, Shows, walks_all}

-- ---- the blocks of an image of them

lies : (e : Endian) (size n : ℕ) (tiles : List (List ℕ)) → IsTrue (is_block_size size) → IsTrue (fit size (suc n) 0 tiles)
    → Lies e size (suc n) (block_of size (output e size 0 tiles)) 0 0 0 n tiles
lies e size n tiles size_is room =
    let limits = block_size size size_is in
    let image : List ℕ = output e size 0 tiles in
    record {
      cursor = record {
        sized = limits.words;
        large = omega (arith, limits.least);
        small = limits.most;
        at = omega arith;
        words = refl;
        high = omega arith;
        beside = inl refl;
      };
      ends = omega arith;
      room = room;
      long = λ q. block_long size image q;
      holds = λ q i inside low. block_byte size image q i inside ∙ ap (λ (k : ℕ). get_or image k 0xFF) (omega arith);
    }

-- where there is a tile there is a block
no_blocks : (e : Endian) (size : ℕ) (tiles : List (List ℕ)) → IsTrue (is_block_size size) → AllByRecursion (IsStorableTile e size) tiles → IsTrue (fit size 0 0 tiles) → tiles ≡ []
no_blocks e size [] size_is ok room = refl
no_blocks e size (t ∷ ts) size_is ok room =
    let limits = block_size size size_is in
    let copy : Copy e size t = tile_copies e size t ok.0 in
    let at : place_after size 0 (length t) ≡ 0 * size + 12 = place_front size 0 0 (length t) limits.words (omega arith) copy.room (omega (arith, copy.least)) in
    let fits : place_after size 0 (length t) + length t ≤ 0 * size = leb-true _ _ (and_parts _ _ room).0 in
    absurd (omega (arith, at, fits))

-- what goes out ends within them
within : (e : Endian) (size blocks : ℕ) (tiles : List (List ℕ)) → IsTrue (is_block_size size) → AllByRecursion (IsStorableTile e size) tiles → IsTrue (fit size blocks 0 tiles)
    → length (output e size 0 tiles) ≤ blocks * size
within e size blocks tiles size_is ok room =
    let limits = block_size size size_is in
    let roomy = tiles_fit e size tiles ok in
    let long : 0 + length (output e size 0 tiles) ≡ end_of_all size 0 tiles = output_is_long e size 0 tiles limits.words roomy in
    let ends : end_of_all size 0 tiles ≤ blocks * size = (end_is_within size blocks 0 tiles limits.words roomy refl (omega arith) room).0 in
    omega (arith, long, ends)

-- ---- tiles are forms that are filled

seen_filled : (e : Endian) (size from : ℕ) (tiles : List (List ℕ)) → AllByRecursion (IsStorableTile e size) tiles
    → map (form_sighted e) (placed_forms size from tiles) ≡ map (tile_sighted e) (placed_forms size from tiles)
seen_filled e size from [] ok = refl
seen_filled e size from (t ∷ ts) ok =
    ap₂ (λ (x : List ℕ) (ss : List (ℕ × Seen)). (place_after size from (length t), seen_of e x) ∷ ss) (filled_tile e t ok.0.is) (seen_filled e size (end_after size from (length t)) ts ok.1)

stand_filled : (e : Endian) (size from : ℕ) (image : List ℕ) (tiles : List (List ℕ)) → AllByRecursion (IsStorableTile e size) tiles
    → AllByRecursion (StandsAt size (block_of size image)) (placed_forms size from tiles)
    → AllByRecursion (λ (p : ℕ × List ℕ). tile_in e size image p.0 ≡ p.1) (placed_forms size from tiles)
stand_filled e size from image [] ok stand = tt
stand_filled e size from image (t ∷ ts) ok stand =
    let copy : Copy e size t = tile_copies e size t ok.0 in (
      ap (tile_of e) stand.0.1 ∙ (copy.tile stand.0.0 ∙ filled_tile e t ok.0.is),
      stand_filled e size (end_after size from (length t)) image ts ok.1 stand.1,
    )

-- ---- each of the blocks is clean

clean_at : (e : Endian) (flash : ℕ → List ℕ) (b n k : ℕ) → IsCleanUp e flash b n → b ≤ k → k < b + n → IsClean e 0 (flash k)
clean_at e flash b zero k clean low high = absurd (omega arith)
clean_at e flash b (suc n) k clean low high = elim (cases_lt b k) [
  | inl above ↦ clean_at e flash (suc b) n k clean.1 (omega arith) (omega arith)
  | inr not ↦ subst (λ (q : ℕ). IsClean e 0 (flash q)) (omega arith) clean.0
]

clean_each : (e : Endian) (size n k : ℕ) (flash : ℕ → List ℕ) (placed : List (ℕ × List ℕ)) → Shows e size flash 0 0 n placed → k < suc n → IsClean e 0 (flash k)
clean_each e size n zero flash placed shows less = shows.here
clean_each e size n (suc k) flash placed shows less = clean_at e flash 1 n (suc k) shows.up (omega arith) (omega arith)

-- ---- no blocks

pub no_sightings : (e : Endian) (size : ℕ) → 0 < size → sightings e size [] ≡ []
no_sightings e size some =
    let most : block_count size [] ≤ 0 = count_within size 0 [] some (omega arith) in
    let none : block_count size [] ≡ 0 = omega (arith, most) in
    ap (λ (n : ℕ). flat_map (λ k. sightings_in e (k * size) (block_of size [] k)) (below n)) none

told_none : (e : Endian) (size : ℕ) (flash : ℕ → List ℕ) → 0 < size → told_below e size flash 0 ≡ []
told_none e size flash some =
    below_same e size flash (block_of size []) 0 (λ k less. absurd (omega (arith, less)))
    ∙ (sym (told_image e size 0 [] some (omega arith)) ∙ ap (filter tells) (no_sightings e size some))

-- ---- the whole

has_tiles : (e : Endian) (size blocks : ℕ) (tiles : List (List ℕ)) → IsTrue (is_block_size size) → AllByRecursion (IsStorableTile e size) tiles → IsTrue (fit size blocks 0 tiles)
    → HasTilesAt e size (output e size 0 tiles) (placed_forms size 0 tiles)
has_tiles e size zero tiles size_is ok room =
    let limits = block_size size size_is in
    let none : tiles ≡ [] = no_blocks e size tiles size_is ok room in
    let count : block_count size [] ≤ 0 = count_within size 0 [] (omega (arith, limits.least)) (omega arith) in
    subst (λ (ts : List (List ℕ)). HasTilesAt e size (output e size 0 ts) (placed_forms size 0 ts)) (sym none) (record {
      sighted = ap (filter tells) (no_sightings e size (omega (arith, limits.least)));
      stand = tt;
      clean = clean_blocks e size [] (λ k less. absurd (omega (arith, count, less)));
    })
has_tiles e size (suc n) tiles size_is ok room =
    let limits = block_size size size_is in
    let some : 0 < size = omega (arith, limits.least) in
    let image : List ℕ = output e size 0 tiles in
    let flash : ℕ → List ℕ = block_of size image in
    let ends : length image ≤ suc n * size = within e size (suc n) tiles size_is ok room in
    let shows : Shows e size flash 0 0 n (placed_forms size 0 tiles) = walks_all e size (suc n) flash tiles (tiles_copy e size tiles ok) 0 0 0 n (lies e size n tiles size_is room) in
    let sum : 0 + suc n ≡ suc n = omega arith in
    let count : block_count size image ≤ suc n = count_within size (suc n) image some ends in
    record {
      sighted = told_image e size (suc n) image some ends ∙ (ap (told_below e size flash) (sym sum) ∙ (below_up e size flash 0 (suc n)
          ∙ (ap (λ (ss : List (ℕ × Seen)). ss ++ up e size flash 0 (suc n)) (told_none e size flash some) ∙ (shows.told ∙ seen_filled e size 0 tiles ok))));
      stand = stand_filled e size 0 image tiles ok shows.stand;
      clean = clean_blocks e size image (λ k less. clean_each e size n k flash (placed_forms size 0 tiles) shows (omega (arith, count, less)));
    }

pub output_has_tiles : OutputHasTiles
output_has_tiles e size blocks tiles size_is ok room = record { within = within e size blocks tiles size_is ok room; has = has_tiles e size blocks tiles size_is ok room }
