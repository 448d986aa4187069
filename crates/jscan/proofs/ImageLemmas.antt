-- Going over the blocks of an image.
use Rattle.std.proofs.Common.{◌≡◌, ℕ, suc, ◌+◌, ◌*◌, ◌%◌, ◌<◌, ◌≤◌, true, List, [], ◌∷◌, ◌++◌, length, drop, refl, sym, ap, ap₂, ◌∙◌, arith}
use Rattle.std.specs.Prelude.{flat_map, filter_map, ◌==◌, ◌&&◌, nat_le}
use Rattle.std.proofs.Math.Seq.{drop-cons}
use Rattle.std.proofs.lemmas.Bool.{and_parts, leb-true}
use Rattle.std.proofs.lemmas.Grind.{div_ceil_times}
use Rattle.std.proofs.lemmas.List.{drop_all}
use Rattle.flashbase.specs.Lists.{below}
use Rattle.flashbase.proofs.ListLemmas.{length-below, get_or-below}
use Rattle.jnode.specs.declared.order.Endian.{Endian}
use Rattle.jscan.specs.Counts.{extents_of_block}
use Rattle.jscan.specs.Image.{is_block_size, greatest_image, block_of, block_count, sightings_in, sightings}
use Rattle.jscan.specs.Scans.{image_extents}
use Rattle.jscan.specs.ImageLeft.{extents_on}
use Rattle.jscan.specs.Extents.{sighted, extents}
use Rattle.jscan.specs.declared.extent.Extent.{Extent}
use Rattle.jscan.proofs.BlockLemmas.{filter_map-flat_map}
use Rattle.jscan.proofs.SightingLaws.{sightings_are_extents}
use Rattle.jscan.proofs.StreamCounts.{readable_some}
use Rattle.jscan.proofs.ExtentLaws.{no_extents}

pub readable_most : (size : ℕ) → is_block_size size ≡ true → size ≤ 4194304
readable_most size h =
    let parts = and_parts (nat_le 4096 size && nat_le size 4194304) (size % 4 == 0) h in
    leb-true size 4194304 (and_parts (nat_le 4096 size) (nat_le size 4194304) parts.0).1

-- a block begins within the image, and the numbers of those that do are below the count
pub begins_within : (size k : ℕ) (image : List ℕ) → 0 < size → k * size < length image → k < block_count size image
begins_within size k image some begins = grind (arith, div_ceil_times (length image) size some, begins)

pub ends_within : (size k : ℕ) (image : List ℕ) → 0 < size → length image ≤ k * size → block_count size image ≤ k
ends_within size k image some ends = grind (arith, div_ceil_times (length image) size some, ends)

-- no block that comes begins more than a block after the image
pub starts_small : (size k : ℕ) (image : List ℕ) → is_block_size size ≡ true → length image ≤ greatest_image → k ≤ block_count size image → k * size ≤ 272629760
starts_small size k image readable within few =
    let some = readable_some size readable in
    let most = readable_most size readable in
    grind (arith, div_ceil_times (length image) size (omega (arith, some)), most, within, few)

-- the blocks from one on are that one and those after it
pub on_step : (e : Endian) (size : ℕ) (image : List ℕ) (k : ℕ) → k < block_count size image
    → extents_on e size image k ≡ extents_of_block e size image k ++ extents_on e size image (k + 1)
on_step e size image k h =
    let n : ℕ = block_count size image in
    let f = λ (j : ℕ). extents_of_block e size image j in
    let more : suc k ≡ k + 1 = omega arith in
    ap (flat_map f) (drop-cons (below n) k 0 (omega (arith, length-below n)))
    ∙ ap (λ (j : ℕ). f j ++ flat_map f (drop (suc k) (below n))) (get_or-below n k h)
    ∙ ap (λ (j : ℕ). f k ++ flat_map f (drop j (below n))) more

pub on_end : (e : Endian) (size : ℕ) (image : List ℕ) (k : ℕ) → block_count size image ≤ k → extents_on e size image k ≡ []
on_end e size image k h =
    let f = λ (j : ℕ). extents_of_block e size image j in
    ap (flat_map f) (drop_all k (below (block_count size image)) (omega (arith, length-below (block_count size image))))

-- in front of the first block nothing is left
pub at_start : (e : Endian) (left : List Extent) (size : ℕ) (image : List ℕ) → left ≡ extents e 0 [] → left ++ extents_on e size image 0 ≡ extents_on e size image 0
at_start e left size image is = ap (λ l. l ++ extents_on e size image 0) (is ∙ no_extents e 0 0)

-- ---- sightings

flat_map-same : {A B : Type 0} (f g : A → List B) (xs : List A) → ((x : A) → f x ≡ g x) → flat_map f xs ≡ flat_map g xs
flat_map-same f g [] same = refl
flat_map-same f g (x ∷ xs) same = ap₂ (λ l m. l ++ m) (same x) (flat_map-same f g xs same)

-- the sightings of an image are its extents that are nodes' tiles
pub image_sighted : (e : Endian) (size : ℕ) (image : List ℕ) → filter_map sighted (image_extents e size image) ≡ sightings e size image
image_sighted e size image =
    filter_map-flat_map sighted (extents_of_block e size image) (below (block_count size image))
    ∙ flat_map-same (λ k. filter_map sighted (extents_of_block e size image k)) (λ k. sightings_in e (k * size) (block_of size image k)) (below (block_count size image))
    (λ k. sym (sightings_are_extents e (k * size) (block_of size image k)))
