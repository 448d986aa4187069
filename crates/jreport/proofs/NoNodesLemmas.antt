-- How many nodes an image has.
use Rattle.std.proofs.Common.{◌≡◌, ℕ, ◌+◌, ◌*◌, ◌≤◌, ◌<◌, ◌^◌, List, [], ◌∷◌, length, sym, ap, arith, Option, None, Some, refl}
use Rattle.std.specs.Prelude.{filter_map}
use Rattle.jnode.specs.declared.order.Endian.{Endian}
use Rattle.jnode.specs.declared.order.Endian.TheVariants.{Little, Big}
use Rattle.jscan.specs.Extents.{sighted}
use Rattle.jscan.specs.Image.{block_count, sightings}
use Rattle.jscan.specs.Scans.{IsScannable, image_extents}
use Rattle.jscan.proofs.ImageLemmas.{image_sighted, starts_small}
use Rattle.jreport.specs.NoNodes.{node_count, other_order}
use Rattle.jreport.proofs.BlockLemmas.{length_extents_below}

length_filter_map : {A B : Type 0} (f : A → Option B) (xs : List A) → length (filter_map f xs) ≤ length xs
length_filter_map f [] = omega arith
length_filter_map {B = B} f (x ∷ xs) = by (f x) refl (length_filter_map f xs)
  where
    by : (o : Option B) → f x ≡ o → length (filter_map f xs) ≤ length xs → length (filter_map f (x ∷ xs)) ≤ length (x ∷ xs)
    by None is rest = rw is (omega (arith, rest))
    by (Some y) is rest = rw is (omega (arith, rest))

pub nodes_few : (e : Endian) (size : ℕ) (image : List ℕ) → IsScannable size image → node_count e size image < 2 ^ 32
nodes_few e size image scannable =
    let all : length (filter_map sighted (image_extents e size image)) ≡ node_count e size image = ap length (image_sighted e size image) in
    let last : block_count size image * size ≤ 272629760 = starts_small size (block_count size image) image scannable.0 scannable.1 (omega arith) in
    omega (arith, all, length_filter_map sighted (image_extents e size image), length_extents_below e size image (block_count size image), last)

-- where an order has no node, those of both are the other one's
pub all_others : (e : Endian) (size : ℕ) (image : List ℕ) → sightings e size image ≡ [] → node_count Little size image + node_count Big size image ≡ node_count (other_order e) size image
all_others Little size image none = omega (arith, ap length none)
all_others Big size image none = omega (arith, ap length none)
