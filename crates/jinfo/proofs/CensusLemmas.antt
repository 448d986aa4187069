-- What is told of an image, by what was counted of its walk.
use Rattle.std.proofs.Common.{◌≡◌, ℕ, List, length, subst, ap₂, ◌∙◌, refl}
use Rattle.std.specs.Prelude.{Option, nat_lt}
use Rattle.std.proofs.lemmas.Bool.{cond_both}
use Rattle.jnode.specs.Writing.{filled}
use Rattle.jnode.specs.declared.order.Endian.{Endian}
use Rattle.jnode.specs.declared.order.Endian.TheVariants.{Little, Big}
use Rattle.jscan.specs.Extents.{extents}
use Rattle.jinfo.specs.Census.{walk_of}
use Rattle.jinfo.specs.BlockSizes.{size_range_of}
use Rattle.jinfo.specs.Marks.{range_of_marks}
use Rattle.jinfo.specs.Tallies.{TallyOf}
use Rattle.jinfo.specs.Infos.{census_of, info_by, info_of, order_by, order_of}
use Rattle.jinfo.proofs.SizeLemmas.{range_is}
use Rattle.jinfo.specs.declared.census.Census.{Census}
use Rattle.jinfo.specs.declared.census.Tally.{Tally}
use Rattle.jinfo.specs.declared.info.Info.{Info}
use Rattle.jinfo.specs.declared.sizes.SizeRange.{SizeRange}

pub census_by : (e : Endian) (image block : List ℕ) (t : Tally) (sizes : Option SizeRange) → block ≡ filled image
    → TallyOf e block (extents e 0 block) t → sizes ≡ range_of_marks t.marks
    → (record { nodes = t.nodes; storage = t.storage; markers = t.marks.markers; sizes = sizes; highest = t.highest }) ≡ census_of e image
census_by e image block t sizes whole counted ranged =
    let full : TallyOf e (filled image) (walk_of e image) t = subst (λ (b : List ℕ). TallyOf e b (extents e 0 b) t) whole counted in
    let range : sizes ≡ size_range_of (walk_of e image) = ranged ∙ range_is (walk_of e image) t.marks full.marks in
    λ i. record {
      nodes = full.nodes i;
      storage = full.storage i;
      markers = full.marks.markers i;
      sizes = range i;
      highest = full.highest i;
    }

order_by_info : (bytes : ℕ) (little big : Census) → (info_by bytes little big).order ≡ order_by little big
order_by_info bytes little big =
    cond_both (nat_lt little.nodes.all big.nodes.all)
    (record { bytes = bytes; order = order_by little big; census = big; other = little.nodes.all })
    (record { bytes = bytes; order = order_by little big; census = little; other = big.nodes.all })
    (λ (info : Info). info.order ≡ order_by little big) (λ more. refl) (λ fewer. refl)

pub info_order : (image : List ℕ) → (info_of image).order ≡ order_of image
unfolding info_of
info_order image = order_by_info (length image) (census_of Little image) (census_of Big image)

pub info_is : (image : List ℕ) (little big : Census) → little ≡ census_of Little image → big ≡ census_of Big image
    → info_by (length image) little big ≡ info_of image
unfolding info_of
info_is image little big is_little is_big = ap₂ (info_by (length image)) is_little is_big
