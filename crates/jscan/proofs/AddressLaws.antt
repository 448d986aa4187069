-- The addresses of what an image contains ascend.
use Rattle.std.proofs.Common.{◌≡◌, ℕ, zero, suc, ◌+◌, ◌-◌, ◌*◌, ◌<◌, ◌≤◌, ◌^◌, List, [], ◌∷◌, ◌++◌, length, refl, sym, ap, subst, ◌∙◌, arith, append-nil, Option, None, Some}
use Rattle.std.specs.Prelude.{filter_map, flat_map, Contains, option_map}
use Rattle.std.specs.List.{AllByRecursion, cons_option}
use Rattle.std.proofs.lemmas.Grind.{flat_map-append}
use Rattle.flashbase.specs.Lists.{below}
use Rattle.jnode.specs.declared.order.Endian.{Endian}
use Rattle.jnode.specs.declared.node.NodeRef.{NodeRef}
use Rattle.jnode.specs.declared.node.Seen.{Seen}
use Rattle.jnode.specs.Reading.{node_in}
use Rattle.jscan.specs.Counts.{extents_of_block, extents_below}
use Rattle.jscan.specs.Findings.{found, finding_of}
use Rattle.jscan.specs.Image.{block_of, block_count, node_sighted, sightings, nodes}
use Rattle.jscan.specs.Scans.{IsScannable, image_extents, findings}
use Rattle.jscan.specs.Extents.{sighted_by, sighted, extents}
use Rattle.jscan.specs.declared.finding.Finding.{Finding}
use Rattle.jscan.specs.declared.finding.FindingKind.{FindingKind}
use Rattle.jscan.specs.declared.extent.ExtentKind.{ExtentKind}
use Rattle.jscan.specs.declared.extent.ExtentKind.TheVariants.{Tiled, Erased, OtherOrder, Dirt}
use Rattle.jscan.specs.declared.extent.Extent.{Extent}
use Rattle.jscan.proofs.ImageLemmas.{image_sighted, starts_small}
use Rattle.jscan.proofs.PartLemmas.{block_length}
use Rattle.jscan.proofs.ExtentLaws.{Falls, falls_from}

-- what holds of each holds of one of them
pub of_each : {X : Type 0} (P : X → Type 0) (xs : List X) (x : X) → AllByRecursion P xs → Contains xs x → P x
of_each P [] x all has = absurd (omega (arith, has.1))
of_each P (y ∷ ys) x all (zero, within, at) = subst P at all.0
of_each P (y ∷ ys) x all (suc k, within, at) = of_each P ys x all.1 (k, omega arith, at)

-- ---- lists that ascend by a key, from a number on and below another

unfoldable pub Ascends : {X : Type 0} → (X → ℕ) → ℕ → ℕ → List X → Type 0
Ascends key low high [] = Unit {0}
Ascends key low high (x ∷ xs) = (low ≤ key x) × (key x < high) × Ascends key (key x + 1) high xs

from_lower : {X : Type 0} (key : X → ℕ) (low from high : ℕ) (xs : List X) → from ≤ low → Ascends key low high xs → Ascends key from high xs
unfolding Ascends
from_lower key low from high [] less up = tt
from_lower key low from high (x ∷ xs) less up = (omega (arith, up.0), up.1, up.2)

each_within : {X : Type 0} (key : X → ℕ) (low high : ℕ) (xs : List X) → Ascends key low high xs → AllByRecursion (λ x. (low ≤ key x) × (key x < high)) xs
unfolding Ascends
each_within key low high [] up = tt
each_within key low high (x ∷ xs) up =
    ((up.0, up.1), each_within key low high xs (from_lower key (key x + 1) low high xs (omega (arith, up.0)) up.2))

ascends_append : {X : Type 0} (key : X → ℕ) (low mid high : ℕ) (xs ys : List X) → low ≤ mid → mid ≤ high → Ascends key low mid xs → Ascends key mid high ys
    → Ascends key low high (xs ++ ys)
unfolding Ascends
ascends_append key low mid high [] ys below above up more = from_lower key mid low high ys below more
ascends_append key low mid high (x ∷ xs) ys below above up more =
    (up.0, omega (arith, up.1), ascends_append key (key x + 1) mid high xs ys (omega (arith, up.1)) above up.2 more)

-- what is taken of them ascends too, where it keeps the key
ascends_taken : {X Y : Type 0} (key : X → ℕ) (other : Y → ℕ) (take_of : X → Option Y) → ((x : X) (y : Y) → take_of x ≡ Some y → other y ≡ key x)
    → (low high : ℕ) (xs : List X) → Ascends key low high xs → Ascends other low high (filter_map take_of xs)
unfolding Ascends
ascends_taken key other take_of keeps low high [] up = tt
ascends_taken {X} {Y} key other take_of keeps low high (x ∷ xs) up =
    by_cases (take_of x) (keeps x) (ascends_taken key other take_of keeps (key x + 1) high xs up.2)
  where
    by_cases : (o : Option Y) → ((y : Y) → o ≡ Some y → other y ≡ key x) → Ascends other (key x + 1) high (filter_map take_of xs)
        → Ascends other low high (cons_option o (filter_map take_of xs))
    by_cases None same next = from_lower other (key x + 1) low high (filter_map take_of xs) (omega (arith, up.0)) next
    by_cases (Some y) same next =
        let is : other y ≡ key x = same y refl in
        (omega (arith, up.0, is), omega (arith, up.1, is), subst (λ (n : ℕ). Ascends other (n + 1) high (filter_map take_of xs)) (sym is) next)

-- each is below those after it
below_later : {X : Type 0} (key : X → ℕ) (low high : ℕ) (xs before after : List X) (x y : X) → Ascends key low high xs → xs ≡ before ++ x ∷ after
    → Contains after y → key x < key y
unfolding Ascends
below_later key low high [] [] after x y up is has = cc
below_later key low high [] (b ∷ bs) after x y up is has = cc
below_later key low high (z ∷ zs) [] after x y up is has =
    let first : z ≡ x = cc in
    let others : zs ≡ after = cc in
    let all = each_within key (key z + 1) high zs up.2 in
    let later = of_each (λ t. (key z + 1 ≤ key t) × (key t < high)) after y (subst (AllByRecursion (λ t. (key z + 1 ≤ key t) × (key t < high))) others all) has in
    omega (arith, later.0, ap key first)
below_later key low high (z ∷ zs) (b ∷ bs) after x y up is has =
    let others : zs ≡ bs ++ x ∷ after = cc in
    below_later key (key z + 1) high zs bs after x y up.2 others has

-- ---- the extents of an image

falls_ascend : (addr left : ℕ) (ss : List Extent) → Falls addr left ss → Ascends (λ (s : Extent). s.addr) addr (addr + left) ss
unfolding Falls Ascends
falls_ascend addr left [] falls = tt
falls_ascend addr left (s ∷ ss) falls =
    let end : (addr + s.len) + (left - s.len) ≡ addr + left = omega (arith, falls.2) in
    let next = subst (λ (n : ℕ). Ascends (λ (t : Extent). t.addr) (addr + s.len) n ss) end (falls_ascend (addr + s.len) (left - s.len) ss falls.4) in (
      omega (arith, falls.0),
      omega (arith, falls.0, falls.1, falls.2),
      from_lower (λ (t : Extent). t.addr) (addr + s.len) (s.addr + 1) (addr + left) ss (omega (arith, falls.0, falls.1)) next,
    )

block_ascends : (e : Endian) (size : ℕ) (image : List ℕ) (k : ℕ) → Ascends (λ (s : Extent). s.addr) (k * size) (suc k * size) (extents_of_block e size image k)
block_ascends e size image k =
    let block = block_of size image k in
    let start : k * size + 0 ≡ k * size = omega arith in
    let end : (k * size + 0) + length block ≡ suc k * size = omega (arith, block_length size image k) in
    subst (λ (n : ℕ). Ascends (λ (s : Extent). s.addr) (k * size) n (extents e (k * size) block)) end
    (from_lower (λ (s : Extent). s.addr) (k * size + 0) (k * size) ((k * size + 0) + length block) (extents e (k * size) block) (omega arith)
    (falls_ascend (k * size + 0) (length block) (extents e (k * size) block) (falls_from (length block) e (k * size) 0 block (omega arith))))

below_ascend : (e : Endian) (size : ℕ) (image : List ℕ) (n : ℕ) → Ascends (λ (s : Extent). s.addr) 0 (n * size) (extents_below e size image n)
unfolding Ascends
below_ascend e size image zero = tt
below_ascend e size image (suc n) =
    let f = λ (k : ℕ). extents_of_block e size image k in
    let is : extents_below e size image n ++ extents_of_block e size image n ≡ extents_below e size image (suc n) =
    sym (flat_map-append f (below n) (n ∷ []) ∙ ap (λ (l : List Extent). flat_map f (below n) ++ l) (append-nil (f n))) in
    subst (Ascends (λ (s : Extent). s.addr) 0 (suc n * size)) is
    (ascends_append (λ (s : Extent). s.addr) 0 (n * size) (suc n * size) (extents_below e size image n) (extents_of_block e size image n)
    (omega arith) (omega arith) (below_ascend e size image n) (block_ascends e size image n))

image_ascends : (e : Endian) (size : ℕ) (image : List ℕ) → Ascends (λ (s : Extent). s.addr) 0 (block_count size image * size) (image_extents e size image)
image_ascends e size image = below_ascend e size image (block_count size image)

-- ---- sightings, nodes and findings

sighted_there : (addr : ℕ) (kind : ExtentKind) (t : ℕ × Seen) → sighted_by addr kind ≡ Some t → t.0 ≡ addr
sighted_there addr (Tiled what) t is = ap (λ (s : ℕ × Seen). s.0) {x = t} {y = (addr, what)} cc
sighted_there addr Erased t is = cc
sighted_there addr OtherOrder t is = cc
sighted_there addr Dirt t is = cc

found_there : (addr : ℕ) (o : Option FindingKind) (f : Finding) → option_map {U = Finding} (λ kind. record { addr = addr; kind = kind }) o ≡ Some f → f.addr ≡ addr
found_there addr None f is = cc
found_there addr (Some kind) f is = ap (λ (g : Finding). g.addr) {x = f} {y = record { addr = addr; kind = kind }} cc

node_there : (addr : ℕ) (o : Option NodeRef) (n : ℕ × NodeRef) → option_map {U = ℕ × NodeRef} (λ node. (addr, node)) o ≡ Some n → n.0 ≡ addr
node_there addr None n is = cc
node_there addr (Some node) n is = ap (λ (m : ℕ × NodeRef). m.0) {x = n} {y = (addr, node)} cc

pub sightings_up : (e : Endian) (size : ℕ) (image : List ℕ) → Ascends (λ (s : ℕ × Seen). s.0) 0 (block_count size image * size) (sightings e size image)
sightings_up e size image =
    subst (Ascends (λ (s : ℕ × Seen). s.0) 0 (block_count size image * size)) (image_sighted e size image)
    (ascends_taken (λ (s : Extent). s.addr) (λ (s : ℕ × Seen). s.0) sighted (λ s t is. sighted_there s.addr s.kind t is) 0 (block_count size image * size)
    (image_extents e size image) (image_ascends e size image))

pub sightings_ascend : (e : Endian) (size : ℕ) (image : List ℕ) (before after : List (ℕ × Seen)) (s t : ℕ × Seen)
    → sightings e size image ≡ before ++ s ∷ after → Contains after t → s.0 < t.0
sightings_ascend e size image before after s t is has =
    below_later (λ (u : ℕ × Seen). u.0) 0 (block_count size image * size) (sightings e size image) before after s t (sightings_up e size image) is has

pub nodes_ascend : (e : Endian) (size : ℕ) (image : List ℕ) (before after : List (ℕ × NodeRef)) (m n : ℕ × NodeRef)
    → nodes e size image ≡ before ++ m ∷ after → Contains after n → m.0 < n.0
nodes_ascend e size image before after m n is has =
    let high : ℕ = block_count size image * size in
    below_later (λ (u : ℕ × NodeRef). u.0) 0 high (nodes e size image) before after m n
    (ascends_taken (λ (s : ℕ × Seen). s.0) (λ (u : ℕ × NodeRef). u.0) node_sighted (λ s u same. node_there s.0 (node_in s.1) u same) 0 high
    (sightings e size image) (sightings_up e size image))
    is has

pub findings_ascend : (e : Endian) (size : ℕ) (image : List ℕ) (before after : List Finding) (f g : Finding)
    → findings e size image ≡ before ++ f ∷ after → Contains after g → f.addr < g.addr
findings_ascend e size image before after f g is has =
    let high : ℕ = block_count size image * size in
    below_later (λ (u : Finding). u.addr) 0 high (findings e size image) before after f g
    (ascends_taken (λ (s : Extent). s.addr) (λ (u : Finding). u.addr) finding_of (λ s u same. found_there s.addr (found s.kind) u same) 0 high
    (image_extents e size image) (image_ascends e size image))
    is has

pub sightings_within : (e : Endian) (size : ℕ) (image : List ℕ) (s : ℕ × Seen) → Contains (sightings e size image) s → s.0 < block_count size image * size
sightings_within e size image s has =
    let high : ℕ = block_count size image * size in
    (of_each (λ (t : ℕ × Seen). (0 ≤ t.0) × (t.0 < high)) (sightings e size image) s
    (each_within (λ (t : ℕ × Seen). t.0) 0 high (sightings e size image) (sightings_up e size image)) has).1

pub sightings_small : (e : Endian) (size : ℕ) (image : List ℕ) (s : ℕ × Seen) → IsScannable size image → Contains (sightings e size image) s → s.0 < 2 ^ 32
sightings_small e size image s scannable has =
    let last : block_count size image * size ≤ 272629760 = starts_small size (block_count size image) image scannable.0 scannable.1 (omega arith) in
    omega (arith, sightings_within e size image s has, last)
