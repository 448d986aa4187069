-- The contents of the tiles that are left of an image.
use Rattle.std.proofs.Common.{◌≡◌, ℕ, ◌+◌, ◌≤◌, List, [], ◌∷◌, length, filter_map, length-append, None, Some, Option, inl, inr, refl, sym, ap, subst, ◌∙◌, arith}
use Rattle.std.specs.Prelude.{Contains}
use Rattle.std.specs.List.{cons_option}
use Rattle.std.specs.Option.{option_or}
use Rattle.flashbase.proofs.MemberLemmas.{Contains-here, Contains-there, Contains-none, Contains-cases}
use Rattle.jnode.specs.declared.node.Seen.{Seen}
use Rattle.jnode.specs.declared.order.Endian.{Endian}
use Rattle.jscan.specs.Extents.{sighted, sighted_by}
use Rattle.jscan.specs.Image.{sightings}
use Rattle.jscan.specs.Scans.{image_extents}
use Rattle.jscan.specs.declared.extent.Extent.{Extent}
use Rattle.jscan.specs.declared.extent.ExtentKind.{ExtentKind}
use Rattle.jscan.specs.declared.extent.ExtentKind.TheVariants.{Tiled, Erased, OtherOrder, Dirt}
use Rattle.jscan.proofs.ImageLemmas.{image_sighted}
use Rattle.jexpand.specs.Expanded.{tile_content, contents_of_tiles, unpacked_bytes}
use Rattle.jexpand.specs.declared.fault.ConvertFault.{ConvertFault}
use Rattle.jview.specs.Through.{through_fault, through_fault_among, greatest_contents, IsSoundThrough}

none_by : (e : Endian) (size : ℕ) (image : List ℕ) (t : ℕ × Seen) (ss : List (ℕ × Seen)) (s : ℕ × Seen) (o : Option ConvertFault) → through_fault e size image t ≡ o → option_or o (through_fault_among e size image ss) ≡ None
    → Contains (t ∷ ss) s → (through_fault_among e size image ss ≡ None → Contains ss s → through_fault e size image s ≡ None) → through_fault e size image s ≡ None
none_by e size image t ss s (Some f) is none has rest = cc
none_by e size image t ss s None is none has rest = elim (Contains-cases t ss s has) [
  | inl same ↦ subst (λ (u : ℕ × Seen). through_fault e size image u ≡ None) same is
  | inr later ↦ rest none later
]

none_among : (e : Endian) (size : ℕ) (image : List ℕ) (ss : List (ℕ × Seen)) (s : ℕ × Seen) → through_fault_among e size image ss ≡ None → Contains ss s → through_fault e size image s ≡ None
none_among e size image [] s none has = absurd (Contains-none s has)
none_among e size image (t ∷ ss) s none has = none_by e size image t ss s (through_fault e size image t) refl none has (none_among e size image ss s)

-- so much was counted, and these extents are left
pub record Counting (e : Endian) (size : ℕ) (image : List ℕ) (left : List Extent) (sum : ℕ) : Type 0 where
  pub rest : sum + length (contents_of_tiles e size image (filter_map sighted left)) ≡ length (unpacked_bytes e size image)
  pub among : (s : ℕ × Seen) → Contains (filter_map sighted left) s → Contains (sightings e size image) s

pub counting_start : (e : Endian) (size : ℕ) (image : List ℕ) (left : List Extent) → left ≡ image_extents e size image → Counting e size image left 0
counting_start e size image left all =
    let seen_are : filter_map sighted left ≡ sightings e size image = ap (filter_map sighted) all ∙ image_sighted e size image in
    record {
      rest = omega (arith, ap (λ (l : List (ℕ × Seen)). length (contents_of_tiles e size image l)) seen_are);
      among = λ s has. subst (λ (l : List (ℕ × Seen)). Contains l s) seen_are has;
    }

-- the next extent
record Next (e : Endian) (size : ℕ) (image : List ℕ) (t : ℕ × Seen) (left : List Extent) (sum : ℕ) : Type 0 where
  rest : sum + (length (tile_content e size image t) + length (contents_of_tiles e size image (filter_map sighted left))) ≡ length (unpacked_bytes e size image)
  found : Contains (sightings e size image) t
  among : (s : ℕ × Seen) → Contains (filter_map sighted left) s → Contains (sightings e size image) s

next_of : (e : Endian) (size : ℕ) (image : List ℕ) (now left : List Extent) (x : Extent) (t : ℕ × Seen) (sum : ℕ) → Counting e size image now sum → now ≡ x ∷ left → sighted x ≡ Some t → Next e size image t left sum
next_of e size image now left x t sum c first is =
    let tiles : filter_map sighted now ≡ t ∷ filter_map sighted left = ap (filter_map sighted) first ∙ ap (λ (o : Option (ℕ × Seen)). cons_option o (filter_map sighted left)) is in
    let all : length (contents_of_tiles e size image (filter_map sighted now)) ≡ length (tile_content e size image t) + length (contents_of_tiles e size image (filter_map sighted left)) =
    ap (λ (l : List (ℕ × Seen)). length (contents_of_tiles e size image l)) tiles ∙ length-append (tile_content e size image t) (contents_of_tiles e size image (filter_map sighted left)) in
    let has : (s : ℕ × Seen) → Contains (t ∷ filter_map sighted left) s → Contains (sightings e size image) s = λ s h. c.among s (subst (λ (l : List (ℕ × Seen)). Contains l s) (sym tiles) h) in
    record {
      rest = omega (arith, c.rest, all);
      found = has t (Contains-here t (filter_map sighted left));
      among = λ s h. has s (Contains-there t (filter_map sighted left) s h);
    }

pub counting_sighted : (e : Endian) (size : ℕ) (image : List ℕ) (now left : List Extent) (x : Extent) (what : Seen) (sum : ℕ) → Counting e size image now sum → now ≡ x ∷ left → x.kind ≡ Tiled what
    → Contains (sightings e size image) (x.addr, what)
counting_sighted e size image now left x what sum c first is = (next_of e size image now left x (x.addr, what) sum c first (ap (sighted_by x.addr) is)).found

pub counting_sound : (e : Endian) (size : ℕ) (image : List ℕ) (s : ℕ × Seen) → IsSoundThrough e size image → Contains (sightings e size image) s → through_fault e size image s ≡ None
counting_sound e size image s sound has = none_among e size image (sightings e size image) s sound.none has

pub counting_small : (e : Endian) (size : ℕ) (image : List ℕ) (now left : List Extent) (x : Extent) (what : Seen) (sum : ℕ) → IsSoundThrough e size image → Counting e size image now sum → now ≡ x ∷ left → x.kind ≡ Tiled what
    → sum + length (tile_content e size image (x.addr, what)) ≤ greatest_contents
counting_small e size image now left x what sum sound c first is =
    omega (arith, (next_of e size image now left x (x.addr, what) sum c first (ap (sighted_by x.addr) is)).rest, sound.contents)

pub counting_next : (e : Endian) (size : ℕ) (image : List ℕ) (now left : List Extent) (x : Extent) (what : Seen) (sum more : ℕ) → Counting e size image now sum → now ≡ x ∷ left → x.kind ≡ Tiled what
    → more ≡ length (tile_content e size image (x.addr, what)) → Counting e size image left (sum + more)
counting_next e size image now left x what sum more c first is long =
    let n = next_of e size image now left x (x.addr, what) sum c first (ap (sighted_by x.addr) is) in
    record { rest = omega (arith, n.rest, long); among = n.among }

sighted_none : (addr : ℕ) (kind : ExtentKind) → ((what : Seen) → kind ≡ Tiled what → ⊥) → sighted_by addr kind ≡ None
sighted_none addr (Tiled what) isnt = absurd (isnt what refl)
sighted_none addr Erased isnt = refl
sighted_none addr OtherOrder isnt = refl
sighted_none addr Dirt isnt = refl

pub counting_skip : (e : Endian) (size : ℕ) (image : List ℕ) (now left : List Extent) (x : Extent) (sum : ℕ) → Counting e size image now sum → now ≡ x ∷ left → ((what : Seen) → x.kind ≡ Tiled what → ⊥) → Counting e size image left sum
counting_skip e size image now left x sum c first isnt =
    let tiles : filter_map sighted now ≡ filter_map sighted left = ap (filter_map sighted) first ∙ ap (λ (o : Option (ℕ × Seen)). cons_option o (filter_map sighted left)) (sighted_none x.addr x.kind isnt) in
    record {
      rest = ap (λ (l : List (ℕ × Seen)). sum + length (contents_of_tiles e size image l)) (sym tiles) ∙ c.rest;
      among = λ s h. c.among s (subst (λ (l : List (ℕ × Seen)). Contains l s) (sym tiles) h);
    }

pub counting_end : (e : Endian) (size : ℕ) (image : List ℕ) (left : List Extent) (sum : ℕ) → Counting e size image left sum → left ≡ [] → sum ≡ length (unpacked_bytes e size image)
counting_end e size image left sum c none =
    let nothing : length (contents_of_tiles e size image (filter_map sighted left)) ≡ 0 = ap (λ (l : List Extent). length (contents_of_tiles e size image (filter_map sighted l))) none in
    omega (arith, c.rest, nothing)
