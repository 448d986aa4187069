-- The nodes of an image through its compression, with their addresses.
use Rattle.std.proofs.Common.{◌≡◌, ℕ, ◌<◌, zero, suc, List, [], ◌∷◌, ◌++◌, None, Some, Option, refl, sym, ap, subst, ◌∙◌, Contains, arith, get_or, inl, inr}
use Rattle.std.specs.Prelude.{option_map}
use Rattle.std.specs.List.{cons_option}
use Rattle.std.specs.Option.{option_or}
use Rattle.std.proofs.lemmas.List.{append-nil}
use Rattle.std.proofs.lemmas.List.Elements.{Contains-get_or}
use Rattle.flashbase.proofs.MemberLemmas.{Contains-cases, Contains-filter_map_from}
use Rattle.jnode.specs.declared.node.NodeRef.{NodeRef}
use Rattle.jnode.specs.declared.node.Seen.{Seen}
use Rattle.jnode.specs.declared.order.Endian.{Endian}
use Rattle.jscan.specs.Image.{sightings}
use Rattle.jscan.proofs.AddressLaws.{sightings_ascend}
use Rattle.jexpand.specs.Expanded.{expanded_node, contents_of_tiles, unpacked_bytes}
use Rattle.jexpand.specs.declared.fault.ConvertFault.{ConvertFault}
use Rattle.jmount.proofs.FaultLemmas.{Ascends, Rises, rises, ascends_from_splits}
use Rattle.jview.specs.Through.{through_fault, through_fault_among, IsSoundThrough}
use Rattle.jthrough.specs.Addressed.{AddressedAreExpanded, AddressedAreByAddress, AddressedAreMountable, ViewHoldsContents}
use Rattle.jthrough.specs.View.{AreSeen, BeginWith, EndsView, placed_node, placed_nodes}
use Rattle.jthrough.specs.declared.fault.ViewFault.{ViewFault}
use Rattle.jthrough.proofs.PlacedLemmas.{placed_is, placed_mountable, placed_without}
use Rattle.jthrough.proofs.RefusalLemmas.{AreHeld, none_of_held}

-- ---- they are the expanded nodes

pub addressed_are_expanded : AddressedAreExpanded
addressed_are_expanded e size image = placed_without e size image (sightings e size image)

pub addressed_are_mountable : AddressedAreMountable
addressed_are_mountable e size image scannable = placed_mountable e size image (sightings e size image) scannable (λ s has. has)

-- ---- in the order of their addresses

pub ascends_by : {X : Type 0} (xs : List (ℕ × X)) → Rises xs → Ascends xs
ascends_by [] up i j d lt within = absurd (omega arith)
ascends_by (x ∷ xs) up i zero d lt within = absurd (omega arith)
ascends_by (x ∷ xs) up zero (suc j) d lt within = up.0 (get_or xs j d) (Contains-get_or xs j d (omega arith))
ascends_by (x ∷ xs) up (suc i) (suc j) d lt within = ascends_by xs up.1 i j d (omega arith) (omega arith)

behind_option : (addr : ℕ) (o : Option NodeRef) (ns : List (ℕ × NodeRef)) → ((m : ℕ × NodeRef) → Contains ns m → addr < m.0) → Rises ns
    → Rises (cons_option (option_map {U = ℕ × NodeRef} (λ x. (addr, x)) o) ns)
behind_option addr None ns below up = up
behind_option addr (Some n) ns below up = (below, up)

placed_rise : (e : Endian) (size : ℕ) (image : List ℕ) (ss : List (ℕ × Seen)) → Rises ss → Rises (placed_nodes e size image ss)
placed_rise e size image [] up = tt
placed_rise e size image (s ∷ ss) up =
    behind_option s.0 (expanded_node e size image s) (placed_nodes e size image ss)
    (λ m has.
    let (t, there, gives) = Contains-filter_map_from (placed_node e size image) ss m has in
    subst (λ (k : ℕ). s.0 < k) (placed_is e size image t m gives).0 (up.0 t there))
    (placed_rise e size image ss up.1)

pub addressed_are_by_address : AddressedAreByAddress
addressed_are_by_address e size image =
    ascends_by (placed_nodes e size image (sightings e size image))
    (placed_rise e size image (sightings e size image) (rises (sightings e size image) (ascends_from_splits (sightings e size image) (sightings_ascend e size image))))

-- ---- no tile of a sound image has a fault

first_none : (o p : Option ConvertFault) → option_or o p ≡ None → (o ≡ None) × (p ≡ None)
first_none None p none = (refl, none)
first_none (Some f) p none = absurd (cc)

pub none_among : (e : Endian) (size : ℕ) (image : List ℕ) (ss : List (ℕ × Seen)) (s : ℕ × Seen) → through_fault_among e size image ss ≡ None → Contains ss s
    → through_fault e size image s ≡ None
none_among e size image [] s none has = absurd (omega (arith, has.1))
none_among e size image (t ∷ ts) s none has =
    let both = first_none (through_fault e size image t) (through_fault_among e size image ts) none in
    elim (Contains-cases t ts s has) [
      | inl same ↦ subst (λ (x : ℕ × Seen). through_fault e size image x ≡ None) same both.0
      | inr later ↦ none_among e size image ts s both.1 later
    ]

-- ---- while they are gone through

pub seen_all : (e : Endian) (size : ℕ) (image contents : List ℕ) → IsSoundThrough e size image → BeginWith (unpacked_bytes e size image) contents
    → AreSeen e size image (sightings e size image) contents
seen_all e size image contents sound begin = record {
  sighted = λ s has. has;
  none = λ s has. none_among e size image (sightings e size image) s sound.none has;
  contents = begin;
}

-- ---- what a view leaves

pub view_holds_contents : ViewHoldsContents
view_holds_contents e size image contents view v sound = by_end view.refused refl
  where
    held : AreHeld e size image (sightings e size image)
    held = record {
      none = λ s has. none_among e size image (sightings e size image) s sound.none has;
      few = sound.contents;
      apart = sound.apart;
    }

    by_end : (o : Option ViewFault) → view.refused ≡ o → BeginWith (unpacked_bytes e size image) contents
    by_end None is =
        let ends : EndsView e size image v.done v.rest view None = subst (EndsView e size image v.done v.rest view) is v.ends in
        let all : sightings e size image ≡ v.done = v.all ∙ ap (λ (l : List (ℕ × Seen)). v.done ++ l) ends.0 ∙ append-nil v.done in
        (v.has.contents.0, v.has.contents.1 ∙ ap (λ (l : List (ℕ × Seen)). contents_of_tiles e size image l ++ v.has.contents.0) (sym all))
    by_end (Some why) is =
        let ends : EndsView e size image v.done v.rest view (Some why) = subst (EndsView e size image v.done v.rest view) is v.ends in
        let (s, after, rest, here) = ends in
        absurd (none_of_held e size image v.done after s why (subst (AreHeld e size image) (v.all ∙ ap (λ (l : List (ℕ × Seen)). v.done ++ l) rest) held) here)
