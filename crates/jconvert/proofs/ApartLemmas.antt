-- Nodes with their addresses, and what holds of those that stay.
use Rattle.std.proofs.Common.{◌≡◌, ℕ, ◌<◌, List, [], ◌∷◌, arith, length, map, filter_map, refl, sym, ap, ap₂, subst, ◌∙◌, Option, None, Some, Err, option_map, Contains, ⊎_elim}
use Rattle.std.specs.Prelude.{IsTrue, IsFalse}
use Rattle.std.specs.List.{cons_option, AllByRecursion}
use Rattle.flashbase.proofs.MemberLemmas.{Contains-filter_map_from}
use Rattle.jnode.specs.Writing.{canonical}
use Rattle.jnode.specs.declared.node.NodeRef.{NodeRef}
use Rattle.jnode.specs.declared.node.Seen.{Seen}
use Rattle.jnode.specs.declared.order.Endian.{Endian}
use Rattle.jscan.specs.Image.{sightings}
use Rattle.jscan.proofs.AddressLaws.{sightings_ascend}
use Rattle.jmount.proofs.FaultLemmas.{Rises, rises, ascends_from_splits}
use Rattle.jclash.specs.Parting.{AreByAddress, Parts}
use Rattle.jclash.specs.declared.parting.LeftOut.{LeftOut}
use Rattle.jlog.specs.Laws.{FitsBlock}
use Rattle.jlog.specs.Places.{end_of_all}
use Rattle.jlog.proofs.IntactLemmas.{output_is_long}
use Rattle.jexpand.specs.Expanded.{expanded_node, expanded_nodes}
use Rattle.jconvert.specs.Apart.{located_node, located_nodes, image_of_nodes}
use Rattle.jconvert.specs.ApartLaws.{LocatedAreByAddress, LocatedAreExpanded}
use Rattle.jconvert.specs.Converting.{convert_fault}
use Rattle.jconvert.proofs.JudgeLemmas.{accepted}
use Rattle.jconvert.proofs.WriteLemmas.{forms_fit}
use Rattle.jexpand.proofs.SightedLemmas.{size_words}

-- ---- the nodes with their addresses

with_option : (addr : ℕ) (o : Option NodeRef) (ns : List (ℕ × NodeRef))
    → map (λ (n : ℕ × NodeRef). n.1) (cons_option (option_map (λ (n : NodeRef). (addr, n)) o) ns) ≡ cons_option o (map (λ (n : ℕ × NodeRef). n.1) ns)
with_option addr None ns = refl
with_option addr (Some n) ns = refl

located_of : (e : Endian) (size : ℕ) (image : List ℕ) (ss : List (ℕ × Seen))
    → map (λ (n : ℕ × NodeRef). n.1) (filter_map (located_node e size image) ss) ≡ filter_map (expanded_node e size image) ss
located_of e size image [] = refl
located_of e size image (s ∷ ss) =
    with_option s.0 (expanded_node e size image s) (filter_map (located_node e size image) ss)
    ∙ ap (cons_option (expanded_node e size image s)) (located_of e size image ss)

pub located_are_expanded : LocatedAreExpanded
located_are_expanded e size image = located_of e size image (sightings e size image)

there : (addr : ℕ) (o : Option NodeRef) (n : ℕ × NodeRef) → option_map (λ (m : NodeRef). (addr, m)) o ≡ Some n → addr ≡ n.0
there addr None n is = absurd (cc)
there addr (Some m) n is = ap (λ (k : ℕ × NodeRef). k.0) {x = (addr, m)} {y = n} cc

order_option : (addr : ℕ) (o : Option NodeRef) (ns : List (ℕ × NodeRef)) → ((m : ℕ × NodeRef) → Contains ns m → addr < m.0) → AreByAddress ns
    → AreByAddress (cons_option (option_map (λ (n : NodeRef). (addr, n)) o) ns)
order_option addr None ns below order = order
order_option addr (Some n) ns below order = (below, order)

in_order_of : (e : Endian) (size : ℕ) (image : List ℕ) (ss : List (ℕ × Seen)) → Rises ss → AreByAddress (filter_map (located_node e size image) ss)
in_order_of e size image [] up = tt
in_order_of e size image (s ∷ ss) up =
    order_option s.0 (expanded_node e size image s) (filter_map (located_node e size image) ss)
    (λ m has.
    let found = Contains-filter_map_from (located_node e size image) ss m has in
    let less : s.0 < found.0.0 = up.0 found.0 found.1 in
    subst (λ (k : ℕ). s.0 < k) (there found.0.0 (expanded_node e size image found.0) m found.2) less)
    (in_order_of e size image ss up.1)

pub located_are_in_order : LocatedAreByAddress
located_are_in_order e size image =
    in_order_of e size image (sightings e size image) (rises (sightings e size image) (ascends_from_splits (sightings e size image) (sightings_ascend e size image)))

-- ---- what holds of all holds of those that stay

pub kept_all : (P : NodeRef → Type 0) (ns : List (ℕ × NodeRef)) (stay : List NodeRef) (left : List LeftOut) → Parts ns stay left
    → AllByRecursion P (map (λ (n : ℕ × NodeRef). n.1) ns) → AllByRecursion P stay
kept_all P [] stay left parts all = subst (AllByRecursion P) (sym parts.0) tt
kept_all P (n ∷ ns) stay left parts all =
    ⊎_elim
    (λ here. subst (AllByRecursion P) (sym here.1.1) (all.0, kept_all P ns here.1.0 left here.1.2 all.1))
    (λ out. kept_all P ns stay out.2.0 out.2.2 all.1)
    parts

-- ---- how long it is

kept_forms : (e : Endian) (Q : List ℕ → Type 0) (ns : List (ℕ × NodeRef)) (stay : List NodeRef) (left : List LeftOut) → Parts ns stay left
    → AllByRecursion Q (map (canonical e) (map (λ (n : ℕ × NodeRef). n.1) ns)) → AllByRecursion Q (map (canonical e) stay)
kept_forms e Q [] stay left parts all = subst (λ (s : List NodeRef). AllByRecursion Q (map (canonical e) s)) (sym parts.0) tt
kept_forms e Q (n ∷ ns) stay left parts all =
    ⊎_elim
    (λ here. subst (λ (s : List NodeRef). AllByRecursion Q (map (canonical e) s)) (sym here.1.1) (all.0, kept_forms e Q ns here.1.0 left here.1.2 all.1))
    (λ out. kept_forms e Q ns stay out.2.0 out.2.2 all.1)
    parts

pub end_is_long : (e : Endian) (size : ℕ) (image : List ℕ) (stay : List NodeRef) (left : List LeftOut) → convert_fault e size image ≡ None
    → Parts (located_nodes e size image) stay left → end_of_all size 0 (map (canonical e) stay) ≡ length (image_of_nodes e size stay)
end_is_long e size image stay left h parts =
    let it = accepted e size image h in
    let fits = kept_forms e (FitsBlock size) (located_nodes e size image) stay left parts
    (subst (λ (ns : List NodeRef). AllByRecursion (FitsBlock size) (map (canonical e) ns)) (sym (located_are_expanded e size image)) (forms_fit e size image (sightings e size image) it.none)) in
    let long = output_is_long e size 0 (map (canonical e) stay) (size_words size it.size_is) fits in
    omega (arith, long)
