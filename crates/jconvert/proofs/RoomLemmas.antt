-- Nodes that stay have room where all have: each begins no later without those that are left out.
use Rattle.std.proofs.Common.{◌≡◌, ℕ, ◌+◌, ◌*◌, ◌%◌, ◌<◌, ◌≤◌, List, [], ◌∷◌, arith, length, map, refl, sym, subst, None, ⊎_elim}
use Rattle.std.specs.Prelude.{IsTrue}
use Rattle.std.specs.List.{AllByRecursion}
use Rattle.std.proofs.lemmas.Bool.{and_from, and_parts, le-leb, leb-true}
use Rattle.jnode.specs.Writing.{canonical}
use Rattle.jnode.specs.declared.node.NodeRef.{NodeRef}
use Rattle.jnode.specs.declared.order.Endian.{Endian}
use Rattle.jnode.specs.Header.{header_len}
use Rattle.jscan.specs.Image.{sightings}
use Rattle.jclash.specs.Parting.{Parts}
use Rattle.jclash.specs.declared.parting.LeftOut.{LeftOut}
use Rattle.jlog.specs.Laws.{FitsBlock}
use Rattle.jlog.specs.Places.{place_after, end_after, fit}
use Rattle.jlog.proofs.PlaceLemmas.{place_is_least}
use Rattle.jexpand.proofs.SightedLemmas.{size_words}
use Rattle.jconvert.specs.Apart.{HaveRoom, located_nodes}
use Rattle.jconvert.specs.ApartLaws.{StayHaveRoom}
use Rattle.jconvert.specs.Converting.{greatest_blocks, convert_fault}
use Rattle.jconvert.proofs.ApartLemmas.{located_are_expanded}
use Rattle.jconvert.proofs.BackLemmas.{place_before, end_before}
use Rattle.jconvert.proofs.JudgeLemmas.{accepted}
use Rattle.jconvert.proofs.WriteLemmas.{forms_fit}

behind : (size from len : ℕ) → size % 4 ≡ 0 → 0 < len → header_len + len ≤ size → from ≤ end_after size from len
behind size from len words some within =
    let at = (place_is_least size from len words some within).place in
    omega (arith, at.upwards)

fewer_fit : (e : Endian) (size blocks a b : ℕ) (ns : List (ℕ × NodeRef)) (stay : List NodeRef) (left : List LeftOut) → size % 4 ≡ 0 → Parts ns stay left
    → AllByRecursion (FitsBlock size) (map (canonical e) (map (λ (n : ℕ × NodeRef). n.1) ns)) → a ≤ b
    → IsTrue (fit size blocks b (map (canonical e) (map (λ (n : ℕ × NodeRef). n.1) ns))) → IsTrue (fit size blocks a (map (canonical e) stay))
fewer_fit e size blocks a b [] stay left words parts ok up fits =
    subst (λ (ns : List NodeRef). IsTrue (fit size blocks a (map (canonical e) ns))) (sym parts.0) refl
fewer_fit e size blocks a b (n ∷ ns) stay left words parts ok up fits =
    let own : ℕ = length (canonical e n.1) in
    let block : FitsBlock size (canonical e n.1) = ok.0 in
    let both = and_parts _ _ fits in
    ⊎_elim
    (λ here.
    let place = place_before size a b own own words block.some (omega arith) block.within up in
    let end = end_before size a b own own words block.some (omega arith) block.within up in
    let within : place_after size b own + own ≤ blocks * size = leb-true _ _ both.0 in
    let inside : place_after size a own + own ≤ blocks * size = omega (arith, place, within) in
    subst (λ (l : List NodeRef). IsTrue (fit size blocks a (map (canonical e) l))) (sym here.1.1)
    (and_from _ _ (le-leb _ _ inside) (fewer_fit e size blocks (end_after size a own) (end_after size b own) ns here.1.0 left words here.1.2 ok.1 end both.1)))
    (λ out.
    let later = behind size b own words block.some block.within in
    let early : a ≤ end_after size b own = omega (arith, up, later) in
    fewer_fit e size blocks a (end_after size b own) ns stay out.2.0 words out.2.2 ok.1 early both.1)
    parts

pub stay_have_room : StayHaveRoom
stay_have_room e size image stay left h parts =
    let it = accepted e size image h in
    let same = sym (located_are_expanded e size image) in
    fewer_fit e size (greatest_blocks size) 0 0 (located_nodes e size image) stay left (size_words size it.size_is) parts
    (subst (λ (ns : List NodeRef). AllByRecursion (FitsBlock size) (map (canonical e) ns)) same (forms_fit e size image (sightings e size image) it.none))
    (omega arith)
    (subst (λ (ns : List NodeRef). IsTrue (fit size (greatest_blocks size) 0 (map (canonical e) ns))) same it.fits)
