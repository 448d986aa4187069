-- Shorter forms fit where longer ones do.
use Rattle.std.proofs.Common.{◌≡◌, ℕ, ◌+◌, ◌*◌, ◌%◌, ◌<◌, ◌≤◌, List, [], ◌∷◌, length, map, sym, ap, ◌∙◌, arith, inl, inr}
use Rattle.std.specs.Prelude.{IsTrue}
use Rattle.std.specs.List.{AllByRecursion}
use Rattle.std.proofs.lemmas.Bool.{and_from, and_parts, le-leb, leb-true}
use Rattle.flashbase.specs.Bytes.{pad4_of}
use Rattle.flashbase.proofs.BytesLemmas.{le_pad4, pad4_words, pad4_least}
use Rattle.jnode.specs.Header.{header_len}
use Rattle.jnode.specs.Reading.{inode_len}
use Rattle.jnode.specs.Writing.{canonical}
use Rattle.jnode.specs.declared.node.NodeRef.{NodeRef}
use Rattle.jnode.specs.declared.order.Endian.{Endian}
use Rattle.jnode.proofs.CompressedLemmas.{length-canonical_compressed}
use Rattle.jexpand.specs.Expanded.{node_length}
use Rattle.jlog.specs.Places.{IsPlace, place_after, end_after, fit}
use Rattle.jlog.specs.LeftLaws.{IsLoggable}
use Rattle.jlog.specs.Packed.{IsNodeForm, AreNodeForms}
use Rattle.jlog.specs.SessionAsLaws.{ShorterFormsFit}
use Rattle.jlog.proofs.PackedLemmas.{Carries, canonical_length, fewer_words, form_carries}
use Rattle.jlog.proofs.PlaceLemmas.{place_is_least}

place_before : (size a b short long : ℕ) → size % 4 ≡ 0 → 0 < short → short ≤ long → header_len + long ≤ size → a ≤ b → place_after size a short ≤ place_after size b long
place_before size a b short long words some less room up =
    let at : IsPlace size b long (place_after size b long) = (place_is_least size b long words (omega arith) room).place in
    (place_is_least size a short words some (omega arith)).least (place_after size b long) (record {
      aligned = at.aligned;
      upwards = omega (arith, at.upwards);
      behind_marker = at.behind_marker;
      within = omega (arith, at.within);
    })

end_before : (size a b short long : ℕ) → size % 4 ≡ 0 → 0 < short → short ≤ long → header_len + long ≤ size → a ≤ b → end_after size a short ≤ end_after size b long
end_before size a b short long words some less room up =
    let place = place_before size a b short long words some less room up in
    let padded : pad4_of short ≤ pad4_of long = pad4_least short (pad4_of long) (omega (arith, le_pad4 long)) (pad4_words long) in
    omega (arith, place, padded)

-- a form is no longer than the node's own
no_longer : (e : Endian) (n : NodeRef) (form : List ℕ) → IsNodeForm e n form → length form ≤ length (canonical e n)
no_longer e n form (inl own) = omega (arith, ap length own)
no_longer e n form (inr (is, plain)) =
    let long = ap length is.2 ∙ length-canonical_compressed e is.0 in
    let own : length (canonical e n) ≡ inode_len + length is.1.bytes = canonical_length e n ∙ sym (ap node_length is.1.expanded) in
    omega (arith, long, own, fewer_words (inode_len + length is.0.«data») (inode_len + length is.1.bytes) is.1.shorter)

fits_before : (e : Endian) (size blocks a b : ℕ) (ns : List NodeRef) (forms : List (List ℕ)) → size % 4 ≡ 0 → AllByRecursion (IsLoggable e size) ns → AreNodeForms e ns forms → a ≤ b
    → IsTrue (fit size blocks b (map (canonical e) ns)) → IsTrue (fit size blocks a forms)
fits_before e size blocks a b [] [] words ok are up fits = fits
fits_before e size blocks a b [] (form ∷ forms) words ok are up fits = absurd are
fits_before e size blocks a b (n ∷ ns) [] words ok are up fits = absurd are
fits_before e size blocks a b (n ∷ ns) (form ∷ forms) words ok are up fits =
    let own : ℕ = length (canonical e n) in
    let carries : Carries e size n form = form_carries e size n form ok.0 are.0 in
    let some : 0 < length form = omega (arith, carries.loggable.is.least) in
    let less : length form ≤ own = no_longer e n form are.0 in
    let parts = and_parts _ _ fits in
    let place = place_before size a b (length form) own words some less ok.0.room up in
    let within : place_after size b own + own ≤ blocks * size = leb-true _ _ parts.0 in
    let inside : place_after size a (length form) + length form ≤ blocks * size = omega (arith, place, within, less) in
    and_from _ _ (le-leb _ _ inside)
    (fits_before e size blocks (end_after size a (length form)) (end_after size b own) ns forms words ok.1 are.1
    (end_before size a b (length form) own words some less ok.0.room up) parts.1)

pub shorter_forms_fit : ShorterFormsFit
shorter_forms_fit e size blocks from nodes forms words ok are fits = fits_before e size blocks from from nodes forms words ok are (omega arith) fits
