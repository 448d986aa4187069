-- Where one piece is all that there is.
use Rattle.std.proofs.Common.{◌≡◌, ℕ, ◌-◌, ◌<◌, ◌≤◌, [], ◌∷◌, zero, suc, refl, sym, ap, arith, Some, None, ◌∙◌}
use Rattle.std.specs.Prelude.{Contains, nat_le, nat_lt}
use Rattle.std.proofs.lemmas.Bool.{ltb-true, ltb-false, lt-ltb, le-leb}
use Rattle.jfrag.specs.declared.piece.Piece.{Piece}
use Rattle.jfrag.specs.Pieces.{covers, end_of}
use Rattle.jfrag.specs.Overlays.{byte_at}
use Rattle.jfrag.specs.IntervalMap.{Interval, seen}
use Rattle.jfrag.specs.Layouts.{of_one}
use Rattle.jfrag.specs.Intervals.{Begins, IsIntervalCount}
use Rattle.jfrag.proofs.IntervalMapLemmas.{case_on, some_same, no_some}
use Rattle.jfrag.proofs.Overwriting.{both, pick_yes, pick_no}
use Rattle.jfrag.proofs.Reading.{from_covers}

covered : (p : Piece) (i : ℕ) → p.offset ≤ i → i < end_of p → of_one p i ≡ Some p
covered p i l m = pick_yes (covers i p) (Some p) None (both (nat_le p.offset i) (nat_lt i (end_of p)) (le-leb p.offset i l) (lt-ltb i (end_of p) m))

-- nothing is visible but at the places that it covers
is_covered : (p q : Piece) (i : ℕ) → of_one p i ≡ Some q → (p ≡ q) × (p.offset ≤ i) × (i < end_of p)
is_covered p q i h =
    case_on (covers i p)
    (λ c. (some_same (of_one p i) p q (pick_yes (covers i p) (Some p) None c) h, (from_covers p i c).0, (from_covers p i c).1))
    (λ c. no_some (of_one p i) q (pick_no (covers i p) (Some p) None c) h)

beside_is_none : (p : Piece) (i : ℕ) → ((p.offset ≤ i) → (i < end_of p) → ⊥) → of_one p i ≡ None
beside_is_none p i h =
    case_on (covers i p)
    (λ c. absurd (h (from_covers p i c).0 (from_covers p i c).1))
    (λ c. pick_no (covers i p) (Some p) None c)

-- its interval begins at its offset, and there is no other
begins_at_offset : (p : Piece) → p.offset < end_of p → (q : ℕ) → Contains (p.offset ∷ []) q → Begins (of_one p) q
begins_at_offset p l q (zero, m, e) =
    let at : p.offset ≡ q = e in (
      p,
      covered p q (omega arith) (omega arith),
      λ before f h. let c = is_covered p p before h in let low : p.offset ≤ before = c.1 in absurd (omega arith),
    )
begins_at_offset p l q (suc k, m, e) = absurd (omega arith)

is_offset : (p : Piece) (q : ℕ) → Begins (of_one p) q → Contains (p.offset ∷ []) q
is_offset p q b =
    let c = is_covered p b.0 q b.1 in
    let low : p.offset ≤ q = c.1 in
    let high : q < end_of p = c.2 in
    case_on (nat_lt p.offset q)
    (λ e. let l : p.offset < q = ltb-true p.offset q e in absurd (b.2 (q - 1) (omega arith) (covered p (q - 1) (omega arith) (omega arith) ∙ ap Some c.0)))
    (λ e. let l : q ≤ p.offset = ltb-false p.offset q e in let at : p.offset ≡ q = omega arith in (0, omega arith, at))

pub one_interval : (p : Piece) → p.offset < end_of p → IsIntervalCount (of_one p) 1
one_interval p l = record {
  beginnings = p.offset ∷ [];
  ascending = λ i j d a b. absurd (omega arith);
  each = λ q. (begins_at_offset p l q, is_offset p q);
  counted = refl;
}

-- what a reader gets beside the piece, and of it
pub read_beside : (p : Piece) (i byte : ℕ) → ((p.offset ≤ i) → (i < end_of p) → ⊥) → byte ≡ 0 → byte ≡ byte_at (seen (of_one p i) i)
read_beside p i byte h e = e ∙ ap (λ (r : Interval). byte_at (seen r i)) (sym (beside_is_none p i h))

pub read_of : (p : Piece) (i byte : ℕ) → p.offset ≤ i → i < end_of p → byte ≡ byte_at (seen (Some p) i) → byte ≡ byte_at (seen (of_one p i) i)
read_of p i byte l m e = e ∙ ap (λ (r : Interval). byte_at (seen r i)) (sym (covered p i l m))
