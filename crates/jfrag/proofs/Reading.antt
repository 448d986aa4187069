-- Where nothing is visible.
use Rattle.std.proofs.Common.{◌^◌, ◌≡◌, ℕ, ◌<◌, ◌≤◌, true, false, List, refl, arith, Some, None}
use Rattle.std.specs.Prelude.{nat_le}
use Rattle.std.proofs.lemmas.Bool.{ltb-true, leb-true}
use Rattle.jfrag.specs.declared.piece.Piece.{Piece}
use Rattle.jfrag.specs.Pieces.{covers, end_of}
use Rattle.jfrag.specs.IntervalMap.{Interval, interval_at, IsCovered}
use Rattle.jfrag.proofs.IntervalMapLemmas.{case_on}

pub from_covers : (p : Piece) (i : ℕ) → covers i p ≡ true → (p.offset ≤ i) × (i < end_of p)
from_covers p i e =
    case_on (nat_le p.offset i)
    (λ f. (leb-true p.offset i f, ltb-true i (end_of p) (rw f at e)))
    (λ f. let no : false ≡ true = rw f at e in cc)

-- nothing is visible from 2 ^ 32 - 1 on
pub far_is_bare : (es : List (ℕ × Interval)) → IsCovered es → (i : ℕ) → 4294967295 ≤ i → interval_at es i ≡ None
far_is_bare es h i l = by_interval (interval_at es i) refl
  where
    by_interval : (r : Interval) → interval_at es i ≡ r → interval_at es i ≡ None
    by_interval None e = e
    by_interval (Some p) e = let u = h i p e in let v : i < end_of p = (from_covers p i u.0).1 in let w : end_of p < 2 ^ 32 = u.1 in absurd (omega arith)
