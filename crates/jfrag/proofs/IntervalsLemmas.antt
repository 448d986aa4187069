-- The intervals of a map are as many as the keys at which a piece begins.
use Rattle.std.proofs.Common.{◌≡◌, ◌≢◌, ℕ, zero, suc, ◌+◌, ◌-◌, ◌<◌, ◌≤◌, ◌⊎◌, inl, inr, List, [], ◌∷◌, length, get_or, refl, sym, ap, subst, arith, Some, None, ◌∙◌}
use Rattle.std.specs.Prelude.{Contains, is_some, count_by, nat_lt, if◌then◌else◌}
use Rattle.std.specs.List.{All, AllPairs}
use Rattle.std.specs.Ordering.{nat_cmp}
use Rattle.std.specs.Map.{keys_of, values_of}
use Rattle.std.specs.List.Sorted.{IsStrictlySortedBy}
use Rattle.std.specs.BTreeMap.{BTreeMap, get, IsOrdered}
use Rattle.std.proofs.lemmas.List.{get_or_default}
use Rattle.std.proofs.lemmas.Bool.{ltb-true, ltb-false}
use Rattle.std.proofs.lemmas.List.Sums.{sum_by-cons}
use Rattle.std.proofs.lemmas.List.Kept.{AllPairs-cons}
use Rattle.std.proofs.lemmas.Map.Keys.{sorted_tail}
use Rattle.jfrag.specs.declared.piece.Piece.{Piece}
use Rattle.jfrag.specs.IntervalMap.{Interval, interval_at, IsTight}
use Rattle.jfrag.specs.Intervals.{Begins, IsIntervalCount}
use Rattle.jfrag.proofs.IntervalMapLemmas.{case_on, three_ways, some_same, no_some, at, at_head, at_tail, tail_bare, below_head, IntervalIs, interval_at_is, interval_at_from}

with_begin : ℕ → Interval → List ℕ → List ℕ
with_begin k None ks = ks
with_begin k (Some p) ks = k ∷ ks

-- the keys at which a piece begins
beginnings_of : List (ℕ × Interval) → List ℕ
unfolding with_begin
beginnings_of [] = []
beginnings_of (e ∷ es) = with_begin e.0 e.1 (beginnings_of es)

split_contained : (x q : ℕ) (xs : List ℕ) → Contains (x ∷ xs) q → (x ≡ q) ⊎ Contains xs q
split_contained x q xs (zero, l, e) = inl e
split_contained x q xs (suc k, l, e) = inr (k, omega arith, e)

contained_head : (q : ℕ) (xs : List ℕ) → Contains (q ∷ xs) q
contained_head q xs = (0, omega arith, refl)

contained_tail : (x q : ℕ) (xs : List ℕ) → Contains xs q → Contains (x ∷ xs) q
contained_tail x q xs (k, l, e) = (suc k, omega arith, e)

-- a key of the tail is past the head
past_head : (e : ℕ × Interval) (es : List (ℕ × Interval)) → IsStrictlySortedBy nat_cmp (keys_of (e ∷ es)) → (q : ℕ) (r : Interval) → at es q ≡ Some r → e.0 < q
past_head e es s q r h = case_on (nat_lt e.0 q) (λ l. ltb-true e.0 q l) (λ l. let m : q ≤ e.0 = ltb-false e.0 q l in no_some (at es q) r (tail_bare e es s q m) h)

tail_at : (e : ℕ × Interval) (es : List (ℕ × Interval)) → IsStrictlySortedBy nat_cmp (keys_of (e ∷ es)) → (q : ℕ) (r : Interval) → at es q ≡ Some r → at (e ∷ es) q ≡ Some r
tail_at e es s q r h = let l : e.0 < q = past_head e es s q r h in at_tail e es q (λ x. omega arith) ∙ h

abbrev HasPiece : List (ℕ × Interval) → ℕ → Type 0
HasPiece es q = (p : Piece) × (at es q ≡ Some (Some p))

from_with : (k q : ℕ) (r : Interval) (ks : List ℕ) → Contains (with_begin k r ks) q → ((p : Piece) × (k ≡ q) × (r ≡ Some p)) ⊎ Contains ks q
unfolding with_begin
from_with k q None ks h = inr h
from_with k q (Some p) ks h = elim (split_contained k q ks h) [ inl e ↦ inl (p, e, refl) | inr c ↦ inr c ]

from_beginnings : (es : List (ℕ × Interval)) → IsStrictlySortedBy nat_cmp (keys_of es) → (q : ℕ) → Contains (beginnings_of es) q → HasPiece es q
unfolding beginnings_of
from_beginnings [] s q (k, l, e) = absurd (omega arith)
from_beginnings (e ∷ es) s q h =
    elim (from_with e.0 q e.1 (beginnings_of es) h) [
      | inl x ↦ (x.0, subst (λ (k : ℕ). at (e ∷ es) k ≡ Some (Some x.0)) x.1 (at_head e es ∙ ap (λ (r : Interval). Some r) x.2))
      | inr c ↦ let there = from_beginnings es (sorted_tail nat_cmp e.0 (keys_of es) s) q c in (there.0, tail_at e es s q (Some there.0) there.1)
    ]

head_with : (k : ℕ) (r : Interval) (p : Piece) (ks : List ℕ) → r ≡ Some p → Contains (with_begin k r ks) k
unfolding with_begin
head_with k None p ks e = cc
head_with k (Some q) p ks e = contained_head k ks

tail_with : (k q : ℕ) (r : Interval) (ks : List ℕ) → Contains ks q → Contains (with_begin k r ks) q
unfolding with_begin
tail_with k q None ks h = h
tail_with k q (Some p) ks h = contained_tail k q ks h

to_beginnings : (es : List (ℕ × Interval)) → IsStrictlySortedBy nat_cmp (keys_of es) → (q : ℕ) (p : Piece) → at es q ≡ Some (Some p) → Contains (beginnings_of es) q
unfolding beginnings_of
to_beginnings [] s q p h = no_some (at [] q) (Some p) refl h
to_beginnings (e ∷ es) s q p h =
    three_ways q e.0
    (λ l. no_some (at (e ∷ es) q) (Some p) (below_head e es s q l) h)
    (λ x. let here : e.1 ≡ Some p = some_same (at (e ∷ es) e.0) e.1 (Some p) (at_head e es) (ap (at (e ∷ es)) (sym x) ∙ h) in
    subst (Contains (with_begin e.0 e.1 (beginnings_of es))) (sym x) (head_with e.0 e.1 p (beginnings_of es) here))
    (λ l. tail_with e.0 q e.1 (beginnings_of es) (to_beginnings es (sorted_tail nat_cmp e.0 (keys_of es) s) q p (sym (at_tail e es q (λ x. omega arith)) ∙ h)))

-- each is below all later ones
ascending_with : (k : ℕ) (r : Interval) (ks : List ℕ) → All (λ b. k < b) ks → AllPairs (λ a b. a < b) ks → AllPairs (λ a b. a < b) (with_begin k r ks)
unfolding with_begin
ascending_with k None ks above h = h
ascending_with k (Some p) ks above h = AllPairs-cons (λ a b. a < b) k ks above h

beginnings_ascend : (es : List (ℕ × Interval)) → IsStrictlySortedBy nat_cmp (keys_of es) → AllPairs (λ a b. a < b) (beginnings_of es)
unfolding beginnings_of
beginnings_ascend [] s = λ i j d l m. absurd (omega arith)
beginnings_ascend (e ∷ es) s =
    let tail = sorted_tail nat_cmp e.0 (keys_of es) s in
    ascending_with e.0 e.1 (beginnings_of es)
    (λ k d l.
    let here : Contains (beginnings_of es) (get_or (beginnings_of es) k d) = (k, l, get_or_default (beginnings_of es) k (get_or (beginnings_of es) k d) d l) in
    let there = from_beginnings es tail (get_or (beginnings_of es) k d) here in
    past_head e es s (get_or (beginnings_of es) k d) (Some there.0) there.1)
    (beginnings_ascend es tail)

-- as many as the intervals that are no gaps
length_with : (k : ℕ) (r : Interval) (ks : List ℕ) (rs : List Interval) → length ks ≡ count_by (λ r. is_some r) rs → length (with_begin k r ks) ≡ count_by (λ r. is_some r) (r ∷ rs)
unfolding with_begin
length_with k None ks rs h = h
length_with k (Some p) ks rs h =
    let more : count_by (λ r. is_some r) (Some p ∷ rs) ≡ 1 + count_by (λ r. is_some r) rs = sum_by-cons (λ (r : Interval). if is_some r then 1 else 0) (Some p) rs in
    omega arith

length_beginnings : (es : List (ℕ × Interval)) → length (beginnings_of es) ≡ count_by (λ r. is_some r) (values_of es)
unfolding beginnings_of
length_beginnings [] = refl
length_beginnings (e ∷ es) = length_with e.0 e.1 (beginnings_of es) (values_of es) (length_beginnings es)

-- a key at which a piece begins is where its interval begins
key_begins : (m : BTreeMap ℕ Interval) → IsOrdered nat_cmp m → IsTight m → (q : ℕ) → HasPiece m.entries q → Begins (interval_at m.entries) q
key_begins m om t q (p, e) = (
  p,
  interval_at_from m om q (Some p) (inl (q, omega arith, e, λ k a b. absurd (omega arith))),
  λ before f. t before p (ap (get nat_cmp m) f ∙ e),
)

-- and the other way round: the key at or below is the place itself
begins_key : (m : BTreeMap ℕ Interval) → IsOrdered nat_cmp m → (q : ℕ) (p : Piece) → interval_at m.entries q ≡ Some p → ((before : ℕ) → before + 1 ≡ q → interval_at m.entries before ≢ Some p) → IntervalIs (get nat_cmp m) q None (interval_at m.entries q) → get nat_cmp m q ≡ Some (Some p)
begins_key m om q p e first (inl (k, l, f, above)) =
    three_ways k q
    (λ u. absurd (first (q - 1) (omega arith) (interval_at_from m om (q - 1) (Some p) (inl (k, omega arith, f ∙ ap (λ (r : Interval). Some r) e, λ x a b. above x a (omega arith))))))
    (λ u. ap (get nat_cmp m) (sym u) ∙ f ∙ ap (λ (r : Interval). Some r) e)
    (λ u. absurd (omega arith))
begins_key m om q p e first (inr (bare, none)) = no_some (interval_at m.entries q) p none e

pub interval_count : (m : BTreeMap ℕ Interval) → IsOrdered nat_cmp m → IsTight m → (count : ℕ) → count ≡ count_by (λ r. is_some r) (values_of m.entries) → IsIntervalCount (interval_at m.entries) count
interval_count m om t count e = record {
  beginnings = beginnings_of m.entries;
  ascending = beginnings_ascend m.entries om;
  each = λ q. (
    λ c. key_begins m om t q (from_beginnings m.entries om q c),
    λ b. to_beginnings m.entries om q b.0 (begins_key m om q b.0 b.1 b.2 (interval_at_is m om q)),
  );
  counted = length_beginnings m.entries ∙ sym e;
}
