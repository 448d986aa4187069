-- The intervals of a map before and after one change, and what a range of it says.
use Rattle.std.proofs.Common.{◌≡◌, ◌≢◌, ℕ, ◌+◌, ◌-◌, ◌<◌, ◌≤◌, Bool, true, false, ◌&&◌, inl, inr, List, [], ◌∷◌, ◌++◌, refl, sym, ap, subst, arith, Some, None, Option, ◌∙◌}
use Rattle.std.specs.Prelude.{if◌then◌else◌, nat_lt, nat_le, IsSome}
use Rattle.std.specs.Ordering.{nat_cmp, is_gt}
use Rattle.std.specs.declared.cmp.Ordering.TheVariants.{Less, Equal, Greater}
use Rattle.std.specs.declared.ops.Bound.TheVariants.{Included, Excluded, Unbounded}
use Rattle.std.specs.Cmp.{nat_cmp_total, nat_cmp_is}
use Rattle.std.specs.Map.{lookup}
use Rattle.std.specs.BTreeMap.{BTreeMap, get, is_at, IsOrdered, Updates, ContainsKey}
use Rattle.std.specs.BTreeMap.Range.{IsRangeOf}
use Rattle.std.proofs.lemmas.Bool.{ltb-true, ltb-false, leb-true, leb-false}
use Rattle.std.proofs.lemmas.Map.Keys.{le_from_not_gt, ge_from_not_lt}
use Rattle.std.proofs.lemmas.Map.Lookups.{btree_map_from_get, exact_unsigned}
use Rattle.jfrag.specs.IntervalMap.{Interval, interval_at, NoKeyIn, is_under, between}
use Rattle.jfrag.proofs.IntervalMapLemmas.{case_on, three_ways, not_at, IntervalIs, interval_at_is, interval_at_from, stays_below, stays_above, set_between, joins_between, split_stays}

none_unless : {X : Type 0} (o : Option X) → (IsSome o → ⊥) → o ≡ None
none_unless None h = refl
none_unless (Some x) h = absurd (h refl)

less_is : (a b : ℕ) → nat_cmp a b ≡ Less → a < b
less_is a b e =
    three_ways a b (λ l. l)
    (λ s. let f : Equal ≡ Less = nat_cmp_is a b Equal s ∙ e in cc)
    (λ l. let f : Greater ≡ Less = nat_cmp_is a b Greater l ∙ e in cc)

less_of : (a b : ℕ) → a < b → nat_cmp a b ≡ Less
less_of a b l = sym (nat_cmp_is a b Less l)

not_gt : (a b : ℕ) → a ≤ b → is_gt (nat_cmp a b) ≡ false
not_gt a b l =
    three_ways a b
    (λ m. ap is_gt (sym (nat_cmp_is a b Less m)))
    (λ e. ap is_gt (sym (nat_cmp_is a b Equal e)))
    (λ m. absurd (omega arith))

-- the last entry at or below a place is the interval that it lies in
pub last_of_range : (m : BTreeMap ℕ Interval) → IsOrdered nat_cmp m → (at : ℕ) (r t : List (ℕ × Interval)) (k : ℕ) (v : Interval) → IsRangeOf nat_cmp Unbounded (Included at) m r → r ≡ t ++ (k, v) ∷ [] → interval_at m.entries at ≡ v
last_of_range m s at r t k v h e =
    let here = h.3 (k, v) t e in
    let below : k ≤ at = le_from_not_gt k at here.0.1 in
    interval_at_from m s at v (inl (
      k,
      below,
      here.1,
      λ q kq q_at.
          none_unless (get nat_cmp m q) (λ some.
          let l : q ≤ k = ge_from_not_lt k q (h.4 (k, v) t e q (tt, not_gt q at q_at) some) in omega arith),
    ))

-- before the first entry of a range there is none
pub before_first : (m : BTreeMap ℕ Interval) (lo hi : ℕ) (r t : List (ℕ × Interval)) (k : ℕ) (v : Interval) → IsRangeOf nat_cmp (Excluded lo) (Excluded hi) m r → r ≡ (k, v) ∷ t → NoKeyIn m (lo + 1) k
before_first m lo hi r t k v h e = λ q lq qk. none_unless (get nat_cmp m q) (λ some.
    let hh = subst (λ (x : List (ℕ × Interval)). IsRangeOf nat_cmp (Excluded lo) (Excluded hi) m x) e h in
    let k_hi : k < hi = less_is k hi hh.1.0.1 in
    let l : k ≤ q = le_from_not_gt k q (hh.2 q (less_of lo q (omega arith), less_of q hi (omega arith)) some) in
    omega arith)

pub others_of : (m n : BTreeMap ℕ Interval) (k : ℕ) (w : Option Interval) → Updates nat_cmp m n k w → (q : ℕ) → q ≢ k → get nat_cmp n q ≡ get nat_cmp m q
others_of m n k w u q ne = u.2 q (not_at k q (λ e. ne (sym e)))

-- a new key with the interval that is there changes nothing
pub split_same : (m n : BTreeMap ℕ Interval) (k : ℕ) (v : Interval) → IsOrdered nat_cmp m → IsOrdered nat_cmp n → Updates nat_cmp m n k (Some v) → get nat_cmp m k ≡ None → v ≡ interval_at m.entries k → (i : ℕ) → interval_at n.entries i ≡ interval_at m.entries i
split_same m n k v om on u absent same i =
    interval_at_from n on i (interval_at m.entries i)
    (case_on (nat_lt i k)
    (λ e. stays_below (get nat_cmp m) (get nat_cmp n) k (others_of m n k (Some v) u) i (interval_at m.entries i) (ltb-true i k e) (interval_at_is m om i))
    (λ e. split_stays (get nat_cmp m) (get nat_cmp n) k (others_of m n k (Some v) u) i (interval_at m.entries i) v (ltb-false i k e) absent u.1 (subst (λ (x : Interval). IntervalIs (get nat_cmp m) k None x) (sym same) (interval_at_is m om k)) (interval_at_is m om i)))

-- a key that was put in and taken out copied
pub undone : (m n o : BTreeMap ℕ Interval) (k : ℕ) (v : Option Interval) → IsOrdered nat_cmp m → IsOrdered nat_cmp o → get nat_cmp m k ≡ None → ((q : ℕ) → q ≢ k → get nat_cmp n q ≡ get nat_cmp m q) → Updates nat_cmp n o k None → o.entries ≡ m.entries
undone m n o k v om oo absent first u =
    btree_map_from_get nat_cmp_total o m oo om (λ q.
    three_ways q k
    (λ l. u.2 q (not_at k q (λ x. omega arith)) ∙ first q (λ x. omega arith))
    (λ e. ap (get nat_cmp o) e ∙ u.1 ∙ sym absent ∙ ap (get nat_cmp m) (sym e))
    (λ l. u.2 q (not_at k q (λ x. omega arith)) ∙ first q (λ x. omega arith))) exact_unsigned

-- up to the next key the interval is the same
pub same_interval : (m : BTreeMap ℕ Interval) → IsOrdered nat_cmp m → (k hi i : ℕ) → NoKeyIn m (k + 1) hi → k ≤ i → i < hi → interval_at m.entries i ≡ interval_at m.entries k
same_interval m s k hi i none ki l =
    interval_at_from m s i (interval_at m.entries k) (reaches (get nat_cmp m) k hi i (interval_at m.entries k) none ki l (interval_at_is m s k))
  where
    reaches : (f : ℕ → Option Interval) (k hi i : ℕ) (r : Interval) → ((q : ℕ) → k + 1 ≤ q → q < hi → f q ≡ None) → k ≤ i → i < hi → IntervalIs f k None r → IntervalIs f i None r
    reaches f k hi i r none ki l (inl (j, jk, fj, above)) = inl (
      j,
      omega arith,
      fj,
      λ q m n.
          case_on (nat_lt k q)
          (λ e. let u : k < q = ltb-true k q e in none q (omega arith) (omega arith))
          (λ e. let u : q ≤ k = ltb-false k q e in above q m u),
    )
    reaches f k hi i r none ki l (inr (bare, e)) = inr (
      λ q m.
          case_on (nat_lt k q)
          (λ e. let u : k < q = ltb-true k q e in none q (omega arith) (omega arith))
          (λ e. let u : q ≤ k = ltb-false k q e in bare q u),
      e,
    )

-- the three places of i, for a fact on `if between k hi i then .. else ..`
by_place : (P : Interval → Type 0) (k hi i : ℕ) (w r : Interval) → (i < k → P r) → (k ≤ i → i < hi → P w) → (hi ≤ i → P r) → P (if between k hi i then w else r)
by_place P k hi i w r below inside above =
    case_on (nat_le k i)
    (λ e. let ki : k ≤ i = leb-true k i e in case_on (nat_lt i hi)
    (λ f. rw (e, f) (inside ki (ltb-true i hi f)))
    (λ f. rw (e, f) (above (ltb-false i hi f))))
    (λ e. let ik : i < k = leb-false k i e in rw e (below ik))

-- another interval at a key
pub set_interval : (m n : BTreeMap ℕ Interval) → IsOrdered nat_cmp m → IsOrdered nat_cmp n → (k hi : ℕ) (w v : Interval) → Updates nat_cmp m n k (Some w) → get nat_cmp m hi ≡ Some v → k < hi → NoKeyIn m (k + 1) hi → (i : ℕ) → interval_at n.entries i ≡ (if between k hi i then w else interval_at m.entries i)
set_interval m n om on k hi w v u at_hi l none i =
    let o = others_of m n k (Some w) u in
    interval_at_from n on i (if between k hi i then w else interval_at m.entries i)
    (by_place (IntervalIs (get nat_cmp n) i None) k hi i w (interval_at m.entries i)
    (λ ik. stays_below (get nat_cmp m) (get nat_cmp n) k o i (interval_at m.entries i) ik (interval_at_is m om i))
    (λ ki ih. set_between (get nat_cmp m) (get nat_cmp n) k o i hi w ki ih u.1 (λ q a b. none q (omega arith) b))
    (λ hi_i. stays_above (get nat_cmp m) (get nat_cmp n) k o i hi (interval_at m.entries i) v l hi_i at_hi (interval_at_is m om i)))

-- a key less
pub join_interval : (m n : BTreeMap ℕ Interval) → IsOrdered nat_cmp m → IsOrdered nat_cmp n → (k hi b : ℕ) (v : Interval) → Updates nat_cmp m n k None → k ≡ b + 1 → get nat_cmp m hi ≡ Some v → k < hi → NoKeyIn m (k + 1) hi → (i : ℕ) → interval_at n.entries i ≡ (if between k hi i then interval_at m.entries b else interval_at m.entries i)
join_interval m n om on k hi b v u kb at_hi l none i =
    let o = others_of m n k None u in
    interval_at_from n on i (if between k hi i then interval_at m.entries b else interval_at m.entries i)
    (by_place (IntervalIs (get nat_cmp n) i None) k hi i (interval_at m.entries b) (interval_at m.entries i)
    (λ ik. stays_below (get nat_cmp m) (get nat_cmp n) k o i (interval_at m.entries i) ik (interval_at_is m om i))
    (λ ki ih. joins_between (get nat_cmp m) (get nat_cmp n) k o i hi b (interval_at m.entries b) kb ki ih u.1 (λ q a c. none q (omega arith) c) (interval_at_is m om b))
    (λ hi_i. stays_above (get nat_cmp m) (get nat_cmp n) k o i hi (interval_at m.entries i) v l hi_i at_hi (interval_at_is m om i)))

-- ---- one step of the overwriting
some_of : {X : Type 0} (o : Option X) → IsSome o → (x : X) × (o ≡ Some x)
some_of None h = cc
some_of (Some x) h = (x, refl)

and_true : (b c : Bool) → c ≡ true → (b && c) ≡ b
and_true true c e = e
and_true false c e = refl

-- where the interval at k loses, the place where it ends is a key
pub end_is_key : (m : BTreeMap ℕ Interval) → IsOrdered nat_cmp m → (v k next end : ℕ) → k < next → next ≤ end → NoKeyIn m (k + 1) next → is_under v (interval_at m.entries k) ≡ true → (is_under v (interval_at m.entries (end - 1)) ≡ true → ContainsKey nat_cmp m end) → (next < end → ContainsKey nat_cmp m next) → ContainsKey nat_cmp m next
end_is_key m s v k next end kn ne none under stop key =
    case_on (nat_lt next end)
    (λ e. key (ltb-true next end e))
    (λ e. let l : end ≤ next = ltb-false next end e in
    let same : end ≡ next = omega arith in
    let last : interval_at m.entries (end - 1) ≡ interval_at m.entries k = same_interval m s k next (end - 1) none (omega arith) (omega arith) in
    subst (λ (x : ℕ). ContainsKey nat_cmp m x) same (stop (ap (is_under v) last ∙ under)))

pub step_by_put : (m n : BTreeMap ℕ Interval) → IsOrdered nat_cmp m → IsOrdered nat_cmp n → (k next : ℕ) (w : Interval) (won : Bool) → won ≡ true → Updates nat_cmp m n k (Some w) → ContainsKey nat_cmp m next → k < next → NoKeyIn m (k + 1) next → (i : ℕ) → interval_at n.entries i ≡ (if between k next i && won then w else interval_at m.entries i)
step_by_put m n om on k next w won so u key l none i =
    let at_next = some_of (get nat_cmp m next) key in
    set_interval m n om on k next w at_next.0 u at_next.1 l none i ∙ ap (λ (b : Bool). if b then w else interval_at m.entries i) (sym (and_true (between k next i) won so))

pub step_by_remove : (m n : BTreeMap ℕ Interval) → IsOrdered nat_cmp m → IsOrdered nat_cmp n → (k next : ℕ) (w : Interval) (won : Bool) → won ≡ true → Updates nat_cmp m n k None → 0 < k → interval_at m.entries (k - 1) ≡ w → ContainsKey nat_cmp m next → k < next → NoKeyIn m (k + 1) next → (i : ℕ) → interval_at n.entries i ≡ (if between k next i && won then w else interval_at m.entries i)
step_by_remove m n om on k next w won so u pos before key l none i =
    let at_next = some_of (get nat_cmp m next) key in
    join_interval m n om on k next (k - 1) at_next.0 u (omega arith) at_next.1 l none i
    ∙ ap (λ (x : Interval). if between k next i then x else interval_at m.entries i) before
    ∙ ap (λ (b : Bool). if b then w else interval_at m.entries i) (sym (and_true (between k next i) won so))

-- a key that was put in, or was not, and was taken out copied, or was not
pub put_back : (m n n2 o : BTreeMap ℕ Interval) (k : ℕ) (fresh : Bool) → IsOrdered nat_cmp m → ((q : ℕ) → q ≢ k → get nat_cmp n q ≡ get nat_cmp m q) → (fresh ≡ true → get nat_cmp m k ≡ None) → (fresh ≢ true → n.entries ≡ m.entries) → n2.entries ≡ n.entries → (fresh ≡ true → Updates nat_cmp n2 o k None × IsOrdered nat_cmp o) → (fresh ≢ true → o.entries ≡ n2.entries) → o.entries ≡ m.entries
put_back m n n2 o k true om others absent unchanged err out stayed =
    let u = out refl in
    undone m n2 o k None om u.1 (absent refl) (λ q ne. ap (λ (es : List (ℕ × Interval)). lookup (is_at (nat_cmp q)) es) err ∙ others q ne) u.0
put_back m n n2 o k false om others absent unchanged err out stayed =
    let no : false ≢ true = λ e. cc in stayed no ∙ err ∙ unchanged no
