-- The interval that a place lies in, from what the map has at each key.
use Rattle.std.proofs.Common.{◌≡◌, ◌≢◌, ℕ, ◌+◌, ◌<◌, ◌≤◌, Bool, true, false, ◌⊎◌, inl, inr, List, [], ◌∷◌, refl, sym, ap, subst, arith, Some, None, Option, ◌∙◌}
use Rattle.std.specs.Prelude.{nat_lt}
use Rattle.std.specs.Ordering.{nat_cmp, is_eq}
use Rattle.std.specs.declared.cmp.Ordering.TheVariants.{Less, Equal, Greater}
use Rattle.std.specs.Cmp.{nat_cmp_total, nat_cmp_is, eq_by_cmp_equiv}
use Rattle.std.specs.Map.{lookup, keys_of}
use Rattle.std.specs.List.Sorted.{IsStrictlySortedBy}
use Rattle.std.specs.BTreeMap.{BTreeMap, get, is_at, IsOrdered}
use Rattle.std.proofs.lemmas.Bool.{ltb-true, ltb-false}
use Rattle.std.proofs.lemmas.Map.{lookup-none}
use Rattle.std.proofs.lemmas.Map.Entries.{lookup_head, lookup_tail, none_past_head, none_below_head}
use Rattle.std.proofs.lemmas.Map.Keys.{sorted_tail, IsDistinct-from_sorted}
use Rattle.jfrag.specs.IntervalMap.{Interval, interval_from, interval_at}

pub case_on : {P : Type 0} (b : Bool) → (b ≡ true → P) → (b ≡ false → P) → P
case_on true f g = f refl
case_on false f g = g refl

-- one number is below, equal to or above another
pub three_ways : {P : Type 0} (a b : ℕ) → (a < b → P) → (a ≡ b → P) → (b < a → P) → P
three_ways a b f g h =
    case_on (nat_lt a b) (λ e. f (ltb-true a b e)) (λ e.
    case_on (nat_lt b a) (λ e2. h (ltb-true b a e2)) (λ e2.
    let l : b ≤ a = ltb-false a b e in let m : a ≤ b = ltb-false b a e2 in g (omega arith)))

-- what a list of entries has at a key
abbrev pub at : List (ℕ × Interval) → ℕ → Option Interval
at es q = lookup (is_at (nat_cmp q)) es

-- r is at the last key at or below i
abbrev pub Under : (ℕ → Option Interval) → ℕ → Interval → Type 0
Under f i r = (k : ℕ) × (k ≤ i) × (f k ≡ Some r) × ((q : ℕ) → k < q → q ≤ i → f q ≡ None)

-- no key is at or below i
abbrev pub Bare : (ℕ → Option Interval) → ℕ → Type 0
Bare f i = (q : ℕ) → q ≤ i → f q ≡ None

abbrev pub IntervalIs : (ℕ → Option Interval) → ℕ → Interval → Interval → Type 0
IntervalIs f i d r = Under f i r ⊎ (Bare f i × (r ≡ d))

is_less : (a b : ℕ) → a < b → nat_cmp a b ≡ Less
is_less a b l = sym (nat_cmp_is a b Less l)

pub not_at : (q k : ℕ) → q ≢ k → is_at (nat_cmp q) k ≡ false
not_at q k ne =
    three_ways q k
    (λ l. ap is_eq (is_less q k l))
    (λ e. absurd (ne e))
    (λ l. ap is_eq (sym (nat_cmp_is q k Greater l)))

is_here : (k : ℕ) → is_at (nat_cmp k) k ≡ true
is_here k = ap is_eq (sym (nat_cmp_is k k Equal refl))

pub no_some : {P : Type 0} {X : Type 0} (o : Option X) (x : X) → o ≡ None → o ≡ Some x → P
no_some o x e f = cc

pub below_head : (e : ℕ × Interval) (es : List (ℕ × Interval)) → IsStrictlySortedBy nat_cmp (keys_of (e ∷ es)) → (q : ℕ) → q < e.0 → at (e ∷ es) q ≡ None
below_head e es s q l = lookup-none (is_at (nat_cmp q)) (e ∷ es) (none_below_head nat_cmp_total q e es s (is_less q e.0 l))

pub at_tail : (e : ℕ × Interval) (es : List (ℕ × Interval)) (q : ℕ) → q ≢ e.0 → at (e ∷ es) q ≡ at es q
at_tail e es q ne = lookup_tail (is_at (nat_cmp q)) e es (not_at q e.0 ne)

pub at_head : (e : ℕ × Interval) (es : List (ℕ × Interval)) → at (e ∷ es) e.0 ≡ Some e.1
at_head e es = lookup_head (is_at (nat_cmp e.0)) e es (is_here e.0)

pub tail_bare : (e : ℕ × Interval) (es : List (ℕ × Interval)) → IsStrictlySortedBy nat_cmp (keys_of (e ∷ es)) → (q : ℕ) → q ≤ e.0 → at es q ≡ None
tail_bare e es s q l =
    three_ways q e.0
    (λ m. let ne : q ≢ e.0 = λ x. omega arith in sym (at_tail e es q ne) ∙ below_head e es s q m)
    (λ x. lookup-none (is_at (nat_cmp q)) es (none_past_head (eq_by_cmp_equiv nat_cmp_total) q e es (IsDistinct-from_sorted nat_cmp (keys_of (e ∷ es)) s) (rw x (is_here e.0))))
    (λ m. absurd (omega arith))

after_head : (e : ℕ × Interval) (es : List (ℕ × Interval)) → IsStrictlySortedBy nat_cmp (keys_of (e ∷ es)) → (i : ℕ) (d r : Interval) → e.0 ≤ i → IntervalIs (at es) i e.1 r → IntervalIs (at (e ∷ es)) i d r
after_head e es s i d r l (inl (k, ki, fk, above)) =
    three_ways e.0 k
    (λ m. inl (k, ki, at_tail e es k (λ x. omega arith) ∙ fk, λ q n o. at_tail e es q (λ x. omega arith) ∙ above q n o))
    (λ x. no_some (at es k) r (tail_bare e es s k (omega arith)) fk)
    (λ m. no_some (at es k) r (tail_bare e es s k (omega arith)) fk)
after_head e es s i d r l (inr (bare, same)) =
    inl (e.0, l, at_head e es ∙ ap (λ (x : Interval). Some x) (sym same), λ q n o. at_tail e es q (λ x. omega arith) ∙ bare q o)

pub interval_from_is : (es : List (ℕ × Interval)) → IsStrictlySortedBy nat_cmp (keys_of es) → (d : Interval) (i : ℕ) → IntervalIs (at es) i d (interval_from d es i)
interval_from_is [] s d i = inr (λ q l. refl, refl)
interval_from_is (e ∷ es) s d i =
    case_on (nat_lt i e.0)
    (λ f. let l : i < e.0 = ltb-true i e.0 f in rw f (inr (λ q m. below_head e es s q (omega arith), refl)))
    (λ f. let l : e.0 ≤ i = ltb-false i e.0 f in rw f (after_head e es s i d (interval_from e.1 es i) l (interval_from_is es (sorted_tail nat_cmp e.0 (keys_of es) s) e.1 i)))

pub some_same : {X : Type 0} (o : Option X) (x y : X) → o ≡ Some x → o ≡ Some y → x ≡ y
some_same o x y e f = cc

-- there is one such interval
pub one_interval : (f : ℕ → Option Interval) (i : ℕ) (d r s : Interval) → IntervalIs f i d r → IntervalIs f i d s → r ≡ s
one_interval f i d r s (inl (k, ki, fk, above)) (inl (j, ji, fj, over)) =
    three_ways k j
    (λ l. no_some (f j) s (above j l ji) fj)
    (λ e. some_same (f j) r s (subst (λ x. f x ≡ Some r) e fk) fj)
    (λ l. no_some (f k) r (over k l ki) fk)
one_interval f i d r s (inl (k, ki, fk, above)) (inr (bare, e)) = no_some (f k) r (bare k ki) fk
one_interval f i d r s (inr (bare, e)) (inl (k, ki, fk, above)) = no_some (f k) s (bare k ki) fk
one_interval f i d r s (inr (bare, e)) (inr (bare2, e2)) = e ∙ sym e2

pub interval_at_is : (m : BTreeMap ℕ Interval) → IsOrdered nat_cmp m → (i : ℕ) → IntervalIs (get nat_cmp m) i None (interval_at m.entries i)
interval_at_is m s i = interval_from_is m.entries s None i

pub interval_at_from : (m : BTreeMap ℕ Interval) → IsOrdered nat_cmp m → (i : ℕ) (r : Interval) → IntervalIs (get nat_cmp m) i None r → interval_at m.entries i ≡ r
interval_at_from m s i r h = one_interval (get nat_cmp m) i None (interval_at m.entries i) r (interval_at_is m s i) h

-- ---- a change at one key
module _ (f g : ℕ → Option Interval) (k : ℕ) (others : (q : ℕ) → q ≢ k → g q ≡ f q) where
  -- places below the key stay
  pub stays_below : (i : ℕ) (r : Interval) → i < k → IntervalIs f i None r → IntervalIs g i None r
  stays_below i r l (inl (j, ji, fj, above)) = inl (j, ji, others j (λ x. omega arith) ∙ fj, λ q m n. others q (λ x. omega arith) ∙ above q m n)
  stays_below i r l (inr (bare, e)) = inr (λ q m. others q (λ x. omega arith) ∙ bare q m, e)

  -- places from a later key on stay
  pub stays_above : (i hi : ℕ) (r v : Interval) → k < hi → hi ≤ i → f hi ≡ Some v → IntervalIs f i None r → IntervalIs g i None r
  stays_above i hi r v kh hi_i fh (inl (j, ji, fj, above)) =
      case_on (nat_lt j hi)
      (λ e. no_some (f hi) v (above hi (ltb-true j hi e) hi_i) fh)
      (λ e. let l : hi ≤ j = ltb-false j hi e in inl (j, ji, others j (λ x. omega arith) ∙ fj, λ q m n. others q (λ x. omega arith) ∙ above q m n))
  stays_above i hi r v kh hi_i fh (inr (bare, e)) = no_some (f hi) v (bare hi hi_i) fh

  -- places from the key to the next have what is set there
  pub set_between : (i hi : ℕ) (w : Interval) → k ≤ i → i < hi → g k ≡ Some w → ((q : ℕ) → k < q → q < hi → f q ≡ None) → IntervalIs g i None w
  set_between i hi w ki l gk none = inl (k, ki, gk, λ q m n. others q (λ x. omega arith) ∙ none q m (omega arith))

  -- where the key is taken out, the interval before it reaches to the next
  pub joins_between : (i hi b : ℕ) (r : Interval) → k ≡ b + 1 → k ≤ i → i < hi → g k ≡ None → ((q : ℕ) → k < q → q < hi → f q ≡ None) → IntervalIs f b None r → IntervalIs g i None r
  joins_between i hi b r kb ki l gk none (inl (j, ji, fj, above)) =
      inl (
        j,
        omega arith,
        others j (λ x. omega arith) ∙ fj,
        λ q m n.
            three_ways q k
            (λ u. others q (λ x. omega arith) ∙ above q m (omega arith))
            (λ u. ap g u ∙ gk)
            (λ u. others q (λ x. omega arith) ∙ none q u (omega arith)),
      )
  joins_between i hi b r kb ki l gk none (inr (bare, e)) =
      inr (
        λ q m.
            three_ways q k
            (λ u. others q (λ x. omega arith) ∙ bare q (omega arith))
            (λ u. ap g u ∙ gk)
            (λ u. others q (λ x. omega arith) ∙ none q u (omega arith)),
        e,
      )

  -- a new key, with the interval that its place lies in, changes nothing
  pub split_stays : (i : ℕ) (r v : Interval) → k ≤ i → f k ≡ None → g k ≡ Some v → IntervalIs f k None v → IntervalIs f i None r → IntervalIs g i None r
  split_stays i r v ki fk gk at_k (inl (j, ji, fj, above)) =
      three_ways j k
      (λ u. let same : v ≡ r = one_interval f k None v r at_k (inl (j, omega arith, fj, λ q m n. above q m (omega arith))) in
      inl (k, ki, gk ∙ ap (λ (x : Interval). Some x) same, λ q m n. others q (λ x. omega arith) ∙ above q (omega arith) n))
      (λ u. no_some (f j) r (ap f u ∙ fk) fj)
      (λ u. inl (j, ji, others j (λ x. omega arith) ∙ fj, λ q m n. others q (λ x. omega arith) ∙ above q m n))
  split_stays i r v ki fk gk at_k (inr (bare, e)) =
      let none_at_k : IntervalIs f k None None = inr (λ q m. bare q (omega arith), refl) in
      let same : v ≡ None = one_interval f k None v None at_k none_at_k in
      inl (k, ki, gk ∙ ap (λ (x : Interval). Some x) (same ∙ sym e), λ q m n. others q (λ x. omega arith) ∙ bare q n)
