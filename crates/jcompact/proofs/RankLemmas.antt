-- Nodes in the order in which they count.
use Rattle.std.proofs.Common.{◌≡◌, ◌≢◌, ℕ, ◌+◌, ◌*◌, ◌<◌, ◌≤◌, Bool, true, false, cond, List, [], ◌∷◌, length, get_or, Option, Some, None, refl, ap, sym, subst, ◌∙◌, arith, inl, inr, ⊎_elim}
use Rattle.std.specs.Prelude.{◌⊎◌, ◌&&◌, ◌||◌, ◌==◌, nat_lt, nat_le, not, Contains, is_some}
use Rattle.std.specs.List.{All, AllPairs, list_any}
use Rattle.std.specs.Borrow.{Bor}
use Rattle.std.specs.Ordering.{eq_by_cmp, is_lt, nat_cmp}
use Rattle.std.specs.BTreeMap.{BTreeMap, get}
use Rattle.std.specs.Cmp.{nat_cmp_is, unsigned_tied}
use Rattle.std.specs.declared.cmp.Ordering.TheVariants.{Less}
use Rattle.std.proofs.lemmas.Bool.{true≢false, false≢true, eqb-true, eq-eqb, ltb-true, ltb-false, leb-true, le-leb}
use Rattle.std.proofs.lemmas.Bool.Decides.{nat_tests}
use Rattle.std.proofs.lemmas.List.{get_or_default}
use Rattle.std.proofs.lemmas.List.Elements.{All-contains, Contains-get_or}
use Rattle.std.proofs.lemmas.Option.{same_Some}
use Rattle.flashbase.proofs.MemberLemmas.{Contains-here, Contains-there}
use Rattle.jname.proofs.ContentsByNameLemmas.{by_test}
use Rattle.jname.proofs.LiveLemmas.{both_true, some_of}
use Rattle.jmount.specs.StateOf.{version_of}
use Rattle.jcompact.specs.Matters.{Placed, is_above, counts_above, is_for_same, is_newest}
use Rattle.jcompact.specs.Taking.{AreUntaken, IsNext, among, node_rank}
use Rattle.jcompact.proofs.TopLemmas.{any_from, any_of, none_any, both, either_true, left_or, right_or}

-- ---- tests

pub same_test : (a b : Bool) → (a ≡ true → b ≡ true) → (b ≡ true → a ≡ true) → a ≡ b
same_test true b h k = sym (h refl)
same_test false true h k = k refl
same_test false false h k = refl

pub and_false : (b : Bool) → (b && false) ≡ false
and_false true = refl
and_false false = refl

pub and_true : (b : Bool) → (b && true) ≡ b
and_true true = refl
and_true false = refl

pub any_same : {X : Type 0} (p q : X → Bool) (xs : List X) → ((x : X) → Contains xs x → p x ≡ q x) → list_any p xs ≡ list_any q xs
any_same p q [] h = refl
any_same p q (x ∷ xs) h = λ i. h x (Contains-here x xs) i || any_same p q xs (λ y c. h y (Contains-there x xs y c)) i

above_rank : (v w a b : ℕ) → a < 4294967296 → b < 4294967296 → (nat_lt w v || ((v == w) && nat_lt b a)) ≡ nat_lt (w * 4294967296 + b) (v * 4294967296 + a)
above_rank v w a b small less = by (nat_lt w v) (nat_lt v w) refl refl
  where
    by : (x y : Bool) → nat_lt w v ≡ x → nat_lt v w ≡ y → (nat_lt w v || ((v == w) && nat_lt b a)) ≡ nat_lt (w * 4294967296 + b) (v * 4294967296 + a)
    by true y e d = grind (arith, nat_tests)
    by false true e d = grind (arith, nat_tests)
    by false false e d =
        let same : v ≡ w = grind (arith, nat_tests) in
        grind (arith, nat_tests)

moved : (a b c d : Bool) → b ≡ d → ((a && b) && c) ≡ (d && (a && c))
moved true b c d e = ap (λ (x : Bool). x && c) e
moved false b c d e = sym (and_false d)

turned : (a b d : Bool) → b ≡ d → (a && b) ≡ (d && a)
turned true b d e = e ∙ sym (and_true d)
turned false b d e = sym (and_false d)

-- ---- nodes by address

module _ (ns : List Placed) (ascending : AllPairs (λ m n. m.0 < n.0) ns) where
  pub one_address : (m n : Placed) → Contains ns m → Contains ns n → m.0 ≡ n.0 → m ≡ n
  one_address m n (j, j_in, at_j) (k, k_in, at_k) e = by (nat_lt j k) (nat_lt k j) refl refl
    where
      here : get_or ns k m ≡ n
      here = get_or_default ns k m n k_in ∙ at_k

      by : (x y : Bool) → nat_lt j k ≡ x → nat_lt k j ≡ y → m ≡ n
      by true y p q =
          let less : (get_or ns j m).0 < (get_or ns k m).0 = ascending j k m (ltb-true j k p) k_in in
          let first : (get_or ns j m).0 ≡ m.0 = ap (λ (x : Placed). x.0) at_j in
          let last : (get_or ns k m).0 ≡ n.0 = ap (λ (x : Placed). x.0) here in
          absurd (omega (arith, less, first, last, e))
      by false true p q =
          let less : (get_or ns k m).0 < (get_or ns j m).0 = ascending k j m (ltb-true k j q) j_in in
          let first : (get_or ns j m).0 ≡ m.0 = ap (λ (x : Placed). x.0) at_j in
          let last : (get_or ns k m).0 ≡ n.0 = ap (λ (x : Placed). x.0) here in
          absurd (omega (arith, less, first, last, e))
      by false false p q =
          let same : j ≡ k = omega (arith, ltb-false j k p, ltb-false k j q) in
          sym at_j ∙ ap (λ (i : ℕ). get_or ns i m) same ∙ here

  module _ (small : All (λ n. n.0 < 4294967296) ns) where
    pub address_of : (n : Placed) → Contains ns n → n.0 < 4294967296
    address_of n c = All-contains (λ (x : Placed). x.0 < 4294967296) ns n small c

    pub one_rank : (m n : Placed) → Contains ns m → Contains ns n → node_rank m ≡ node_rank n → m ≡ n
    one_rank m n cm cn e =
        let a : m.0 < 4294967296 = address_of m cm in
        let b : n.0 < 4294967296 = address_of n cn in
        let same : m.0 ≡ n.0 = omega (arith, a, b, e) in
        one_address m n cm cn same

    -- ---- the next one

    module _ (floor : ℕ) (x : Placed) (next : IsNext ns floor x) where
      pub among_more : (p : Placed → Bool) → among ns (node_rank x) p ≡ (p x || among ns floor p)
      among_more p = same_test (among ns (node_rank x) p) (p x || among ns floor p) forth back
        where
          at : (n : Placed) → Contains ns n → node_rank x ≤ node_rank n → p n ≡ true → (b : Bool) → nat_lt (node_rank n) floor ≡ b → (p x || among ns floor p) ≡ true
          at n c most is true e = left_or (p x) (among ns floor p) (ap p (sym (next.only n c most (ltb-true _ _ e))) ∙ is)
          at n c most is false e =
              right_or (p x) (among ns floor p)
              (any_of (λ (m : Placed). nat_le floor (node_rank m) && p m) ns n c (both (nat_le floor (node_rank n)) (p n) (le-leb _ _ (ltb-false _ _ e)) is))

          forth : among ns (node_rank x) p ≡ true → (p x || among ns floor p) ≡ true
          forth h =
              let found = any_from (λ (m : Placed). nat_le (node_rank x) (node_rank m) && p m) ns h in
              let parts = both_true (nat_le (node_rank x) (node_rank found.0)) (p found.0) found.2 in
              at found.0 found.1 (leb-true _ _ parts.0) parts.1 (nat_lt (node_rank found.0) floor) refl

          back : (p x || among ns floor p) ≡ true → among ns (node_rank x) p ≡ true
          back h =
              ⊎_elim
              (λ is. any_of (λ (m : Placed). nat_le (node_rank x) (node_rank m) && p m) ns x next.there (both (nat_le (node_rank x) (node_rank x)) (p x) (le-leb (node_rank x) (node_rank x) (omega arith)) is))
              (λ later.
              let found = any_from (λ (m : Placed). nat_le floor (node_rank m) && p m) ns later in
              let parts = both_true (nat_le floor (node_rank found.0)) (p found.0) found.2 in
              let high : floor ≤ node_rank found.0 = leb-true _ _ parts.0 in
              any_of (λ (m : Placed). nat_le (node_rank x) (node_rank m) && p m) ns found.0 found.1
              (both (nat_le (node_rank x) (node_rank found.0)) (p found.0) (le-leb (node_rank x) (node_rank found.0) (omega (arith, high, next.lower))) parts.1))
              (either_true (p x) (among ns floor p) h)

      above_is : (m : Placed) → Contains ns m → is_above m x ≡ nat_le floor (node_rank m)
      above_is m c =
          above_rank (version_of m.1) (version_of x.1) m.0 x.0 (address_of m c) (address_of x next.there)
          ∙ same_test (nat_lt (node_rank x) (node_rank m)) (nat_le floor (node_rank m))
          (λ h.
          by_test (nat_lt (node_rank m) floor)
          (λ low.
          let same : node_rank m ≡ node_rank x = ap node_rank (next.only m c (omega (arith, ltb-true _ _ h)) (ltb-true _ _ low)) in
          absurd (omega (arith, ltb-true _ _ h, same)))
          (λ high. le-leb _ _ (ltb-false _ _ high)))
          (λ h. let less : node_rank x < node_rank m = omega (arith, leb-true _ _ h, next.lower) in grind (arith, nat_tests))

      pub counted : (q : Placed → Bool) → list_any (λ m. counts_above m x && q m) ns ≡ among ns floor (λ m. is_for_same m.1 x.1 && q m)
      counted q =
          any_same (λ (m : Placed). counts_above m x && q m) (λ (m : Placed). nat_le floor (node_rank m) && (is_for_same m.1 x.1 && q m)) ns
          (λ m c. moved (is_for_same m.1 x.1) (is_above m x) (q m) (nat_le floor (node_rank m)) (above_is m c))

      pub newest_is : is_newest ns x ≡ not (among ns floor (λ m. is_for_same m.1 x.1))
      newest_is =
          ap not
          (any_same (λ (m : Placed). counts_above m x) (λ (m : Placed). nat_le floor (node_rank m) && is_for_same m.1 x.1) ns
          (λ m c. turned (is_for_same m.1 x.1) (is_above m x) (nat_le floor (node_rank m)) (above_is m c)))

pub among_same : (ns : List Placed) (floor : ℕ) (p q : Placed → Bool) → ((m : Placed) → Contains ns m → p m ≡ q m) → among ns floor p ≡ among ns floor q
among_same ns floor p q h =
    any_same (λ (m : Placed). nat_le floor (node_rank m) && p m) (λ (m : Placed). nat_le floor (node_rank m) && q m) ns (λ m c. ap (λ (b : Bool). nat_le floor (node_rank m) && b) (h m c))

-- above all ranks there is none
pub none_yet : (ns : List Placed) (floor : ℕ) (p : Placed → Bool) → All (λ n. node_rank n < floor) ns → among ns floor p ≡ false
none_yet ns floor p low =
    none_any (λ (m : Placed). nat_le floor (node_rank m) && p m) ns
    (λ m c.
    let less : node_rank m < floor = All-contains (λ (n : Placed). node_rank n < floor) ns m low c in
    let is : nat_le floor (node_rank m) ≡ false = grind (arith, nat_tests) in
    ap (λ (b : Bool). b && p m) is)

-- ---- those that are left

pub none_are_left : (ns : List Placed) (floor : ℕ) (left : BTreeMap ℕ (Bor Placed)) (p : Placed → Bool) → AreUntaken ns floor left → ((k : ℕ) → get nat_cmp left k ≡ None)
    → among ns floor p ≡ list_any p ns
none_are_left ns floor left p are none =
    any_same (λ (m : Placed). nat_le floor (node_rank m) && p m) p ns
    (λ m c.
    by_test (nat_lt (node_rank m) floor)
    (λ low. absurd (false≢true (ap is_some (sym (none (node_rank m))) ∙ are.each m c (ltb-true _ _ low))))
    (λ high. ap (λ (b : Bool). b && p m) (le-leb _ _ (ltb-false _ _ high))))

abbrev pub TakesOut : BTreeMap ℕ (Bor Placed) → BTreeMap ℕ (Bor Placed) → ℕ → Type 0
TakesOut old new k = (q : ℕ) → get nat_cmp new q ≡ cond (eq_by_cmp nat_cmp k q) None (get nat_cmp old q)

lt_is : (k q : ℕ) → is_lt (nat_cmp k q) ≡ false → q ≤ k
lt_is k q h = by_test (nat_lt k q) (λ t. absurd (true≢false (ap is_lt (nat_cmp_is k q Less (ltb-true _ _ t)) ∙ h))) (λ f. ltb-false _ _ f)

out_cases : (b : Bool) (o : Option (Bor Placed)) (n : Bor Placed) → cond b None o ≡ Some n → (b ≡ false) × (o ≡ Some n)
out_cases true o n e = absurd (false≢true (ap is_some e))
out_cases false o n e = (refl, e)

module _ (ns : List Placed) (floor : ℕ) (old new : BTreeMap ℕ (Bor Placed)) (k : ℕ) (x : Bor Placed) (are : AreUntaken ns floor old) (there : get nat_cmp old k ≡ Some x)
    (greatest : (q : ℕ) → is_some (get nat_cmp old q) ≡ true → is_lt (nat_cmp k q) ≡ false) where
  pub last_is_next : AllPairs (λ m n. m.0 < n.0) ns → All (λ n. n.0 < 4294967296) ns → IsNext ns floor x.now
  last_is_next ascending small =
      let is = are.only k x there in
      let same : node_rank x.now ≡ k = is.1 in
      record {
        there = is.0;
        lower = omega (arith, same, is.2);
        only = λ n c most low.
            let up : node_rank n ≤ k = lt_is k (node_rank n) (greatest (node_rank n) (are.each n c low)) in
            one_rank ns ascending small n x.now c is.0 (omega (arith, up, most, same));
      }

  pub last_is_out : TakesOut old new k → AreUntaken ns (node_rank x.now) new
  last_is_out out =
      let same : node_rank x.now ≡ k = (are.only k x there).1 in
      let low : k < floor = (are.only k x there).2 in
      record {
        each = λ n c less.
            let other : (k == node_rank n) ≡ false = grind (arith, nat_tests) in
            ap is_some (out (node_rank n) ∙ ap (λ (b : Bool). cond b None (get nat_cmp old (node_rank n))) (unsigned_tied k (node_rank n) ∙ other)) ∙ are.each n c (omega (arith, less, same, low));
        only = λ q n e.
            let cases = out_cases (eq_by_cmp nat_cmp k q) (get nat_cmp old q) n (sym (out q) ∙ e) in
            let was = are.only q n cases.1 in
            let up : q ≤ k = lt_is k q (greatest q (ap is_some cases.1)) in
            let other : (k == q) ≡ false = sym (unsigned_tied k q) ∙ cases.0 in
            let less : q < node_rank x.now = grind (arith, nat_tests) in
            (was.0, was.1, less);
      }

-- of the nodes the first were put into the map
pub record AreRanked (ns : List Placed) (done : ℕ) (left : BTreeMap ℕ (Bor Placed)) : Type 0 where
  pub each : (k : ℕ) (d : Placed) → k < done → is_some (get nat_cmp left (node_rank (get_or ns k d))) ≡ true
  pub only : (k : ℕ) (n : Bor Placed) → get nat_cmp left k ≡ Some n → Contains ns n.now × (node_rank n.now ≡ k) × (k < 18446744073709551616)
  pub small : (k : ℕ) (d : Placed) → k < done → (get_or ns k d).0 < 4294967296
  pub low : (k : ℕ) (d : Placed) → k < done → node_rank (get_or ns k d) < 18446744073709551616

abbrev pub PutsIn : BTreeMap ℕ (Bor Placed) → BTreeMap ℕ (Bor Placed) → ℕ → Bor Placed → Type 0
PutsIn old new k x = (q : ℕ) → get nat_cmp new q ≡ cond (eq_by_cmp nat_cmp k q) (Some x) (get nat_cmp old q)

pub each_more : {X : Type 0} (P : X → Type 0) (xs : List X) (i : ℕ) (e : X) → i < length xs → ((k : ℕ) (d : X) → k < i → P (get_or xs k d)) → P (get_or xs i e)
    → (k : ℕ) (d : X) → k < i + 1 → P (get_or xs k d)
each_more {X} P xs i e less before here k d below = by (nat_lt k i) refl
  where
    by : (b : Bool) → nat_lt k i ≡ b → P (get_or xs k d)
    by true lower = before k d (ltb-true _ _ lower)
    by false last =
        let same : i ≡ k = omega (arith, ltb-false _ _ last) in
        subst (λ (n : ℕ). P (get_or xs n d)) same (subst P (get_or_default xs i e d less) here)

is_some_cond : (b : Bool) (x : Bor Placed) (o : Option (Bor Placed)) → is_some o ≡ true → is_some (cond b (Some x) o) ≡ true
is_some_cond true x o h = refl
is_some_cond false x o h = h

in_cases : (b : Bool) (x : Bor Placed) (o : Option (Bor Placed)) (n : Bor Placed) → cond b (Some x) o ≡ Some n → ((b ≡ true) × (x ≡ n)) ⊎ (o ≡ Some n)
in_cases true x o n e = inl (refl, same_Some x n e)
in_cases false x o n e = inr e

pub none_ranked : (ns : List Placed) (left : BTreeMap ℕ (Bor Placed)) → ((k : ℕ) → get nat_cmp left k ≡ None) → AreRanked ns 0 left
none_ranked ns left none = record {
  each = λ k d less. absurd (omega (arith, less));
  only = λ k n e. absurd (false≢true (ap is_some (sym (none k) ∙ e)));
  small = λ k d less. absurd (omega (arith, less));
  low = λ k d less. absurd (omega (arith, less));
}

one_ranked : (ns : List Placed) (i : ℕ) (old new : BTreeMap ℕ (Bor Placed)) (k : ℕ) (x : Bor Placed) (e : Placed) → i < length ns → x.now ≡ get_or ns i e → k ≡ node_rank (get_or ns i e)
    → k < 18446744073709551616 → (get_or ns i e).0 < 4294967296 → PutsIn old new k x → AreRanked ns i old → AreRanked ns (i + 1) new
one_ranked ns i old new k x e less is key top small puts are = record {
  each = each_more (λ (n : Placed). is_some (get nat_cmp new (node_rank n)) ≡ true) ns i e less
      (λ q d before. ap is_some (puts (node_rank (get_or ns q d))) ∙ is_some_cond (eq_by_cmp nat_cmp k (node_rank (get_or ns q d))) x (get nat_cmp old (node_rank (get_or ns q d))) (are.each q d before))
      (ap is_some
      (puts (node_rank (get_or ns i e))
      ∙ ap (λ (b : Bool). cond b (Some x) (get nat_cmp old (node_rank (get_or ns i e)))) (unsigned_tied k (node_rank (get_or ns i e)) ∙ eq-eqb _ _ key)));
  only = λ q n at.
      ⊎_elim
      (λ here.
      let same : k ≡ q = eqb-true k q (sym (unsigned_tied k q) ∙ here.0) in
      let node : n.now ≡ get_or ns i e = ap (λ (b : Bor Placed). b.now) (sym here.1) ∙ is in (
        subst (Contains ns) (sym node) (Contains-get_or ns i e less),
        ap node_rank node ∙ sym key ∙ same,
        subst (λ (j : ℕ). j < 18446744073709551616) same top,
      ))
      (λ before. are.only q n before)
      (in_cases (eq_by_cmp nat_cmp k q) x (get nat_cmp old q) n (sym (puts q) ∙ at));
  small = each_more (λ (n : Placed). n.0 < 4294967296) ns i e less are.small small;
  low = each_more (λ (n : Placed). node_rank n < 18446744073709551616) ns i e less are.low (subst (λ (j : ℕ). j < 18446744073709551616) key top);
}

pub item_ranked : (ns : List Placed) (i : ℕ) (old new : BTreeMap ℕ (Bor Placed)) (k : ℕ) (x : Bor Placed) (y : Placed) → i < length ns → x.now ≡ y → y ≡ get_or ns i y → k ≡ node_rank y
    → k < 18446744073709551616 → y.0 < 4294967296 → PutsIn old new k x → AreRanked ns i old → AreRanked ns (i + 1) new
item_ranked ns i old new k x y less is at key top small puts are =
    one_ranked ns i old new k x y less (is ∙ at) (key ∙ ap node_rank at) top (subst (λ (n : Placed). n.0 < 4294967296) at small) puts are

pub all_ranked : (ns : List Placed) (done : ℕ) (left : BTreeMap ℕ (Bor Placed)) → length ns ≤ done → AreRanked ns done left → AreUntaken ns 18446744073709551616 left
all_ranked ns done left all are = record {
  each = λ n c less.
      subst (λ (m : Placed). is_some (get nat_cmp left (node_rank m)) ≡ true) c.2 (are.each c.0 n (let within : c.0 < length ns = c.1 in omega (arith, within, all)));
  only = are.only;
}
