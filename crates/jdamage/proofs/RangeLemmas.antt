-- The ranges of lost nodes, and which sound versions matter beside them.
use Rattle.std.proofs.Common.{◌≡◌, ℕ, zero, suc, ◌+◌, ◌-◌, ◌<◌, ◌≤◌, Bool, true, false, cond, List, [], ◌∷◌, ◌++◌, length, get_or, refl, sym, ap, subst, ◌∙◌, arith, ◌⊎◌, inl, inr, Some, None, Option, Result, Ok, Err}
use Rattle.std.specs.Prelude.{Vec, ◌==◌, ◌&&◌, ◌||◌, nat_lt, nat_le, min, max, filter, filter_map, option_to_list, Contains, IfOk, OnOk}
use Rattle.std.specs.List.{list_any, list_all}
use Rattle.std.specs.List.Sorted.{IsNonDecreasingBy, IsPermutation, IsPartitionPoint}
use Rattle.std.specs.BTreeMap.{BTreeMap, get}
use Rattle.std.specs.BTreeSet.{BTreeSet}
use Rattle.std.specs.Map.{lookup}
use Rattle.std.specs.Ordering.{nat_cmp, eq_by_cmp}
use Rattle.std.specs.Cmp.{unsigned_tied}
use Rattle.std.proofs.lemmas.Bool.{true≢false, false≢true, eqb-true, leb-true, leb-false, ltb-true, ltb-false, le-leb}
use Rattle.std.proofs.lemmas.Bool.Decides.{nat_tests}
use Rattle.std.proofs.lemmas.Option.{same_Some}
use Rattle.std.proofs.lemmas.List.{length_push, get_or_append_left, get_or_push, get_or_default}
use Rattle.std.proofs.lemmas.List.Elements.{Contains-get_or, Contains-append_left, Contains-push, Contains-push_cases, filter-append}
use Rattle.std.proofs.lemmas.List.Sorted.{Contains-permutation, IsPermutation-sym}
use Rattle.std.proofs.lemmas.List.Folds.{Any-from_list_any, list_any-from_Any, list_all-append}
use Rattle.jgaps.proofs.NodeLemmas.{head_first}
use Rattle.flashbase.specs.Lists.{below}
use Rattle.flashbase.proofs.MemberLemmas.{Contains-none, Contains-here, Contains-there, Contains-cases, Contains-filter_map}
use Rattle.jnode.specs.declared.order.Endian.{Endian}
use Rattle.jnode.specs.declared.node.Damage.{Damage}
use Rattle.jgaps.specs.Gaps.{has_place}
use Rattle.jdamage.specs.Coverage.{hides_nothing, is_not_older, is_replaced, is_replaced_below}
use Rattle.jmount.specs.Mount.{Mount}
use Rattle.jdamage.specs.Damage.{size_at}
use Rattle.jgaps.specs.Fields.{stretch_at}
use Rattle.jdamage.specs.Hidden.{AreHidden}
use Rattle.jdamage.specs.Ranges.{FindsAll, HasHigher, KeepsWhatMatters, Sifted, TouchesOne, higher_version, range_if, range_of}
use Rattle.jdamage.specs.Sweep.{spot}
use Rattle.jgaps.specs.declared.fields.Stretch.{Stretch}

-- ---- ranges with the greatest end up to each

pub record Reached (ranges found : List (ℕ × ℕ)) (i far : ℕ) : Type 0 where
  pub long : length found ≡ i
  pub starts : (k : ℕ) → k < i → (get_or found k (0, 0)).0 ≡ (get_or ranges k (0, 0)).0
  pub ends : (j k : ℕ) → j ≤ k → k < i → (get_or ranges j (0, 0)).1 ≤ (get_or found k (0, 0)).1
  pub most : (j : ℕ) → j < i → (get_or ranges j (0, 0)).1 ≤ far
  pub real : (k : ℕ) → k < i → (j : ℕ) × (j ≤ k) × ((get_or ranges j (0, 0)).1 ≡ (get_or found k (0, 0)).1)
  pub farthest : (0 < i → (j : ℕ) × (j < i) × ((get_or ranges j (0, 0)).1 ≡ far)) × (i ≡ 0 → far ≡ 0)

pub reached_none : (ranges : List (ℕ × ℕ)) → Reached ranges [] 0 0
reached_none ranges = record {
  long = refl;
  starts = λ k less. absurd (omega (arith, less));
  ends = λ j k most less. absurd (omega (arith, less));
  most = λ j less. absurd (omega (arith, less));
  real = λ k less. absurd (omega (arith, less));
  farthest = (λ some. absurd (omega (arith, some)), λ is. refl);
}

pub reached_more : (ranges found new : List (ℕ × ℕ)) (i far farther : ℕ) (x : ℕ × ℕ) → Reached ranges found i far → x ≡ get_or ranges i (0, 0) → farther ≡ max far x.1
    → new ≡ found ++ (x.0, farther) ∷ [] → Reached ranges new (i + 1) farther
reached_more ranges found new i far farther x r is more added = record {
  long = ap length added ∙ length_push found (x.0, farther) ∙ ap (λ (n : ℕ). n + 1) r.long;
  starts = λ k less. by_start k less (nat_lt k i) refl;
  ends = λ j k most less. by_end j k most less (nat_lt k i) refl;
  most = λ j less. by_most j less (nat_lt j i) refl;
  real = λ k less. by_real k less (nat_lt k i) refl;
  farthest = (λ some. end_real, λ none. absurd (omega (arith, none)));
}
  where
    end_real : (j : ℕ) × (j < i + 1) × ((get_or ranges j (0, 0)).1 ≡ farther)
    end_real = by (nat_le far x.1) refl
      where
        some : nat_le far x.1 ≡ false → (b : Bool) → nat_lt 0 i ≡ b → 0 < i
        some e true is = ltb-true _ _ is
        some e false is = let none : i ≡ 0 = omega (arith, ltb-false _ _ is) in absurd (omega (arith, leb-false _ _ e, r.farthest.1 none))

        by : (b : Bool) → nat_le far x.1 ≡ b → (j : ℕ) × (j < i + 1) × ((get_or ranges j (0, 0)).1 ≡ farther)
        by true e = let end : x.1 ≡ farther = omega (arith, leb-true _ _ e, more) in (i, omega arith, ap (λ (y : ℕ × ℕ). y.1) (sym is) ∙ end)
        by false e = let was = r.farthest.0 (some e (nat_lt 0 i) refl) in (was.0, omega (arith, was.1), omega (arith, was.2, leb-false _ _ e, more))

    older : (k : ℕ) → k < i → get_or new k (0, 0) ≡ get_or found k (0, 0)
    older k less = ap (λ (l : List (ℕ × ℕ)). get_or l k (0, 0)) added ∙ get_or_append_left found ((x.0, farther) ∷ []) (0, 0) k (omega (arith, less, r.long))

    last : get_or new i (0, 0) ≡ (x.0, farther)
    last = ap (λ (l : List (ℕ × ℕ)). get_or l i (0, 0)) added ∙ get_or_push found (x.0, farther) (0, 0) i r.long

    farthest : (j : ℕ) → j < i + 1 → (get_or ranges j (0, 0)).1 ≤ farther
    farthest j less = by (nat_lt j i) refl
      where
        by : (b : Bool) → nat_lt j i ≡ b → (get_or ranges j (0, 0)).1 ≤ farther
        by true e = omega (arith, r.most j (ltb-true _ _ e), more)
        by false e =
            let same : j ≡ i = omega (arith, ltb-false _ _ e, less) in
            let end : (get_or ranges j (0, 0)).1 ≡ x.1 = ap (λ (k : ℕ). (get_or ranges k (0, 0)).1) same ∙ ap (λ (y : ℕ × ℕ). y.1) (sym is) in
            omega (arith, end, more)

    by_start : (k : ℕ) → k < i + 1 → (b : Bool) → nat_lt k i ≡ b → (get_or new k (0, 0)).0 ≡ (get_or ranges k (0, 0)).0
    by_start k less true e = ap (λ (y : ℕ × ℕ). y.0) (older k (ltb-true _ _ e)) ∙ r.starts k (ltb-true _ _ e)
    by_start k less false e =
        let same : k ≡ i = omega (arith, ltb-false _ _ e, less) in
        ap (λ (n : ℕ). (get_or new n (0, 0)).0) same ∙ ap (λ (y : ℕ × ℕ). y.0) last ∙ ap (λ (y : ℕ × ℕ). y.0) is ∙ ap (λ (n : ℕ). (get_or ranges n (0, 0)).0) (sym same)

    by_end : (j k : ℕ) → j ≤ k → k < i + 1 → (b : Bool) → nat_lt k i ≡ b → (get_or ranges j (0, 0)).1 ≤ (get_or new k (0, 0)).1
    by_end j k most less true e =
        let was = r.ends j k most (ltb-true _ _ e) in
        let same = ap (λ (y : ℕ × ℕ). y.1) (older k (ltb-true _ _ e)) in
        omega (arith, was, same)
    by_end j k most less false e =
        let same : k ≡ i = omega (arith, ltb-false _ _ e, less) in
        let end : (get_or new k (0, 0)).1 ≡ farther = ap (λ (n : ℕ). (get_or new n (0, 0)).1) same ∙ ap (λ (y : ℕ × ℕ). y.1) last in
        omega (arith, farthest j (omega (arith, most, less)), end)

    by_real : (k : ℕ) → k < i + 1 → (b : Bool) → nat_lt k i ≡ b → (j : ℕ) × (j ≤ k) × ((get_or ranges j (0, 0)).1 ≡ (get_or new k (0, 0)).1)
    by_real k less true e =
        let was = r.real k (ltb-true _ _ e) in
        (was.0, was.1, was.2 ∙ ap (λ (y : ℕ × ℕ). y.1) (sym (older k (ltb-true _ _ e))))
    by_real k less false e =
        let same : k ≡ i = omega (arith, ltb-false _ _ e, less) in
        let end : (get_or new k (0, 0)).1 ≡ farther = ap (λ (n : ℕ). (get_or new n (0, 0)).1) same ∙ ap (λ (y : ℕ × ℕ). y.1) last in
        (end_real.0, omega (arith, end_real.1, same), end_real.2 ∙ sym end)

    by_most : (j : ℕ) → j < i + 1 → (b : Bool) → nat_lt j i ≡ b → (get_or ranges j (0, 0)).1 ≤ farther
    by_most j less b e = farthest j less

pub reached_all : (ranges found : List (ℕ × ℕ)) (i far : ℕ) → Reached ranges found i far → i ≡ length ranges → IsNonDecreasingBy (λ r. r.0) ranges → FindsAll ranges found
reached_all ranges found i far r whole ascends = record {
  ascend = λ j k d most less.
      let low : k < i = omega (arith, less, r.long) in
      let first : get_or found j d ≡ get_or found j (0, 0) = get_or_default found j d (0, 0) (omega (arith, most, less)) in
      let second : get_or found k d ≡ get_or found k (0, 0) = get_or_default found k d (0, 0) less in
      let order = ascends j k (0, 0) most (omega (arith, low, whole)) in
      let a = ap (λ (y : ℕ × ℕ). y.0) first ∙ r.starts j (omega (arith, most, low)) in
      let b = ap (λ (y : ℕ × ℕ). y.0) second ∙ r.starts k low in
      omega (arith, order, a, b);
  each = λ x there.
      let k = there.0 in
      let low : k < i = omega (arith, there.1, whole) in
      let is : get_or ranges k (0, 0) ≡ x = get_or_default ranges k (0, 0) x there.1 ∙ there.2 in
      let start : (get_or found k (0, 0)).0 ≡ x.0 = r.starts k low ∙ ap (λ (y : ℕ × ℕ). y.0) is in (
        k,
        omega (arith, low, r.long),
        omega (arith, start),
        λ j most less.
            let end = r.ends k j most (omega (arith, less, r.long)) in
            omega (arith, end, ap (λ (y : ℕ × ℕ). y.1) is),
      );
  real = λ k less.
      let low : k < i = omega (arith, less, r.long) in
      let from = r.real k low in
      let order = ascends from.0 k (0, 0) from.1 (omega (arith, low, whole)) in
      (get_or ranges from.0 (0, 0), Contains-get_or ranges from.0 (0, 0) (omega (arith, from.1, low, whole)), omega (arith, order, r.starts k low), from.2);
}

-- in whatever order the lost ones are
pub finds_moved : (lost sorted found : List (ℕ × ℕ)) → IsPermutation lost sorted → FindsAll sorted found → FindsAll lost found
finds_moved lost sorted found moved f = record {
  ascend = f.ascend;
  each = λ r there. f.each r (Contains-permutation lost sorted r moved there);
  real = λ k less. let from = f.real k less in (from.0, Contains-permutation sorted lost from.0 (IsPermutation-sym lost sorted moved) from.1, from.2, from.3);
}

pub if_found : {A : Type 0} {Y : Type 0} (r : Result (Vec (ℕ × ℕ) A) Y) (ranges lost sorted : List (ℕ × ℕ)) → ranges ≡ sorted → IsPermutation lost sorted
    → IfOk r (λ found. FindsAll ranges found.items) → IfOk r (λ found. FindsAll lost found.items)
if_found (Ok found) ranges lost sorted is moved f = finds_moved lost sorted found.items moved (subst (λ (l : List (ℕ × ℕ)). FindsAll l found.items) is f)
if_found (Err why) ranges lost sorted is moved f = f

-- where one is touched, one of those that begin up to an end ends no earlier than a start
pub found_there : (lost ranges : List (ℕ × ℕ)) (from to count : ℕ) → FindsAll lost ranges → IsPartitionPoint (λ r. nat_le r.0 to ≡ true) (λ r. nat_le r.0 to ≡ false) ranges count → count ≤ length ranges
    → (r : ℕ × ℕ) → Contains lost r → r.0 ≤ to → from ≤ r.1 → (0 < count) × (from ≤ (get_or ranges (count - 1) (0, 0)).1)
found_there lost ranges from to count f point inside r there low high =
    let found = f.each r there in
    let k = found.0 in
    let before : k < count = by k found.1 (omega (arith, found.2, low)) (nat_lt k count) refl in
    let end = found.3 (count - 1) (omega (arith, before)) (omega (arith, before, inside)) in
    (omega (arith, before), omega (arith, end, high))
  where
    by : (k : ℕ) → k < length ranges → (get_or ranges k (0, 0)).0 ≤ to → (b : Bool) → nat_lt k count ≡ b → k < count
    by k less first true e = ltb-true _ _ e
    by k less first false e = absurd (true≢false (sym (le-leb _ to first) ∙ point.1 k (0, 0) (ltb-false _ _ e) less))

pub touched : (lost ranges : List (ℕ × ℕ)) (s : Stretch) (from to begin count : ℕ) → FindsAll lost ranges → (IsNonDecreasingBy (λ r. r.0) ranges → IsPartitionPoint (λ r. nat_le r.0 to ≡ true) (λ r. nat_le r.0 to ≡ false) ranges count)
    → count ≤ length ranges → to ≡ spot s.ino s.to → from ≡ spot s.ino begin → begin ≡ s.from → TouchesOne lost s → (0 < count) × (from ≤ (get_or ranges (count - 1) (0, 0)).1)
touched lost ranges s from to begin count f point inside ends starts begins t =
    let first : from ≡ spot s.ino s.from = starts ∙ ap (spot s.ino) begins in
    found_there lost ranges from to count f (point f.ascend) inside t.0 t.1 (subst (λ (n : ℕ). t.0.0 ≤ n) (sym ends) t.2) (subst (λ (n : ℕ). n ≤ t.0.1) (sym first) t.3)

-- and where one of these ends no earlier, one is touched
pub touched_one : (lost ranges : List (ℕ × ℕ)) (s : Stretch) (from to begin count k : ℕ) → FindsAll lost ranges → (IsNonDecreasingBy (λ r. r.0) ranges → IsPartitionPoint (λ r. nat_le r.0 to ≡ true) (λ r. nat_le r.0 to ≡ false) ranges count)
    → count ≤ length ranges → to ≡ spot s.ino s.to → from ≡ spot s.ino begin → begin ≡ s.from → 0 < count → k ≡ count - 1 → nat_le from (get_or ranges k (0, 0)).1 ≡ true → TouchesOne lost s
touched_one lost ranges s from to begin count k f point inside ends starts begins some is high =
    let before : k < count = omega (arith, some, is) in
    let real = f.real k (omega (arith, before, inside)) in
    let low = leb-true _ _ ((point f.ascend).0 k (0, 0) (omega arith) before) in
    let first : from ≡ spot s.ino s.from = starts ∙ ap (spot s.ino) begins in
    (real.0, real.1, omega (arith, real.2, low, ends), omega (arith, real.3, leb-true _ _ high, first))

-- ---- sifting

abbrev is_one : Option Stretch → Bool
is_one None = false
is_one (Some x) = true

pub sifted_none : (lost : List (ℕ × ℕ)) (all : List Stretch) (tops : BTreeMap ℕ Stretch) → tops.entries ≡ [] → Sifted lost all all [] tops
sifted_none lost all tops none = record {
  rest_within = λ s there. there;
  within = λ s there. absurd (Contains-none s there);
  tops_within = λ i t is. absurd (false≢true (none_is t (sym (ap (λ (es : List (ℕ × Stretch)). lookup (eq_by_cmp nat_cmp i) es) none) ∙ is)));
  each = λ s there. inl there;
}
  where
    none_is : (t : Stretch) → None ≡ Some t → false ≡ true
    none_is t is = ap is_one is

higher_high : (o : Option Stretch) (x : Stretch) → x.version ≤ (higher_version o x).version
higher_high None x = omega arith
higher_high (Some t) x = by (nat_le x.version t.version) refl
  where
    by : (b : Bool) → nat_le x.version t.version ≡ b → x.version ≤ (cond b t x).version
    by true e = leb-true _ _ e
    by false e = omega arith

higher_old : (t x : Stretch) → t.version ≤ (higher_version (Some t) x).version
higher_old t x = by (nat_le x.version t.version) refl
  where
    by : (b : Bool) → nat_le x.version t.version ≡ b → t.version ≤ (cond b t x).version
    by true e = omega arith
    by false e = omega (arith, leb-false _ _ e)

-- it is the one or the other
higher_is : (o : Option Stretch) (x : Stretch) → (o ≡ Some (higher_version o x)) ⊎ (higher_version o x ≡ x)
higher_is None x = inr refl
higher_is (Some t) x = by (nat_le x.version t.version)
  where
    by : (b : Bool) → (Some t ≡ Some (cond b t x)) ⊎ (cond b t x ≡ x)
    by true = inl refl
    by false = inr refl

module _ (lost : List (ℕ × ℕ)) (all rest found new : List Stretch) (tops more : BTreeMap ℕ Stretch) (x : Stretch) (s : Sifted lost all (x ∷ rest) found tops)
    (grows : (y : Stretch) → Contains found y → Contains new y) (only : (y : Stretch) → Contains new y → Contains found y ⊎ (x ≡ y)) (has : TouchesOne lost x → Contains new x)
    (noted : (i : ℕ) → get nat_cmp more i ≡ cond (x.ino == i) (Some (higher_version (get nat_cmp tops i) x)) (get nat_cmp tops i)) where
  x_there : Contains all x
  x_there = s.rest_within x (Contains-here x rest)

  noted_at : (i : ℕ) → x.ino ≡ i → get nat_cmp more i ≡ Some (higher_version (get nat_cmp tops i) x)
  noted_at i is = noted i ∙ ap (λ (b : Bool). cond b (Some (higher_version (get nat_cmp tops i) x)) (get nat_cmp tops i)) (same x.ino i is)
    where
      same : (a b : ℕ) → a ≡ b → (a == b) ≡ true
      same a b is = grind (arith, nat_tests)

  tops_in : (i : ℕ) (t : Stretch) → get nat_cmp more i ≡ Some t → Contains all t × (t.ino ≡ i)
  tops_in i t is = by (x.ino == i) refl
    where
      on : (h : Stretch) → h ≡ t → (get nat_cmp tops i ≡ Some h) ⊎ (h ≡ x) → x.ino ≡ i → Contains all t × (t.ino ≡ i)
      on h here (inl old) same = subst (λ (y : Stretch). Contains all y × (y.ino ≡ i)) here (s.tops_within i h old)
      on h here (inr new) same = subst (λ (y : Stretch). Contains all y × (y.ino ≡ i)) (sym new ∙ here) (x_there, same)

      by : (b : Bool) → (x.ino == i) ≡ b → Contains all t × (t.ino ≡ i)
      by true e =
          let same : x.ino ≡ i = eqb-true _ _ e in
          on (higher_version (get nat_cmp tops i) x) (same_Some _ _ (sym (noted_at i same) ∙ is)) (higher_is (get nat_cmp tops i) x) same
      by false e = s.tops_within i t (sym (noted i ∙ ap (λ (b : Bool). cond b (Some (higher_version (get nat_cmp tops i) x)) (get nat_cmp tops i)) e) ∙ is)

  has_higher : (y : Stretch) → HasHigher found tops y → HasHigher new more y
  has_higher y (t, inl there, same, less) = (t, inl (grows t there), same, less)
  has_higher y (t, inr there, same, less) = by (x.ino == y.ino) refl
    where
      is : (b : Bool) → (x.ino == y.ino) ≡ b → get nat_cmp more y.ino ≡ cond b (Some (higher_version (Some t) x)) (Some t)
      is b e =
          noted y.ino ∙ ap (λ (o : Option Stretch). cond (x.ino == y.ino) (Some (higher_version o x)) o) there
          ∙ ap (λ (c : Bool). cond c (Some (higher_version (Some t) x)) (Some t)) e

      of_both : (h : Stretch) → h ≡ higher_version (Some t) x → (Some t ≡ Some h) ⊎ (h ≡ x) → x.ino ≡ y.ino → h.ino ≡ y.ino
      of_both h e (inl old) of_x = ap (λ (z : Stretch). z.ino) (sym (same_Some _ _ old)) ∙ same
      of_both h e (inr new) of_x = ap (λ (z : Stretch). z.ino) new ∙ of_x

      by : (b : Bool) → (x.ino == y.ino) ≡ b → HasHigher new more y
      by true e = (
        higher_version (Some t) x,
        inr (is true e),
        of_both (higher_version (Some t) x) refl (higher_is (Some t) x) (eqb-true _ _ e),
        omega (arith, less, higher_old t x),
      )
      by false e = (t, inr (is false e), same, less)

  x_higher : HasHigher new more x
  x_higher = (higher_version (get nat_cmp tops x.ino) x, inr (noted_at x.ino refl), of_both (higher_version (get nat_cmp tops x.ino) x) (higher_is (get nat_cmp tops x.ino) x), higher_high (get nat_cmp tops x.ino) x)
    where
      of_both : (h : Stretch) → (get nat_cmp tops x.ino ≡ Some h) ⊎ (h ≡ x) → h.ino ≡ x.ino
      of_both h (inl old) = (s.tops_within x.ino h old).1
      of_both h (inr new) = ap (λ (z : Stretch). z.ino) new

  pub sifted_more : Sifted lost all rest new more
  sifted_more = record {
    rest_within = λ y there. s.rest_within y (Contains-there x rest y there);
    within = λ y there. of_new y (only y there);
    tops_within = tops_in;
    each = λ y there. on y (s.each y there);
  }
    where
      of_new : (y : Stretch) → Contains found y ⊎ (x ≡ y) → Contains all y
      of_new y (inl old) = s.within y old
      of_new y (inr new) = subst (Contains all) new x_there

      on_rest : (y : Stretch) → (x ≡ y) ⊎ Contains rest y → Contains rest y ⊎ ((TouchesOne lost y → Contains new y) × HasHigher new more y)
      on_rest y (inl is) = inr (subst (λ (z : Stretch). (TouchesOne lost z → Contains new z) × HasHigher new more z) is (has, x_higher))
      on_rest y (inr there) = inl there

      on : (y : Stretch) → Contains (x ∷ rest) y ⊎ ((TouchesOne lost y → Contains found y) × HasHigher found tops y) → Contains rest y ⊎ ((TouchesOne lost y → Contains new y) × HasHigher new more y)
      on y (inl left) = on_rest y (Contains-cases x rest y left)
      on y (inr (touching, higher)) = inr (λ t. grows y (touching t), has_higher y higher)

-- a version that may touch is added, and one that touches none is not
pub sifted_pushed : (lost : List (ℕ × ℕ)) (all rest found new : List Stretch) (tops more : BTreeMap ℕ Stretch) (x : Stretch) → Sifted lost all (x ∷ rest) found tops → new ≡ found ++ x ∷ []
    → ((i : ℕ) → get nat_cmp more i ≡ cond (x.ino == i) (Some (higher_version (get nat_cmp tops i) x)) (get nat_cmp tops i)) → Sifted lost all rest new more
sifted_pushed lost all rest found new tops more x s added noted =
    sifted_more lost all rest found new tops more x s
    (λ y there. subst (λ (l : List Stretch). Contains l y) (sym added) (Contains-append_left found (x ∷ []) y there))
    (λ y there. Contains-push_cases found x y (subst (λ (l : List Stretch). Contains l y) added there))
    (λ t. subst (λ (l : List Stretch). Contains l x) (sym added) (Contains-push found x)) noted

pub sifted_passed : (lost : List (ℕ × ℕ)) (all rest found : List Stretch) (tops more : BTreeMap ℕ Stretch) (x : Stretch) → Sifted lost all (x ∷ rest) found tops → (TouchesOne lost x → false ≡ true)
    → ((i : ℕ) → get nat_cmp more i ≡ cond (x.ino == i) (Some (higher_version (get nat_cmp tops i) x)) (get nat_cmp tops i)) → Sifted lost all rest found more
sifted_passed lost all rest found tops more x s none noted =
    sifted_more lost all rest found found tops more x s (λ y there. there) (λ y there. inl there) (λ t. absurd (false≢true (none t))) noted

-- one of the highest versions goes to those found
pub sifted_popped : (lost : List (ℕ × ℕ)) (all found new : List Stretch) (tops less : BTreeMap ℕ Stretch) (i : ℕ) (x : Stretch) → Sifted lost all [] found tops → new ≡ found ++ x ∷ []
    → get nat_cmp tops i ≡ Some x → ((k : ℕ) → get nat_cmp less k ≡ cond (eq_by_cmp nat_cmp i k) None (get nat_cmp tops k)) → Sifted lost all [] new less
sifted_popped lost all found new tops less i x s added is gone = record {
  rest_within = s.rest_within;
  within = λ y there. of_new y (Contains-push_cases found x y (subst (λ (l : List Stretch). Contains l y) added there));
  tops_within = λ k t there. s.tops_within k t (was k t (eq_by_cmp nat_cmp i k) refl there);
  each = λ y there. on y (s.each y there);
}
  where
    of_new : (y : Stretch) → Contains found y ⊎ (x ≡ y) → Contains all y
    of_new y (inl old) = s.within y old
    of_new y (inr same) = subst (Contains all) same (s.tops_within i x is).0

    was : (k : ℕ) (t : Stretch) (b : Bool) → eq_by_cmp nat_cmp i k ≡ b → get nat_cmp less k ≡ Some t → get nat_cmp tops k ≡ Some t
    was k t true e there = absurd (false≢true (ap is_one (sym (gone k ∙ ap (λ (b : Bool). cond b None (get nat_cmp tops k)) e) ∙ there)))
    was k t false e there = sym (gone k ∙ ap (λ (b : Bool). cond b None (get nat_cmp tops k)) e) ∙ there

    grows : (y : Stretch) → Contains found y → Contains new y
    grows y there = subst (λ (l : List Stretch). Contains l y) (sym added) (Contains-append_left found (x ∷ []) y there)

    has : Contains new x
    has = subst (λ (l : List Stretch). Contains l x) (sym added) (Contains-push found x)

    higher : (y : Stretch) → HasHigher found tops y → HasHigher new less y
    higher y (t, inl there, same, most) = (t, inl (grows t there), same, most)
    higher y (t, inr there, same, most) = by (i == y.ino) refl
      where
        by : (b : Bool) → (i == y.ino) ≡ b → HasHigher new less y
        by true e =
            let at : i ≡ y.ino = eqb-true _ _ e in
            let it : x ≡ t = same_Some _ _ (sym is ∙ ap (get nat_cmp tops) at ∙ there) in
            (t, inl (subst (Contains new) it has), same, most)
        by false e = (t, inr (gone y.ino ∙ ap (λ (b : Bool). cond b None (get nat_cmp tops y.ino)) (unsigned_tied i y.ino ∙ e) ∙ there), same, most)

    on : (y : Stretch) → Contains [] y ⊎ ((TouchesOne lost y → Contains found y) × HasHigher found tops y) → Contains [] y ⊎ ((TouchesOne lost y → Contains new y) × HasHigher new less y)
    on y (inl left) = inl left
    on y (inr (touching, most)) = inr (λ t. grows y (touching t), higher y most)

pub sifted_all : (lost : List (ℕ × ℕ)) (all found : List Stretch) (tops : BTreeMap ℕ Stretch) → Sifted lost all [] found tops → tops.entries ≡ [] → KeepsWhatMatters lost all found
sifted_all lost all found tops s none = record {
  within = s.within;
  touching = λ y there t. (at y (s.each y there)).0 t;
  highest = λ y there. of_found y ((at y (s.each y there)).1);
}
  where
    at : (y : Stretch) → Contains [] y ⊎ ((TouchesOne lost y → Contains found y) × HasHigher found tops y) → (TouchesOne lost y → Contains found y) × HasHigher found tops y
    at y (inl left) = absurd (Contains-none y left)
    at y (inr both) = both

    of_found : (y : Stretch) → HasHigher found tops y → (t : Stretch) × Contains found t × (t.ino ≡ y.ino) × (y.version ≤ t.version)
    of_found y (t, inl there, same, most) = (t, there, same, most)
    of_found y (t, inr there, same, most) = absurd (false≢true (ap is_one (sym (ap (λ (es : List (ℕ × Stretch)). lookup (eq_by_cmp nat_cmp y.ino) es) none) ∙ there)))

pub on_both : {X Y : Type 0} (r : Result X Y) (P Q : Type 0) → (P → Q) → OnOk r P → OnOk r Q
on_both (Ok x) P Q f a = f a
on_both (Err y) P Q f a = a

pub no_entries : (tops : BTreeMap ℕ Stretch) → (0 < length tops.entries → false ≡ true) → tops.entries ≡ []
no_entries tops none = by tops.entries none
  where
    by : (es : List (ℕ × Stretch)) → (0 < length es → false ≡ true) → es ≡ []
    by [] none = refl
    by (e ∷ es) none = absurd (false≢true (none (omega arith)))

pub sifted_start : (lost : List (ℕ × ℕ)) (all rest found : List Stretch) (tops : BTreeMap ℕ Stretch) → rest ≡ all → found ≡ [] → tops.entries ≡ [] → Sifted lost all rest found tops
sifted_start lost all rest found tops same none empty =
    subst (λ (l : List Stretch). Sifted lost all l found tops) (sym same) (subst (λ (l : List Stretch). Sifted lost all all l tops) (sym none) (sifted_none lost all tops empty))

-- one node is seen, or none is left
pub sifted_next : {X : Type 0} (h : X → Option Stretch) (p : Stretch → Bool) (lost : List (ℕ × ℕ)) (all found : List Stretch) (tops : BTreeMap ℕ Stretch) (left rest : List X) (x : X) → left ≡ x ∷ rest
    → Sifted lost all (filter p (filter_map h left)) found tops → Sifted lost all (filter p (option_to_list (h x)) ++ filter p (filter_map h rest)) found tops
sifted_next {X} h p lost all found tops left rest x is s =
    subst (λ (l : List Stretch). Sifted lost all l found tops)
    (ap (λ (l : List X). filter p (filter_map h l)) is ∙ ap (filter p) (head_first h x rest) ∙ filter-append p (option_to_list (h x)) (filter_map h rest)) s

pub sifted_end : {X : Type 0} (h : X → Option Stretch) (p : Stretch → Bool) (lost : List (ℕ × ℕ)) (all found : List Stretch) (tops : BTreeMap ℕ Stretch) (left : List X) → left ≡ []
    → Sifted lost all (filter p (filter_map h left)) found tops → Sifted lost all [] found tops
sifted_end {X} h p lost all found tops left is s = subst (λ (l : List X). Sifted lost all (filter p (filter_map h l)) found tops) is s

-- ---- what was left out does not count

module _ (lost : Stretch) (ranges : List (ℕ × ℕ)) (all found : List Stretch) (k : KeepsWhatMatters ranges all found) (there : Contains ranges (range_of lost)) where
  -- a test that what was found passes where all do
  same_any : (p : Stretch → Bool) → ((y : Stretch) → Contains all y → p y ≡ true → (z : Stretch) × Contains found z × (p z ≡ true)) → list_any p found ≡ list_any p all
  same_any p stands = by (list_any p found) (list_any p all) refl refl
    where
      -- (an element's place in one list is not that in the other)
      up : list_any p found ≡ true → list_any p all ≡ true
      up is = let a = Any-from_list_any p found is in let c = k.within a.1 (a.0, a.2, a.3) in list_any-from_Any p all (c.0, a.1, c.1, c.2, a.4)

      down : list_any p all ≡ true → list_any p found ≡ true
      down is = let a = Any-from_list_any p all is in let z = stands a.1 (a.0, a.2, a.3) a.4 in list_any-from_Any p found (z.1.0, z.0, z.1.1, z.1.2, z.2)

      by : (a b : Bool) → list_any p found ≡ a → list_any p all ≡ b → list_any p found ≡ list_any p all
      by true b e d = e ∙ sym (up e)
      by false true e d = absurd (false≢true (sym e ∙ down d))
      by false false e d = e ∙ sym d

  both_true : (a b : Bool) → (a && b) ≡ true → (a ≡ true) × (b ≡ true)
  both_true true b is = (refl, is)
  both_true false b is = absurd (false≢true is)

  not_older_found : list_any (is_not_older lost) found ≡ list_any (is_not_older lost) all
  not_older_found = same_any (is_not_older lost) (λ y in_all is. stands y (k.highest y in_all) (both_true (y.ino == lost.ino) (nat_le lost.version y.version) is))
    where
      stands : (y : Stretch) → (t : Stretch) × Contains found t × (t.ino ≡ y.ino) × (y.version ≤ t.version) → ((y.ino == lost.ino) ≡ true) × (nat_le lost.version y.version ≡ true)
          → (z : Stretch) × Contains found z × (is_not_older lost z ≡ true)
      stands y (t, in_found, same, most) (ino, version) = (t, in_found, yes)
        where
          number : t.ino ≡ lost.ino
          number = same ∙ eqb-true _ _ ino

          high : lost.version ≤ t.version
          high = omega (arith, most, leb-true _ _ version)

          yes : is_not_older lost t ≡ true
          yes = grind (arith, nat_tests)

  -- a version that gives a place of the lost range touches it
  replaced_found : (place : ℕ) → lost.from ≤ place → place < lost.to → is_replaced found lost place ≡ is_replaced all lost place
  unfolding is_replaced
  replaced_found place from to =
      same_any (λ s. is_not_older lost s && has_place place s)
      (λ y in_all is. (y, k.touching y in_all (touching y (both_true (is_not_older lost y) (has_place place y) is)), is))
    where
      touching : (y : Stretch) → (is_not_older lost y ≡ true) × (has_place place y ≡ true) → TouchesOne ranges y
      touching y (newer, has) =
          let ino : y.ino ≡ lost.ino = eqb-true _ _ (both_true (y.ino == lost.ino) (nat_le lost.version y.version) newer).0 in
          let low : y.from ≤ place = leb-true _ _ (both_true (nat_le y.from place) (nat_lt place y.to) has).0 in
          let high : place < y.to = ltb-true _ _ (both_true (nat_le y.from place) (nat_lt place y.to) has).1 in
          (range_of lost, there, omega (arith, ino, from, high), omega (arith, ino, low, to))

  below_found : (n : ℕ) → n ≤ lost.to → list_all (λ place. nat_lt place lost.from || is_replaced found lost place) (below n) ≡ list_all (λ place. nat_lt place lost.from || is_replaced all lost place) (below n)
  below_found zero most = refl
  below_found (suc n) most =
      list_all-append (λ place. nat_lt place lost.from || is_replaced found lost place) (below n) (n ∷ [])
      ∙ ap (λ (b : Bool). b && list_all (λ place. nat_lt place lost.from || is_replaced found lost place) (n ∷ [])) (below_found n (omega (arith, most)))
      ∙ ap (λ (b : Bool). list_all (λ place. nat_lt place lost.from || is_replaced all lost place) (below n) && (b && true)) (at n (omega (arith, most)))
      ∙ sym (list_all-append (λ place. nat_lt place lost.from || is_replaced all lost place) (below n) (n ∷ []))
    where
      at : (place : ℕ) → place < lost.to → (nat_lt place lost.from || is_replaced found lost place) ≡ (nat_lt place lost.from || is_replaced all lost place)
      at place less = by (nat_lt place lost.from) refl
        where
          by : (b : Bool) → nat_lt place lost.from ≡ b → (b || is_replaced found lost place) ≡ (b || is_replaced all lost place)
          by true e = refl
          by false e = replaced_found place (ltb-false _ _ e) less

  pub hidden_found : (size : ℕ) → hides_nothing found size lost ≡ hides_nothing all size lost
  unfolding hides_nothing is_replaced_below
  hidden_found size =
      ap (λ (b : Bool). b && list_all (λ place. nat_lt place lost.from || is_replaced found lost place) (below (min lost.to size))) not_older_found
      ∙ ap (λ (b : Bool). list_any (is_not_older lost) all && b) (below_found (min lost.to size) (omega arith))

-- of each damaged node
pub all_found : (e : Endian) (m : Mount) (hidden : BTreeSet ℕ) (all found : List Stretch) (ds : List (ℕ × Damage)) → KeepsWhatMatters (filter_map (range_if e m.image) ds) all found
    → AreHidden e m found hidden ds → AreHidden e m all hidden ds
all_found e m hidden all found ds k right i d less is =
    right i d less is ∙ hidden_found lost (filter_map (range_if e m.image) ds) all found k there (size_at m.state lost.ino)
  where
    it : ℕ × Damage
    it = get_or ds i d

    lost : Stretch
    lost = stretch_at e m.image it.0

    there : Contains (filter_map (range_if e m.image) ds) (range_of lost)
    there = Contains-filter_map (range_if e m.image) ds it (range_of lost) (Contains-get_or ds i d less) (ap (λ (w : Damage). range_if e m.image (it.0, w)) is)
