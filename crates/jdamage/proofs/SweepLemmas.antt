-- What the versions have that were taken from the highest down.
use Rattle.std.proofs.Common.{◌≡◌, ℕ, zero, suc, ◌+◌, ◌-◌, ◌*◌, ◌<◌, ◌≤◌, Bool, true, false, cond, not, List, [], ◌∷◌, ◌++◌, length, get_or, refl, sym, ap, ◌∙◌, subst, arith, inl, inr, ◌⊎◌, Some, append_assoc}
use Rattle.std.specs.Prelude.{All, ◌==◌, ◌&&◌, ◌||◌, nat_lt, nat_le, min, slice_get}
use Rattle.std.specs.List.{list_any}
use Rattle.std.specs.Ordering.{eq_by_cmp, nat_cmp}
use Rattle.std.specs.Cmp.{unsigned_tied}
use Rattle.std.specs.BTreeSet.{BTreeSet, contains}
use Rattle.std.proofs.lemmas.Bool.{true≢false, false≢true, eqb-true, ltb-false}
use Rattle.std.proofs.lemmas.Bool.Decides.{nat_tests}
use Rattle.std.proofs.lemmas.Option.{same_Some}
use Rattle.std.proofs.lemmas.List.Elements.{All-head, All-tail}
use Rattle.std.proofs.lemmas.List.Folds.{list_any-append}
use Rattle.flashbase.specs.Lists.{below}
use Rattle.jgaps.specs.Gaps.{has_place}
use Rattle.jdamage.specs.Coverage.{hides_nothing, is_not_older, is_replaced, is_replaced_below}
use Rattle.jdamage.specs.Sweep.{AreBelow, Ascends, HaveEnds, Taken, has_spot, spot}
use Rattle.jgaps.specs.declared.fields.Stretch.{Stretch}
use Rattle.jdamage.proofs.CoverageLemmas.{all_below, not_below, lacks}

-- ---- spots

step_in : (f t c : ℕ) → (nat_le f c && nat_lt c t) ≡ true → ((nat_le f (c + 1) && nat_lt (c + 1) t) ≡ true) ⊎ (t ≡ c + 1)
step_in f t c held = by (nat_lt (c + 1) t) refl
  where
    by : (b : Bool) → nat_lt (c + 1) t ≡ b → ((nat_le f (c + 1) && nat_lt (c + 1) t) ≡ true) ⊎ (t ≡ c + 1)
    by true e = inl (grind (arith, nat_tests))
    by false e = inr (grind (arith, nat_tests))

or_later : (a b : Bool) → b ≡ true → (a || b) ≡ true
or_later true b is = refl
or_later false b is = is

or_first : (a b : Bool) → a ≡ true → (a || b) ≡ true
or_first true b is = refl
or_first false b is = absurd (false≢true is)

-- the next spot is had too, or is an end
next_covered : (spots : BTreeSet ℕ) (ss : List Stretch) (c : ℕ) → HaveEnds spots ss → list_any (has_spot c) ss ≡ true
    → (list_any (has_spot (c + 1)) ss ≡ true) ⊎ (contains nat_cmp spots (c + 1) ≡ true)
next_covered spots [] c ends has = absurd (false≢true has)
next_covered spots (s ∷ ss) c ends has = by (has_spot c s) refl has (next_covered spots ss c (All-tail (λ x. contains nat_cmp spots (spot x.ino x.to) ≡ true) s ss ends))
  where
    on : ((nat_le (spot s.ino s.from) (c + 1) && nat_lt (c + 1) (spot s.ino s.to)) ≡ true) ⊎ (spot s.ino s.to ≡ c + 1)
        → (list_any (has_spot (c + 1)) (s ∷ ss) ≡ true) ⊎ (contains nat_cmp spots (c + 1) ≡ true)
    on (inl held) = inl (or_first (has_spot (c + 1) s) (list_any (has_spot (c + 1)) ss) held)
    on (inr end) = inr (subst (λ (k : ℕ). contains nat_cmp spots k ≡ true) end (All-head (λ x. contains nat_cmp spots (spot x.ino x.to) ≡ true) s ss ends))

    later : (list_any (has_spot (c + 1)) ss ≡ true) ⊎ (contains nat_cmp spots (c + 1) ≡ true)
        → (list_any (has_spot (c + 1)) (s ∷ ss) ≡ true) ⊎ (contains nat_cmp spots (c + 1) ≡ true)
    later (inl held) = inl (or_later (has_spot (c + 1) s) (list_any (has_spot (c + 1)) ss) held)
    later (inr end) = inr end

    by : (b : Bool) → has_spot c s ≡ b → (b || list_any (has_spot c) ss) ≡ true
        → (list_any (has_spot c) ss ≡ true → (list_any (has_spot (c + 1)) ss ≡ true) ⊎ (contains nat_cmp spots (c + 1) ≡ true))
        → (list_any (has_spot (c + 1)) (s ∷ ss) ≡ true) ⊎ (contains nat_cmp spots (c + 1) ≡ true)
    by true e rest next = on (step_in (spot s.ino s.from) (spot s.ino s.to) c e)
    by false e rest next = later (next rest)

module _ (spots bare : BTreeSet ℕ) (ss : List Stretch) (are : (c : ℕ) → contains nat_cmp bare c ≡ (contains nat_cmp spots c && not (list_any (has_spot c) ss))) where
  spot_had : (c : ℕ) → contains nat_cmp spots c ≡ true → contains nat_cmp bare c ≡ false → list_any (has_spot c) ss ≡ true
  spot_had c there none = by (contains nat_cmp spots c) (list_any (has_spot c) ss) there (sym (are c) ∙ none)
    where
      by : (a b : Bool) → a ≡ true → (a && not b) ≡ false → b ≡ true
      by true true p q = refl
      by true false p q = absurd (true≢false q)
      by false b p q = absurd (false≢true p)

  pub bare_not_had : (c : ℕ) → contains nat_cmp bare c ≡ true → list_any (has_spot c) ss ≡ false
  bare_not_had c there = by (contains nat_cmp spots c) (list_any (has_spot c) ss) (sym (are c) ∙ there)
    where
      by : (a b : Bool) → (a && not b) ≡ true → b ≡ false
      by a false both = refl
      by true true both = absurd (false≢true both)
      by false true both = absurd (false≢true both)

  pub had_from : (from to : ℕ) → HaveEnds spots ss → contains nat_cmp spots from ≡ true → ((c : ℕ) → from ≤ c → c < to → contains nat_cmp bare c ≡ false)
      → (n : ℕ) → from + n < to → list_any (has_spot (from + n)) ss ≡ true
  had_from from to ends there none zero less =
      let same : from ≡ from + zero = omega arith in
      subst (λ (c : ℕ). list_any (has_spot c) ss ≡ true) same (spot_had from there (none from (omega arith) (omega (arith, less))))
  had_from from to ends there none (suc n) less =
      let same : from + n + 1 ≡ from + suc n = omega arith in
      subst (λ (c : ℕ). list_any (has_spot c) ss ≡ true) same (by (next_covered spots ss (from + n) ends (had_from from to ends there none n (omega (arith, less)))))
    where
      by : (list_any (has_spot (from + n + 1)) ss ≡ true) ⊎ (contains nat_cmp spots (from + n + 1) ≡ true) → list_any (has_spot (from + n + 1)) ss ≡ true
      by (inl had) = had
      by (inr end) = spot_had (from + n + 1) end (none (from + n + 1) (omega arith) (omega (arith, less)))

-- a place and its spot
numbers_at : (j i q f t : ℕ) → q < 4294967295
    → (nat_le (j * 4294967296 + min f 4294967295) (i * 4294967296 + q) && nat_lt (i * 4294967296 + q) (j * 4294967296 + min t 4294967295)) ≡ ((j == i) && (nat_le f q && nat_lt q t))
numbers_at j i q f t small = by (nat_lt j i) (nat_lt i j) refl refl
  where
    by : (a b : Bool) → nat_lt j i ≡ a → nat_lt i j ≡ b
        → (nat_le (j * 4294967296 + min f 4294967295) (i * 4294967296 + q) && nat_lt (i * 4294967296 + q) (j * 4294967296 + min t 4294967295)) ≡ ((j == i) && (nat_le f q && nat_lt q t))
    by true b e d = grind (arith, nat_tests)
    by false true e d = grind (arith, nat_tests)
    by false false e d =
        let same : j ≡ i = grind (arith, nat_tests) in
        grind (arith, nat_tests)

at_place : (i q : ℕ) (s : Stretch) → q < 4294967295 → has_spot (i * 4294967296 + q) s ≡ ((s.ino == i) && has_place q s)
at_place i q s small = numbers_at s.ino i q s.from s.to small

-- ---- versions that are left do not count

module _ (version : ℕ) (p q : Stretch → Bool) (none : (s : Stretch) → s.version < version → p s ≡ false) (same : (s : Stretch) → version ≤ s.version → p s ≡ q s) where
  none_left : (ss : List Stretch) → AreBelow version ss → list_any p ss ≡ false
  none_left [] below = refl
  none_left (s ∷ ss) below =
      ap (λ b. b || list_any p ss) (none s (All-head (λ x. x.version < version) s ss below)) ∙ none_left ss (All-tail (λ x. x.version < version) s ss below)

  same_taken : (ss : List Stretch) → All (λ s. version ≤ s.version) ss → list_any p ss ≡ list_any q ss
  same_taken [] high = refl
  same_taken (s ∷ ss) high =
      ap (λ b. b || list_any p ss) (same s (All-head (λ x. version ≤ x.version) s ss high)) ∙ ap (λ b. q s || b) (same_taken ss (All-tail (λ x. version ≤ x.version) s ss high))

  pub any_taken : (all left taken : List Stretch) → all ≡ left ++ taken → AreBelow version left → All (λ s. version ≤ s.version) taken → list_any p all ≡ list_any q taken
  any_taken all left taken split below high =
      ap (list_any p) split ∙ list_any-append p left taken ∙ ap (λ b. b || list_any p taken) (none_left left below) ∙ same_taken taken high

-- ---- whether the lost one is missed

module _ (lost : Stretch) (all left taken : List Stretch) (split : all ≡ left ++ taken) (below : AreBelow lost.version left) (high : All (λ s. lost.version ≤ s.version) taken) where
  older : (s : Stretch) → s.version < lost.version → is_not_older lost s ≡ false
  older s less = both (s.ino == lost.ino) (nat_le lost.version s.version) (grind (arith, nat_tests))
    where
      both : (a b : Bool) → b ≡ false → (a && b) ≡ false
      both true b is = is
      both false b is = refl

  newer : (s : Stretch) → lost.version ≤ s.version → is_not_older lost s ≡ (s.ino == lost.ino)
  newer s most = both (s.ino == lost.ino) (nat_le lost.version s.version) (grind (arith, nat_tests))
    where
      both : (a b : Bool) → b ≡ true → (a && b) ≡ a
      both true b is = is
      both false b is = refl

  pub numbers_of_taken : list_any (is_not_older lost) all ≡ list_any (λ s. s.ino == lost.ino) taken
  numbers_of_taken = any_taken lost.version (is_not_older lost) (λ s. s.ino == lost.ino) older newer all left taken split below high

  pub replaced_taken : (q : ℕ) → q < 4294967295 → is_replaced all lost q ≡ list_any (has_spot (lost.ino * 4294967296 + q)) taken
  unfolding is_replaced
  replaced_taken q small =
      any_taken lost.version (λ s. is_not_older lost s && has_place q s) (has_spot (lost.ino * 4294967296 + q))
      (λ s less. ap (λ b. b && has_place q s) (older s less))
      (λ s most. ap (λ b. b && has_place q s) (newer s most) ∙ sym (at_place lost.ino q s small))
      all left taken split below high

-- the tests of a range that ends by the size
module _ (lost : Stretch) (end : ℕ) (all left : List Stretch) (spots bare numbers : BTreeSet ℕ) (t : Taken lost.version all spots left bare numbers) (below : AreBelow lost.version left)
    (small : end ≤ 4294967295) where
  IsReplaced : ℕ → Bool
  IsReplaced q = nat_lt q lost.from || is_replaced all lost q

  pub covered_below : HaveEnds spots t.taken → contains nat_cmp spots (spot lost.ino lost.from) ≡ true
      → ((c : ℕ) → spot lost.ino lost.from ≤ c → c < spot lost.ino end → contains nat_cmp bare c ≡ false) → is_replaced_below all lost end ≡ true
  unfolding is_replaced_below
  covered_below ends there none = all_below (λ q. nat_lt q lost.from || is_replaced all lost q) end (λ q less. at q less (nat_lt q lost.from) refl)
    where
      at : (q : ℕ) → q < end → (b : Bool) → nat_lt q lost.from ≡ b → (nat_lt q lost.from || is_replaced all lost q) ≡ true
      at q less true e = ap (λ b. b || is_replaced all lost q) e
      at q less false e =
          let from : lost.from ≤ q = ltb-false _ _ e in
          let start : spot lost.ino lost.from ≡ lost.ino * 4294967296 + lost.from = omega (arith, from, less, small) in
          let same : spot lost.ino lost.from + (q - lost.from) ≡ lost.ino * 4294967296 + q = omega (arith, from, start) in
          let before : spot lost.ino lost.from + (q - lost.from) < spot lost.ino end = omega (arith, same, less, small) in
          ap (λ b. b || is_replaced all lost q) e
          ∙ replaced_taken lost all left t.taken t.split below t.high q (omega (arith, less, small))
          ∙ subst (λ (c : ℕ). list_any (has_spot c) t.taken ≡ true) same (had_from spots bare t.taken t.bare_are (spot lost.ino lost.from) (spot lost.ino end) ends there none (q - lost.from) before)

  pub lacking_below : (c : ℕ) → spot lost.ino lost.from ≤ c → c < spot lost.ino end → contains nat_cmp bare c ≡ true → is_replaced_below all lost end ≡ false
  unfolding is_replaced_below
  lacking_below c from to bare_there =
      let q : ℕ = c - lost.ino * 4294967296 in
      let same : c ≡ lost.ino * 4294967296 + q = omega (arith, from) in
      let less : q < end = omega (arith, from, to, small) in
      let past : lost.from ≤ q = omega (arith, from, to, small) in
      not_below (λ q. nat_lt q lost.from || is_replaced all lost q) end q less
      (lacks all lost q past
      (replaced_taken lost all left t.taken t.split below t.high q (omega (arith, less, small))
      ∙ subst (λ (k : ℕ). list_any (has_spot k) t.taken ≡ false) same (bare_not_had spots bare t.taken t.bare_are c bare_there)))

-- ---- one version more

-- all versions but the last ones
pub one_taken : (version : ℕ) (all left after : List Stretch) (spots bare new numbers more : BTreeSet ℕ) (s : Stretch) → Taken version all spots left bare numbers → left ≡ after ++ s ∷ [] → version ≤ s.version
    → ((c : ℕ) → contains nat_cmp new c ≡ (contains nat_cmp bare c && not (has_spot c s)))
    → ((i : ℕ) → contains nat_cmp more i ≡ ((s.ino == i) || contains nat_cmp numbers i))
    → Taken version all spots after new more
one_taken version all left after spots bare new numbers more s t last high covers adds = record {
  taken = s ∷ t.taken;
  split = t.split ∙ ap (λ (l : List Stretch). l ++ t.taken) last ∙ append_assoc after (s ∷ []) t.taken;
  high = one_more t.taken t.high;
  bare_are = λ c. covers c ∙ ap (λ b. b && not (has_spot c s)) (t.bare_are c) ∙ both (contains nat_cmp spots c) (has_spot c s) (list_any (has_spot c) t.taken);
  numbers_are = λ i. adds i ∙ ap (λ b. (s.ino == i) || b) (t.numbers_are i);
}
  where
    one_more : (ss : List Stretch) → All (λ x. version ≤ x.version) ss → All (λ x. version ≤ x.version) (s ∷ ss)
    one_more ss each zero d less = high
    one_more ss each (suc k) d less = each k d (omega (arith, less))

    both : (a b c : Bool) → ((a && not c) && not b) ≡ (a && not (b || c))
    both true true true = refl
    both true true false = refl
    both true false true = refl
    both true false false = refl
    both false b c = refl

-- those that are not below a version are not below a lower one
pub lower : (version other : ℕ) (all left : List Stretch) (spots bare numbers : BTreeSet ℕ) → other ≤ version → Taken version all spots left bare numbers → Taken other all spots left bare numbers
lower version other all left spots bare numbers less t = record {
  taken = t.taken;
  split = t.split;
  high = λ k d most. omega (arith, t.high k d most, less);
  bare_are = t.bare_are;
  numbers_are = t.numbers_are;
}

-- ---- calls

got : (xs : List Stretch) (i : ℕ) (d x : Stretch) → slice_get xs i ≡ Some x → get_or xs i d ≡ x
got [] i d x is = search
got (y ∷ ys) zero d x is = same_Some y x is
got (y ∷ ys) (suc i) d x is = got ys i d x is

pub all_lower : (version : ℕ) (xs : List Stretch) (last : Stretch) → Ascends xs → slice_get xs (length xs - 1) ≡ Some last → last.version < version → AreBelow version xs
all_lower version xs last ascends is less k d lower =
    let most = ascends k (length xs - 1) d (omega (arith, lower)) (omega (arith, lower)) in
    let same : (get_or xs (length xs - 1) d).version ≡ last.version = ap (λ (s : Stretch). s.version) (got xs (length xs - 1) d last is) in
    omega (arith, most, same, less)

abbrev pub Loses : BTreeSet ℕ → BTreeSet ℕ → ℕ → Type 0
Loses old new k = (q : ℕ) → contains nat_cmp new q ≡ cond (eq_by_cmp nat_cmp k q) false (contains nat_cmp old q)

pub cover_more : (first old new : BTreeSet ℕ) (from to k : ℕ) → from ≤ k → k < to → Loses old new k
    → ((c : ℕ) → (nat_le from c && nat_lt c to) ≡ false → contains nat_cmp old c ≡ contains nat_cmp first c)
    → (c : ℕ) → (nat_le from c && nat_lt c to) ≡ false → contains nat_cmp new c ≡ contains nat_cmp first c
cover_more first old new from to k low high loses others c out = by (k == c) refl
  where
    by : (b : Bool) → (k == c) ≡ b → contains nat_cmp new c ≡ contains nat_cmp first c
    by true e =
        let same : k ≡ c = eqb-true k c e in
        let within : (nat_le from k && nat_lt k to) ≡ true = grind (arith, nat_tests) in
        absurd (false≢true (sym out ∙ ap (λ (n : ℕ). nat_le from n && nat_lt n to) (sym same) ∙ within))
    by false e = loses c ∙ ap (λ (t : Bool). cond t false (contains nat_cmp old c)) (unsigned_tied k c ∙ e) ∙ others c out

pub cover_all : (first new : BTreeSet ℕ) (from to : ℕ) → ((c : ℕ) → (nat_le from c && nat_lt c to) ≡ false → contains nat_cmp new c ≡ contains nat_cmp first c)
    → ((c : ℕ) → from ≤ c → c < to → contains nat_cmp new c ≡ false) → (c : ℕ) → contains nat_cmp new c ≡ (contains nat_cmp first c && not (nat_le from c && nat_lt c to))
cover_all first new from to others none c = by (nat_le from c && nat_lt c to) refl
  where
    and_false : (b : Bool) → (b && false) ≡ false
    and_false true = refl
    and_false false = refl

    and_true : (b : Bool) → (b && true) ≡ b
    and_true true = refl
    and_true false = refl

    by : (b : Bool) → (nat_le from c && nat_lt c to) ≡ b → contains nat_cmp new c ≡ (contains nat_cmp first c && not b)
    by true e = none c (grind (arith, nat_tests)) (grind (arith, nat_tests)) ∙ sym (and_false (contains nat_cmp first c))
    by false e = others c e ∙ sym (and_true (contains nat_cmp first c))

pub number_added : (old new : BTreeSet ℕ) (k : ℕ) → ((q : ℕ) → contains nat_cmp new q ≡ cond (eq_by_cmp nat_cmp k q) true (contains nat_cmp old q))
    → (i : ℕ) → contains nat_cmp new i ≡ ((k == i) || contains nat_cmp old i)
number_added old new k adds i = adds i ∙ ap (λ (t : Bool). cond t true (contains nat_cmp old i)) (unsigned_tied k i) ∙ either (k == i) (contains nat_cmp old i)
  where
    either : (b x : Bool) → cond b true x ≡ (b || x)
    either true x = refl
    either false x = refl

all_right : (P : Stretch → Type 0) (xs ys : List Stretch) → All P (xs ++ ys) → All P ys
all_right P [] ys each = each
all_right P (x ∷ xs) ys each = all_right P xs ys (All-tail P x (xs ++ ys) each)

pub hides : (lost : Stretch) (size : ℕ) (all left : List Stretch) (spots bare numbers : BTreeSet ℕ) (t : Taken lost.version all spots left bare numbers) → AreBelow lost.version left → HaveEnds spots all
    → contains nat_cmp spots (spot lost.ino lost.from) ≡ true → size ≤ 4294967295 → (covered : Bool)
    → (covered ≡ true → (c : ℕ) → spot lost.ino lost.from ≤ c → c < spot lost.ino (min lost.to size) → contains nat_cmp bare c ≡ false)
    → (covered ≡ false → (c : ℕ) × (spot lost.ino lost.from ≤ c) × (c < spot lost.ino (min lost.to size)) × (contains nat_cmp bare c ≡ true))
    → (contains nat_cmp numbers lost.ino && covered) ≡ hides_nothing all size lost
unfolding hides_nothing
hides lost size all left spots bare numbers t below ends there small covered whole lacking =
    ap (λ b. b && covered) (t.numbers_are lost.ino ∙ sym (numbers_of_taken lost all left t.taken t.split below t.high))
    ∙ ap (λ b. list_any (is_not_older lost) all && b) (by covered whole lacking)
  where
    end : ℕ
    end = min lost.to size

    most : end ≤ 4294967295
    most = omega (arith, small)

    of_taken : HaveEnds spots t.taken
    of_taken = all_right (λ s. contains nat_cmp spots (spot s.ino s.to) ≡ true) left t.taken (subst (HaveEnds spots) t.split ends)

    by : (b : Bool) → (b ≡ true → (c : ℕ) → spot lost.ino lost.from ≤ c → c < spot lost.ino end → contains nat_cmp bare c ≡ false)
        → (b ≡ false → (c : ℕ) × (spot lost.ino lost.from ≤ c) × (c < spot lost.ino end) × (contains nat_cmp bare c ≡ true)) → b ≡ is_replaced_below all lost end
    by true whole lacking = sym (covered_below lost end all left spots bare numbers t below most of_taken there (whole refl))
    by false whole lacking =
        let found = lacking refl in
        sym (lacking_below lost end all left spots bare numbers t below most found.0 found.1 found.2 found.3)

pub hides_between : (lost : Stretch) (size from to : ℕ) (all left : List Stretch) (spots bare numbers : BTreeSet ℕ) → Taken lost.version all spots left bare numbers → AreBelow lost.version left → HaveEnds spots all
    → contains nat_cmp spots (spot lost.ino lost.from) ≡ true → size ≤ 4294967295 → from ≡ spot lost.ino lost.from → to ≡ spot lost.ino (min lost.to size) → (covered : Bool)
    → (covered ≡ true → (c : ℕ) → from ≤ c → c < to → contains nat_cmp bare c ≡ false)
    → (covered ≡ false → (c : ℕ) × (from ≤ c) × (c < to) × (contains nat_cmp bare c ≡ true))
    → (contains nat_cmp numbers lost.ino && covered) ≡ hides_nothing all size lost
hides_between lost size from to all left spots bare numbers t below ends there small begins stops covered whole lacking =
    hides lost size all left spots bare numbers t below ends there small covered
    (λ is c low high. whole is c (subst (λ (n : ℕ). n ≤ c) (sym begins) low) (subst (λ (n : ℕ). c < n) (sym stops) high))
    (λ is. let found = lacking is in (found.0, subst (λ (n : ℕ). n ≤ found.0) begins found.1, subst (λ (n : ℕ). found.0 < n) stops found.2, found.3))

pub no_other : (lost : Stretch) (size : ℕ) (all left : List Stretch) (spots bare numbers : BTreeSet ℕ) → Taken lost.version all spots left bare numbers → AreBelow lost.version left
    → contains nat_cmp numbers lost.ino ≡ false → hides_nothing all size lost ≡ false
unfolding hides_nothing
no_other lost size all left spots bare numbers t below none =
    ap (λ b. b && is_replaced_below all lost (min lost.to size)) (numbers_of_taken lost all left t.taken t.split below t.high ∙ sym (t.numbers_are lost.ino) ∙ none)
