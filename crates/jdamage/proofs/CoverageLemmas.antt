-- Which places of a range other versions give.
use Rattle.std.proofs.Common.{◌≡◌, ℕ, zero, suc, ◌<◌, ◌≤◌, Bool, true, false, List, [], ◌∷◌, refl, sym, ap, ◌∙◌, arith}
use Rattle.std.specs.Prelude.{◌&&◌, ◌||◌, nat_lt, filter, min}
use Rattle.std.specs.List.{list_any, list_all}
use Rattle.std.proofs.Math.Path.{fun_ext}
use Rattle.std.proofs.lemmas.Bool.{ltb-true, ltb-false}
use Rattle.std.proofs.lemmas.Bool.Decides.{nat_tests}
use Rattle.std.proofs.lemmas.List.Folds.{list_all-append}
use Rattle.std.proofs.lemmas.Map.Views.{any-filter_same}
use Rattle.flashbase.specs.Lists.{below}
use Rattle.jgaps.specs.Gaps.{has_place}
use Rattle.jdamage.specs.Coverage.{is_not_older, is_replaced, is_replaced_below, hides_nothing}
use Rattle.jgaps.specs.declared.fields.Stretch.{Stretch}

-- ---- a test of each number below another

pub all_below : (p : ℕ → Bool) (n : ℕ) → ((q : ℕ) → q < n → p q ≡ true) → list_all p (below n) ≡ true
all_below p zero each = refl
all_below p (suc n) each =
    let one : list_all p (n ∷ []) ≡ true = ap (λ b. b && true) (each n (omega arith)) in
    let before : list_all p (below n) ≡ true = all_below p n (λ q less. each q (omega arith)) in
    list_all-append p (below n) (n ∷ []) ∙ ap (λ b. b && list_all p (n ∷ [])) before ∙ one

and_false : (b : Bool) → (b && false) ≡ false
and_false true = refl
and_false false = refl

first_true : (a b : Bool) → (a && b) ≡ true → a ≡ true
first_true true b both = refl
first_true false _ both = both

pub not_below : (p : ℕ → Bool) (n q : ℕ) → q < n → p q ≡ false → list_all p (below n) ≡ false
not_below p zero q less lacking = absurd (omega arith)
not_below p (suc n) q less lacking = by (nat_lt q n) refl (λ l. not_below p n q l lacking)
  where
    by : (b : Bool) → nat_lt q n ≡ b → (q < n → list_all p (below n) ≡ false) → list_all p (below (suc n)) ≡ false
    by true e before =
        list_all-append p (below n) (n ∷ []) ∙ ap (λ b. b && list_all p (n ∷ [])) (before (ltb-true _ _ e))
    by false e before =
        let same : q ≡ n = omega (arith, ltb-false _ _ e) in
        let one : list_all p (n ∷ []) ≡ false = ap (λ (k : ℕ). p k && true) (sym same) ∙ ap (λ b. b && true) lacking in
        list_all-append p (below n) (n ∷ []) ∙ ap (λ b. list_all p (below n) && b) one ∙ and_false (list_all p (below n))

-- ---- the versions of other objects do not count

module _ (p : Stretch → Bool) (lost : Stretch) (same : (s : Stretch) → is_not_older lost s ≡ true → p s ≡ true) (others : List Stretch) where
  newer_kept : list_any (is_not_older lost) (filter p others) ≡ list_any (is_not_older lost) others
  newer_kept = any-filter_same (is_not_older lost) p true same others

  replaced_kept : (place : ℕ) → is_replaced (filter p others) lost place ≡ is_replaced others lost place
  unfolding is_replaced
  replaced_kept place = any-filter_same (λ s. is_not_older lost s && has_place place s) p true (λ s both. same s (first_true (is_not_older lost s) (has_place place s) both)) others

  pub hidden_kept : (size : ℕ) → hides_nothing (filter p others) size lost ≡ hides_nothing others size lost
  unfolding hides_nothing is_replaced_below
  hidden_kept size =
      let end = min lost.to size in
      ap (λ (f : ℕ → Bool). list_any (is_not_older lost) (filter p others) && list_all (λ place. nat_lt place lost.from || f place) (below end)) (fun_ext replaced_kept)
      ∙ ap (λ b. b && list_all (λ place. nat_lt place lost.from || is_replaced others lost place) (below end)) newer_kept

-- ---- place by place

pub lacks : (others : List Stretch) (lost : Stretch) (place : ℕ) → lost.from ≤ place → is_replaced others lost place ≡ false → (nat_lt place lost.from || is_replaced others lost place) ≡ false
lacks others lost place from none = ap (λ b. b || is_replaced others lost place) (not_less place lost.from from) ∙ none
  where
    not_less : (a b : ℕ) → b ≤ a → nat_lt a b ≡ false
    not_less a b most = grind (arith, nat_tests)
