-- The least cut that goes unseen.
use Rattle.std.proofs.Common.{◌≡◌, ℕ, zero, suc, ◌+◌, ◌-◌, ◌≤◌, ◌<◌, Bool, true, false, List, ◌++◌, length, refl, sym, ap, ap₂, ◌∙◌, arith, inl, inr, Option, Some, None, take_all}
use Rattle.std.specs.Prelude.{IsTrue, find, bytes_eq}
use Rattle.std.specs.List.{range_with_len}
use Rattle.std.proofs.lemmas.Bool.{cases_Bool, cond-true, cond-false, cases_lt, both_ways}
use Rattle.std.proofs.lemmas.List.{append-nil}
use Rattle.std.proofs.lemmas.Slice.Eq.{bytes_eq-Decides}
use Rattle.flashbase.specs.Bytes.{erased}
use Rattle.jnode.specs.Weak.{torn, is_weak, IsLeastWeak}
use Rattle.jnode.specs.declared.order.Endian.{Endian}
use Rattle.jcuts.specs.Standing.{least_weak}
use Rattle.jcuts.specs.Laws.{WeakIsLeast}

-- the least number at which a test passes, where it passes at none above n others from a on
least_none : (test : ℕ → Bool) (a n : ℕ) → ((j : ℕ) → test j ≡ false) → find test (range_with_len a n) ≡ None
least_none test a zero none = refl
least_none test a (suc n) none = cond-false (test a) _ _ (none a) ∙ least_none test (a + 1) n none

least_some : (test : ℕ → Bool) (a n j : ℕ) → IsTrue (test j) → ((i : ℕ) → IsTrue (test i) → j ≤ i) → a ≤ j → j < a + n → find test (range_with_len a n) ≡ Some j
least_some test a zero j is least low high = absurd (omega arith)
least_some test a (suc n) j is least low high =
    elim (cases_Bool (test a)) [
      | inl here ↦
          let first : j ≤ a = least a here in
          let same : a ≡ j = omega arith in
          cond-true (test a) (Some a) (find test (range_with_len (a + 1) n)) here ∙ ap Some same
      | inr not_here ↦
          elim (cases_lt a j) [
            | inl past ↦ cond-false (test a) (Some a) (find test (range_with_len (a + 1) n)) not_here ∙ least_some test (a + 1) n j is least (omega arith) (omega arith)
            | inr at ↦
                let same : j ≡ a = omega arith in
                let no : test j ≡ false = ap test same ∙ not_here in
                absurd (both_ways (test j) no is)
          ]
    ]

-- a cut after the last byte, or past it, leaves the node
past_end : (e : Endian) (node : List ℕ) (j : ℕ) → length node ≤ j → is_weak e node j ≡ false
unfolding is_weak
past_end e node j past =
    let whole : torn node j ≡ node = (let none : length node - j ≡ 0 = omega arith in ap₂ (λ (l : List ℕ) (n : ℕ). l ++ erased n) (take_all j node past) none ∙ append-nil node) in
    let same : bytes_eq (torn node j) node ≡ true = (bytes_eq-Decides _ _).1 whole in
    rw same refl

-- the least weak cut is the one that is found
pub least_weak_is : (e : Endian) (node : List ℕ) (r : Option ℕ) → IsLeastWeak e node r → r ≡ least_weak e node
least_weak_is e node None is = sym (least_none (is_weak e node) 0 (length node) is)
least_weak_is e node (Some j) is =
    elim (cases_lt j (length node)) [
      | inl within ↦ sym (least_some (is_weak e node) 0 (length node) j is.0 is.1 (omega arith) (omega arith))
      | inr past ↦ absurd (both_ways (is_weak e node j) (past_end e node j past) is.0)
    ]

-- ---- and what is found is the least

found_none : (test : ℕ → Bool) (a n : ℕ) → find test (range_with_len a n) ≡ None → (j : ℕ) → a ≤ j → j < a + n → test j ≡ false
found_none test a zero is j low high = absurd (omega arith)
found_none test a (suc n) is j low high =
    elim (cases_Bool (test a)) [
      | inl here ↦ absurd (no (sym (cond-true (test a) (Some a) (find test (range_with_len (a + 1) n)) here) ∙ is))
      | inr not_here ↦
          elim (cases_lt a j) [
            | inl past ↦ found_none test (a + 1) n (sym (cond-false (test a) (Some a) (find test (range_with_len (a + 1) n)) not_here) ∙ is) j (omega arith) (omega arith)
            | inr at ↦ let same : j ≡ a = omega arith in ap test same ∙ not_here
          ]
    ]
  where
    no : {x : ℕ} → Some x ≡ None → ⊥
    no same = cc

found_some : (test : ℕ → Bool) (a n j : ℕ) → find test (range_with_len a n) ≡ Some j → (test j ≡ true) × (j < a + n) × ((i : ℕ) → a ≤ i → test i ≡ true → j ≤ i)
found_some test a zero j is = cc
found_some test a (suc n) j is =
    elim (cases_Bool (test a)) [
      | inl here ↦
          let at : Some a ≡ Some j = sym (cond-true (test a) (Some a) (find test (range_with_len (a + 1) n)) here) ∙ is in
          let same : a ≡ j = cc in
          (sym (ap test same) ∙ here, omega arith, λ i low passes. omega arith)
      | inr not_here ↦
          let rest = found_some test (a + 1) n j (sym (cond-false (test a) (Some a) (find test (range_with_len (a + 1) n)) not_here) ∙ is) in (
            rest.0,
            omega (arith, rest.1),
            λ i low passes.
                elim (cases_lt a i) [
                  | inl past ↦ rest.2 i (omega arith) passes
                  | inr at ↦ let same : i ≡ a = omega arith in absurd (both_ways (test i) (ap test same ∙ not_here) passes)
                ],
          )
    ]

pub weak_is_least : WeakIsLeast
weak_is_least e node = by (least_weak e node) refl
  where
    by : (r : Option ℕ) → least_weak e node ≡ r → IsLeastWeak e node r
    by None is = λ j.
        elim (cases_lt j (length node)) [
          | inl within ↦ found_none (is_weak e node) 0 (length node) is j (omega arith) (omega arith)
          | inr past ↦ past_end e node j past
        ]
    by (Some j) is =
        let found = found_some (is_weak e node) 0 (length node) j is in
        (found.0, λ i passes. found.2 i (omega arith) passes)
