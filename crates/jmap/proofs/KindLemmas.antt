-- Whether a node is kept, as a search in ascending addresses finds it.
use Rattle.std.proofs.Common.{◌≡◌, ℕ, ◌<◌, ◌≤◌, false, List, length, get_or, sym, ap, arith, inl, inr, ◌∙◌}
use Rattle.std.specs.Prelude.{◌==◌, AllPairs, Result, Ok, Err, is_ok}
use Rattle.std.specs.List.Sorted.{IsBinarySearchResult}
use Rattle.std.specs.Ordering.{nat_cmp}
use Rattle.std.proofs.lemmas.Bool.{cases_Bool, cases_lt, eqb-true, eq-eqb}
use Rattle.std.proofs.lemmas.List.{get_or_default}
use Rattle.std.proofs.lemmas.List.Folds.{list_any_none, list_any_at}
use Rattle.std.proofs.lemmas.List.Sorted.{searched}
use Rattle.jmap.specs.ByteKinds.{is_kept_address}

rises : (kept : List ℕ) → AllPairs (λ a b. a < b) kept → (i j : ℕ) → i ≤ j → j < length kept → get_or kept i 0 ≤ get_or kept j 0
rises kept up i j no_later inside = elim (cases_lt i j) [
  | inl less ↦ omega (arith, up i j 0 less inside)
  | inr not ↦ let same : i ≡ j = omega (arith, no_later, not) in omega (arith, ap (λ (k : ℕ). get_or kept k 0) same)
]

not_equal : (a b : ℕ) → (a ≡ b → ⊥) → (a == b) ≡ false
not_equal a b differ = elim (cases_Bool (a == b)) [
  | inl same ↦ absurd (differ (eqb-true a b same))
  | inr not ↦ not
]

pub search_is : (kept : List ℕ) (addr : ℕ) (r : Result ℕ ℕ) → AllPairs (λ a b. a < b) kept → IsBinarySearchResult (λ y. nat_cmp y addr) kept r → is_ok r ≡ is_kept_address kept addr
search_is kept addr (Ok i) up is =
    let it = searched kept addr (Ok i) is (rises kept up) in
    sym (list_any_at (λ a. a == addr) kept i 0 it.0 (eq-eqb (get_or kept i 0) addr it.1))
search_is kept addr (Err i) up is =
    let it = searched kept addr (Err i) is (rises kept up) in
    sym (list_any_none (λ a. a == addr) kept (λ k d inside. not_equal (get_or kept k d) addr (λ same.
    let here : get_or kept k 0 ≡ addr = sym (get_or_default kept k d 0 inside) ∙ same in
    elim (cases_lt k i) [
      | inl before ↦ omega (arith, it.1 k before, here)
      | inr behind ↦ omega (arith, it.2 k behind inside, here)
    ])))
