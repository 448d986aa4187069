-- Blocks from one on, upwards.
use Rattle.std.proofs.Common.{◌≡◌, ℕ, zero, suc, ◌+◌, List, [], ◌∷◌, ◌++◌, refl, sym, ap, ap₂, ◌∙◌, arith}
use Rattle.flashbase.specs.Lists.{below}

abbrev pub run : ℕ → ℕ → List ℕ
run lo zero = []
run lo (suc n) = lo ∷ run (suc lo) n

run_more : (lo n : ℕ) → run lo (suc n) ≡ run lo n ++ (lo + n) ∷ []
run_more lo zero = let same : lo ≡ lo + 0 = omega arith in ap (λ (b : ℕ). b ∷ []) same
run_more lo (suc n) =
    let same : suc lo + n ≡ lo + suc n = omega arith in
    ap (λ (l : List ℕ). lo ∷ l) (run_more (suc lo) n ∙ ap (λ (b : ℕ). run (suc lo) n ++ b ∷ []) same)

pub below_run : (n : ℕ) → below n ≡ run 0 n
below_run zero = refl
below_run (suc n) =
    let same : n ≡ 0 + n = omega arith in
    ap₂ (λ (l : List ℕ) (b : ℕ). l ++ b ∷ []) (below_run n) same ∙ sym (run_more 0 n)
