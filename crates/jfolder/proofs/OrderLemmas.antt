-- The order of paths.
use Rattle.std.proofs.Common.{◌≡◌, ℕ, zero, suc, ◌≤◌, ◌<◌, ◌⊎◌, ◌==◌, Bool, true, false, cond, List, [], ◌∷◌, drop, length, nat_lt, ◌∙◌, arith, inl, inr, refl}
use Rattle.std.proofs.Math.Logic.{⊎_elim}
use Rattle.std.proofs.lemmas.Bool.Decides.{nat_tests}
use Rattle.jfolder.specs.Order.{is_before, rank}

-- where one of two paths ends
pub before_at_end : (i : ℕ) (xs ys : List ℕ) → i ≤ length xs → i ≤ length ys → (length xs ≤ i) ⊎ (length ys ≤ i)
    → nat_lt (length xs) (length ys) ≡ is_before (drop i xs) (drop i ys)
before_at_end zero [] [] a b e = grind (arith, nat_tests)
before_at_end zero [] (y ∷ ys) a b e = grind (arith, nat_tests)
before_at_end zero (x ∷ xs) [] a b e = grind (arith, nat_tests)
before_at_end zero (x ∷ xs) (y ∷ ys) a b e = absurd (omega arith)
before_at_end (suc i) [] ys a b e = absurd (omega arith)
before_at_end (suc i) (x ∷ xs) [] a b e = absurd (omega arith)
before_at_end (suc i) (x ∷ xs) (y ∷ ys) a b e =
    let same : nat_lt (length (x ∷ xs)) (length (y ∷ ys)) ≡ nat_lt (length xs) (length ys) = grind (arith, nat_tests) in
    same ∙ before_at_end i xs ys (omega arith) (omega arith) (⊎_elim (λ l. inl (omega arith)) (λ r. inr (omega arith)) e)

-- ---- the order is strict

-- by the first bytes, and else by the rest
abbrev pub by_first : ℕ → ℕ → Bool → Bool
by_first m n rest = cond (m == n) rest (nat_lt m n)

pub first_same : (m n : ℕ) (rest : Bool) → m ≡ n → by_first m n rest ≡ rest
first_same m n rest e = grind (arith, nat_tests)

pub first_lower : (m n : ℕ) (rest : Bool) → m < n → by_first m n rest ≡ true
first_lower m n rest less = grind (arith, nat_tests)

pub first_parts : (m n : ℕ) (rest : Bool) → by_first m n rest ≡ true → ((m ≡ n) × (rest ≡ true)) ⊎ (m < n)
first_parts m n rest e = grind (arith, nat_tests)

pub before_itself : (xs : List ℕ) → is_before xs xs ≡ false
before_itself [] = refl
before_itself (b ∷ bs) = first_same (rank b) (rank b) (is_before bs bs) refl ∙ before_itself bs

pub before_trans : (xs ys zs : List ℕ) → is_before xs ys ≡ true → is_before ys zs ≡ true → is_before xs zs ≡ true
before_trans xs [] [] e f = cc
before_trans [] [] (c ∷ cs) e f = cc
before_trans (a ∷ rest) [] (c ∷ cs) e f = cc
before_trans xs (b ∷ bs) [] e f = cc
before_trans [] (b ∷ bs) (c ∷ cs) e f = refl
before_trans (a ∷ rest) (b ∷ bs) (c ∷ cs) e f = ⊎_elim
    (λ same. ⊎_elim
    (λ also. first_same (rank a) (rank c) (is_before rest cs) (same.0 ∙ also.0) ∙ before_trans rest bs cs same.1 also.1)
    (λ less. first_lower (rank a) (rank c) (is_before rest cs) (lower_same (rank a) (rank b) (rank c) same.0 less))
    (first_parts (rank b) (rank c) (is_before bs cs) f))
    (λ less. first_lower (rank a) (rank c) (is_before rest cs) (⊎_elim
    (λ also. same_lower (rank a) (rank b) (rank c) less also.0)
    (λ more. lower_lower (rank a) (rank b) (rank c) less more)
    (first_parts (rank b) (rank c) (is_before bs cs) f)))
    (first_parts (rank a) (rank b) (is_before rest bs) e)
  where
    lower_same : (l m n : ℕ) → l ≡ m → m < n → l < n
    lower_same l m n e less = omega arith

    same_lower : (l m n : ℕ) → l < m → m ≡ n → l < n
    same_lower l m n less e = omega arith

    lower_lower : (l m n : ℕ) → l < m → m < n → l < n
    lower_lower l m n less more = omega arith
