-- How many of its first bytes make a node whole on erased flash.
use Rattle.std.proofs.Common.{◌≡◌, ◌≢◌, ℕ, zero, suc, ◌+◌, ◌-◌, ◌<◌, ◌≤◌, ◌==◌, cond, get_or, List, [], ◌∷◌, ◌++◌, length, take, refl, sym, ap, ap₂, subst, ◌∙◌, arith, inl, inr, eqb-true}
use Rattle.std.proofs.lemmas.Bool.{cases_Bool, cond-true, cond-false, ne_eqb}
use Rattle.std.proofs.lemmas.List.{take_more, length-take-le}
use Rattle.flashbase.specs.Bytes.{erased}
use Rattle.jnode.specs.Weak.{torn}
use Rattle.jcuts.specs.Standing.{whole_len}
use Rattle.jcuts.specs.Laws.{WholeLenIsLeast}

-- the length of bytes after one of which n are needed
abbrev longer : ℕ → ℕ → ℕ
longer byte zero = cond (byte == 0xFF) 0 1
longer byte (suc n) = suc (suc n)

longer_is : (byte : ℕ) (bytes : List ℕ) → whole_len (byte ∷ bytes) ≡ longer byte (whole_len bytes)
longer_is byte bytes = by (whole_len bytes)
  where
    by : (n : ℕ) → elim n as (λ v. ℕ) [ zero ↦ cond (byte == 0xFF) 0 1 | suc n ↦ suc (suc n) ] ≡ longer byte n
    by zero = refl
    by (suc n) = refl

pub cons_torn : (byte : ℕ) (bytes : List ℕ) (n : ℕ) → torn (byte ∷ bytes) (suc n) ≡ byte ∷ torn bytes n
cons_torn byte bytes n =
    let same : suc (length bytes) - suc n ≡ length bytes - n = omega arith in
    ap (λ (i : ℕ). byte ∷ (take n bytes ++ erased i)) same

pub none_torn : (byte : ℕ) (bytes : List ℕ) → torn (byte ∷ bytes) 0 ≡ 0xFF ∷ torn bytes 0
none_torn byte bytes =
    let long : suc (length bytes) - 0 ≡ suc (length bytes) = omega arith in
    let rest : length bytes - 0 ≡ length bytes = omega arith in
    ap erased long ∙ sym (ap (λ (i : ℕ). 0xFF ∷ erased i) rest)

pub cons_both : (a b : ℕ) (xs ys : List ℕ) → a ∷ xs ≡ b ∷ ys → (a ≡ b) × (xs ≡ ys)
cons_both a b xs ys same = (cc, cc)

whole_after : (byte : ℕ) (bytes : List ℕ) (n : ℕ) → torn bytes n ≡ bytes → torn (byte ∷ bytes) (longer byte n) ≡ byte ∷ bytes
whole_after byte bytes zero is =
    elim (cases_Bool (byte == 0xFF)) [
      | inl last ↦
          let same : byte ≡ 0xFF = eqb-true _ _ last in
          ap (torn (byte ∷ bytes)) (cond-true (byte == 0xFF) 0 1 last) ∙ (none_torn byte bytes ∙ ap₂ (λ (b : ℕ) (l : List ℕ). b ∷ l) (sym same) is)
      | inr some ↦
          ap (torn (byte ∷ bytes)) (cond-false (byte == 0xFF) 0 1 some) ∙ (cons_torn byte bytes 0 ∙ ap (λ (l : List ℕ). byte ∷ l) is)
    ]
whole_after byte bytes (suc n) is = cons_torn byte bytes (suc n) ∙ ap (λ (l : List ℕ). byte ∷ l) is

whole_is : (node : List ℕ) → torn node (whole_len node) ≡ node
whole_is [] = refl
whole_is (byte ∷ bytes) = ap (torn (byte ∷ bytes)) (longer_is byte bytes) ∙ whole_after byte bytes (whole_len bytes) (whole_is bytes)

longer_most : (byte n k : ℕ) → n ≤ k → longer byte n ≤ suc k
longer_most byte zero k most =
    elim (cases_Bool (byte == 0xFF)) [
      | inl last ↦ subst (λ (i : ℕ). i ≤ suc k) (sym (cond-true (byte == 0xFF) 0 1 last)) (omega arith)
      | inr some ↦ subst (λ (i : ℕ). i ≤ suc k) (sym (cond-false (byte == 0xFF) 0 1 some)) (omega arith)
    ]
longer_most byte (suc n) k most = omega arith

longer_none : (byte n : ℕ) → byte ≡ 0xFF → n ≤ 0 → longer byte n ≤ 0
longer_none byte zero is none = subst (λ (i : ℕ). i ≤ 0) (sym (cond-true (byte == 0xFF) 0 1 (ap (λ (b : ℕ). b == 0xFF) is))) (omega arith)
longer_none byte (suc n) is none = omega arith

least_is : (node : List ℕ) (k : ℕ) → torn node k ≡ node → whole_len node ≤ k
least_is [] k is = omega arith
least_is (byte ∷ bytes) zero is =
    let both = cons_both 0xFF byte (torn bytes 0) bytes (sym (none_torn byte bytes) ∙ is) in
    subst (λ (i : ℕ). i ≤ 0) (sym (longer_is byte bytes)) (longer_none byte (whole_len bytes) (sym both.0) (least_is bytes 0 both.1))
least_is (byte ∷ bytes) (suc k) is =
    let both = cons_both byte byte (torn bytes k) bytes (sym (cons_torn byte bytes k) ∙ is) in
    subst (λ (i : ℕ). i ≤ suc k) (sym (longer_is byte bytes)) (longer_most byte (whole_len bytes) k (least_is bytes k both.1))

pub whole_len_is_least : WholeLenIsLeast
whole_len_is_least node = record { whole = whole_is node; least = least_is node }

-- ---- by its last byte

longer_some : (byte n : ℕ) → 0 < n → longer byte n ≡ suc n
longer_some byte zero some = absurd (omega arith)
longer_some byte (suc n) some = refl

-- one of 0xFF at the end is not needed
pub whole_len_erased : (node : List ℕ) (byte : ℕ) → byte ≡ 0xFF → whole_len (node ++ byte ∷ []) ≡ whole_len node
whole_len_erased [] byte is = cond-true (byte == 0xFF) 0 1 (ap (λ (b : ℕ). b == 0xFF) is)
whole_len_erased (first ∷ node) byte is =
    longer_is first (node ++ byte ∷ []) ∙ (ap (longer first) (whole_len_erased node byte is) ∙ sym (longer_is first node))

-- and any other is
pub whole_len_written : (node : List ℕ) (byte : ℕ) → byte ≢ 0xFF → whole_len (node ++ byte ∷ []) ≡ suc (length node)
whole_len_written [] byte is = cond-false (byte == 0xFF) 0 1 (ne_eqb _ _ is)
whole_len_written (first ∷ node) byte is =
    longer_is first (node ++ byte ∷ []) ∙ (ap (longer first) (whole_len_written node byte is) ∙ longer_some first (suc (length node)) (omega arith))

pub whole_len_within : (node : List ℕ) → whole_len node ≤ length node
whole_len_within [] = omega arith
whole_len_within (byte ∷ bytes) = subst (λ (i : ℕ). i ≤ suc (length bytes)) (sym (longer_is byte bytes)) (longer_most byte (whole_len bytes) (length bytes) (whole_len_within bytes))

-- ---- a byte less

pub whole_len_less : (node : List ℕ) (n : ℕ) → 0 < n → n ≤ length node → get_or node (n - 1) 0 ≡ 0xFF → whole_len (take (n - 1) node) ≡ whole_len (take n node)
whole_len_less node n some within last =
    let at : (n - 1) + 1 ≡ n = omega arith in
    let split : take n node ≡ take (n - 1) node ++ get_or node (n - 1) 0 ∷ [] = ap (λ (i : ℕ). take i node) (sym at) ∙ take_more node (n - 1) 0 (omega arith) in
    sym (ap whole_len split ∙ whole_len_erased (take (n - 1) node) (get_or node (n - 1) 0) last)

pub whole_len_all : (node : List ℕ) (n : ℕ) → 0 < n → n ≤ length node → get_or node (n - 1) 0 ≢ 0xFF → whole_len (take n node) ≡ n
whole_len_all node n some within last =
    let at : (n - 1) + 1 ≡ n = omega arith in
    let split : take n node ≡ take (n - 1) node ++ get_or node (n - 1) 0 ∷ [] = ap (λ (i : ℕ). take i node) (sym at) ∙ take_more node (n - 1) 0 (omega arith) in
    ap whole_len split ∙ (whole_len_written (take (n - 1) node) (get_or node (n - 1) 0) last ∙ omega (arith, length-take-le (n - 1) node (omega arith)))
