-- Where a node goes: in the block of the cursor, at its front, or in the next one.
use Rattle.std.proofs.Common.{◌≡◌, ℕ, suc, ◌+◌, ◌-◌, ◌*◌, ◌/◌, ◌%◌, ◌<◌, ◌≤◌, max, leb, cond, true, false, sym, ap, ◌∙◌, arith, inl, inr, ⊎_elim, subst}
use Rattle.std.proofs.lemmas.Nat.{div-mul-add, div-add-mod', mod_below, mul-mod_second, le-div}
use Rattle.std.proofs.Math.Nat.{mul-le-mul_right}
use Rattle.std.proofs.lemmas.Bool.{cond-true, cond-false, leb-true, leb-false, le-leb, lt-leb, cases_Bool, cases_lt}
use Rattle.flashbase.specs.Bytes.{pad4_of}
use Rattle.flashbase.proofs.BytesLemmas.{le_pad4, pad4_words, pad4_least}
use Rattle.jlog.specs.Places.{IsPlace, IsLeastPlace, place_after}
use Rattle.jlog.specs.Laws.{PlaceIsLeast}

pub pad4_same : (n : ℕ) → n % 4 ≡ 0 → pad4_of n ≡ n
pad4_same n words = omega (arith, le_pad4 n, pad4_least n n (omega arith) words)

pub times_words : (q size : ℕ) → size % 4 ≡ 0 → (q * size) % 4 ≡ 0
times_words q size h =
    let nothing : (q * 0) % 4 ≡ 0 = omega arith in
    sym (mul-mod_second q size 4) ∙ (ap (λ (n : ℕ). (q * n) % 4) h ∙ nothing)

pub div_at : (a q size : ℕ) → q * size ≤ a → a < q * size + size → a / size ≡ q
div_at a q size low high =
    let rest : a - q * size < size = omega arith in
    let same : q * size + (a - q * size) ≡ a = omega arith in
    ap (λ (n : ℕ). n / size) (sym same) ∙ div-mul-add q size (a - q * size) rest

-- after whole words
pub pad4_behind : (at n : ℕ) → at % 4 ≡ 0 → pad4_of (at + n) ≡ at + pad4_of n
unfolding pad4_of
pad4_behind at n words = omega (arith, words)

-- ---- the place, by its block

place_by : ℕ → ℕ → ℕ → ℕ → ℕ
place_by size a q len = cond (leb (max a (q * size + 12) + len) (q * size + size)) (max a (q * size + 12)) (q * size + size + 12)

-- from a word on
by_word : (size c len : ℕ) → c % 4 ≡ 0 → place_after size c len ≡ place_by size c (c / size) len
unfolding place_by
by_word size c len words = ap (λ (a : ℕ). place_by size a (a / size) len) (pad4_same c words)

by_block : (size c q len : ℕ) → c % 4 ≡ 0 → q * size ≤ c → c < q * size + size → place_after size c len ≡ place_by size c q len
unfolding place_by
by_block size c q len words low high =
    ap (λ (a : ℕ). place_by size a (a / size) len) (pad4_same c words) ∙ ap (λ (b : ℕ). place_by size c b len) (div_at c q size low high)

-- it depends on the next word alone
pub place_same : (size a b len : ℕ) → pad4_of a ≡ pad4_of b → place_after size a len ≡ place_after size b len
unfolding place_by
place_same size a b len same = ap (λ (c : ℕ). place_by size c (c / size) len) same

-- in the block of the cursor
pub place_here : (size c d len : ℕ) → c % 4 ≡ 0 → d * size + 12 ≤ c → c + len ≤ d * size + size → 0 < len → place_after size c len ≡ c
unfolding place_by
place_here size c d len words low high some =
    let at : max c (d * size + 12) ≡ c = omega arith in
    let fits : max c (d * size + 12) + len ≤ d * size + size = omega arith in
    by_block size c d len words (omega arith) (omega arith)
    ∙ (cond-true (leb (max c (d * size + 12) + len) (d * size + size)) (max c (d * size + 12)) (d * size + size + 12) (le-leb _ _ fits) ∙ at)

-- at the front of a block that is not begun
pub place_front : (size c d len : ℕ) → size % 4 ≡ 0 → c ≡ d * size → 12 + len ≤ size → 0 < len → place_after size c len ≡ d * size + 12
unfolding place_by
place_front size c d len words is room some =
    let at : max c (d * size + 12) ≡ d * size + 12 = omega arith in
    let fits : max c (d * size + 12) + len ≤ d * size + size = omega arith in
    let whole : c % 4 ≡ 0 = ap (λ (n : ℕ). n % 4) is ∙ times_words d size words in
    by_block size c d len whole (omega arith) (omega arith)
    ∙ (cond-true (leb (max c (d * size + 12) + len) (d * size + size)) (max c (d * size + 12)) (d * size + size + 12) (le-leb _ _ fits) ∙ at)

-- in the next block
pub place_over : (size c d len : ℕ) → size % 4 ≡ 0 → c % 4 ≡ 0 → d * size + 12 ≤ c → c ≤ d * size + size → d * size + size < c + len → 12 + len ≤ size → 0 < len
    → place_after size c len ≡ suc d * size + 12
unfolding place_by
place_over size c d len sized words low high over room some = elim (cases_lt c (d * size + size)) [
  | inl inside ↦
      let outside : d * size + size < max c (d * size + 12) + len = omega arith in
      by_block size c d len words (omega arith) inside
      ∙ (cond-false (leb (max c (d * size + 12) + len) (d * size + size)) (max c (d * size + 12)) (d * size + size + 12) (lt-leb _ _ outside) ∙ omega arith)
  | inr end ↦ place_front size c (suc d) len sized (omega arith) room some
]

-- ---- the function gives the least place

pub block_floor : (a size : ℕ) → 0 < size → (a / size * size ≤ a) × (a < a / size * size + size)
block_floor a size h = (omega (arith, div-add-mod' a size), omega (arith, div-add-mod' a size, mod_below a size h))

-- a place in the block q
pub in_block : (size from len at q : ℕ) → at % 4 ≡ 0 → from ≤ at → q * size + 12 ≤ at → at + len ≤ q * size + size → 0 < len → IsPlace size from len at
in_block size from len at q a u b w l =
    let is : at / size ≡ q = div_at at q size (omega arith) (omega arith) in
    record {
      aligned = a;
      upwards = u;
      behind_marker = subst (λ (n : ℕ). n * size + 12 ≤ at) (sym is) b;
      within = subst (λ (n : ℕ). at + len ≤ n * size + size) (sym is) w;
    }

-- each place is at or after the next word, in its block or a later one
other_high : (size from len other : ℕ) → 0 < size → IsPlace size from len other → (pad4_of from ≤ other) × (pad4_of from / size ≤ other / size)
other_high size from len other h p =
    let up : pad4_of from ≤ other = pad4_least from other p.upwards p.aligned in
    let floor : pad4_of from / size * size ≤ other = omega (arith, block_floor (pad4_of from) size h, up) in
    (up, le-div (pad4_of from / size) other size h floor)

-- and so after the marker of the block of that word
other_behind : (size from len other : ℕ) → 0 < size → IsPlace size from len other → max (pad4_of from) (pad4_of from / size * size + 12) ≤ other
other_behind size from len other h p =
    let two : (pad4_of from ≤ other) × (pad4_of from / size ≤ other / size) = other_high size from len other h p in
    let more : pad4_of from / size * size ≤ other / size * size = mul-le-mul_right size two.1 in
    let m : other / size * size + 12 ≤ other = p.behind_marker in
    let u : pad4_of from ≤ other = two.0 in
    omega arith

-- where no place is left in the block q, a place lies after the next block's marker
next_block : (size len other q at r : ℕ) → at ≤ other → q * size + size < at + len → q ≤ r → other + len ≤ r * size + size → r * size + 12 ≤ other
    → q * size + size + 12 ≤ other
next_block size len other q at r behind outside le within marker = elim (cases_lt q r) [
  | inl less ↦
      let up : q + 1 ≤ r = omega arith in
      let more : (q + 1) * size ≤ r * size = mul-le-mul_right size up in
      omega arith
  | inr not ↦
      let same : q ≡ r = omega arith in
      let w : other + len ≤ q * size + size = subst (λ (n : ℕ). other + len ≤ n * size + size) (sym same) within in
      absurd (omega arith)
]

pub place_is_least : PlaceIsLeast
place_is_least size from len al l fits =
    let pos : 0 < size = omega arith in
    let q : ℕ = pad4_of from / size in
    let at : ℕ = max (pad4_of from) (q * size + 12) in
    let floor : (q * size ≤ pad4_of from) × (pad4_of from < q * size + size) = block_floor (pad4_of from) size pos in
    let words : pad4_of from % 4 ≡ 0 = pad4_words from in
    let up : from ≤ pad4_of from = le_pad4 from in
    let whole : (q * size) % 4 ≡ 0 = times_words q size al in
    ⊎_elim
    (λ (h : leb (at + len) (q * size + size) ≡ true).
    let inside : at + len ≤ q * size + size = leb-true (at + len) (q * size + size) h in
    subst (IsLeastPlace size from len) (sym (cond-true (leb (at + len) (q * size + size)) at (q * size + size + 12) h)) (record {
      place = in_block size from len at q (omega arith) (omega arith) (omega arith) inside l;
      least = λ other p. other_behind size from len other pos p;
    }))
    (λ (h : leb (at + len) (q * size + size) ≡ false).
    let outside : q * size + size < at + len = leb-false (at + len) (q * size + size) h in
    subst (IsLeastPlace size from len) (sym (cond-false (leb (at + len) (q * size + size)) at (q * size + size + 12) h)) (record {
      place = in_block size from len (q * size + size + 12) (q + 1) (omega arith) (omega arith) (omega arith) (omega arith) l;
      least = λ other p.
          let behind : at ≤ other = other_behind size from len other pos p in
          let two : (pad4_of from ≤ other) × (q ≤ other / size) = other_high size from len other pos p in
          next_block size len other q at (other / size) behind outside two.1 p.within p.behind_marker;
    }))
    (cases_Bool (leb (at + len) (q * size + size)))

-- ---- as code finds it

pub place_is_here : (size from len here : ℕ) → from % 4 ≡ 0 → here ≡ max from (from / size * size + 12) → here + len ≤ from / size * size + size → here ≡ place_after size from len
unfolding place_by
place_is_here size from len here words is fits =
    is ∙ sym (by_word size from len words ∙ cond-true (leb (max from (from / size * size + 12) + len) (from / size * size + size)) (max from (from / size * size + 12)) (from / size * size + size + 12)
    (le-leb _ _ (omega (arith, fits, is))))

pub place_is_next : (size from len here : ℕ) → from % 4 ≡ 0 → here ≡ max from (from / size * size + 12) → from / size * size + size < here + len
    → from / size * size + size + 12 ≡ place_after size from len
unfolding place_by
place_is_next size from len here words is over =
    sym (by_word size from len words ∙ cond-false (leb (max from (from / size * size + 12) + len) (from / size * size + size)) (max from (from / size * size + 12)) (from / size * size + size + 12)
    (lt-leb _ _ (omega (arith, over, is))))
