-- The flash that a write left, as its blocks, seen from a cursor.
use Rattle.std.proofs.Common.{◌≡◌, ℕ, zero, suc, ◌+◌, ◌-◌, ◌*◌, ◌%◌, ◌<◌, ◌≤◌, List, [], ◌++◌, length, take, drop, get_or, refl, sym, ap, ◌∙◌, arith, inl, inr, length-drop}
use Rattle.std.specs.Prelude.{◌⊎◌}
use Rattle.std.proofs.Math.Nat.{mul-le-mul_right}
use Rattle.std.proofs.lemmas.Bool.{cases_lt}
use Rattle.std.proofs.lemmas.List.{get_or-drop, length-take}
use Rattle.jnode.specs.Writing.{clean_marker}
use Rattle.jnode.specs.declared.node.Seen.{Seen}
use Rattle.jnode.specs.declared.order.Endian.{Endian}
use Rattle.jnode.proofs.WeakLemmas.{behind}
use Rattle.jscan.specs.Blank.{marked}
use Rattle.jlog.proofs.ByteLemmas.{erased_end, erased_is, past_cut, cut_behind}
use Rattle.jlog.proofs.SightLemmas.{told, erased_told, marked_told}

-- ---- the flash as its blocks

-- a cursor, in a block or at its end: in front of the marker or after it
pub record Cursor (size c d p : ℕ) : Type 0 where
  pub sized : size % 4 ≡ 0
  pub large : 24 ≤ size
  pub small : size ≤ 4194304
  pub at : c ≡ d * size + p
  pub words : p % 4 ≡ 0
  pub high : p ≤ size
  pub beside : (p ≡ 0) ⊎ (12 ≤ p)

-- from an address on the block holds these bytes, and is erased after them
abbrev pub Holds : ℕ → ℕ → List ℕ → List ℕ → ℕ → Type 0
Holds size c out block d = (i : ℕ) → i < size → c ≤ d * size + i → get_or block i 0xFF ≡ get_or out (d * size + i - c) 0xFF

-- or it holds a beginning of the marker, which the k bytes have not passed
pub record Marked (e : Endian) (size c k : ℕ) (block : List ℕ) (d j : ℕ) : Type 0 where
  pub unwritten : c ≤ d * size
  pub before : c + k ≤ d * size + 12
  pub no_fewer : c + k ≤ d * size + j
  pub most : j ≤ 12
  pub is : block ≡ marked e size j

abbrev pub BlockLeft : Endian → ℕ → ℕ → List ℕ → ℕ → List ℕ → ℕ → Type 0
BlockLeft e size c out k block d = Holds size c (take k out) block d ⊎ ((j : ℕ) × Marked e size c k block d j)

pub record Flash (e : Endian) (size c blocks : ℕ) (flash : ℕ → List ℕ) (out : List ℕ) (k : ℕ) : Type 0 where
  pub long : (d : ℕ) → d < blocks → length (flash d) ≡ size
  pub each : (d : ℕ) → d < blocks → BlockLeft e size c out k (flash d) d

-- what is told of n blocks from b on, and from a place in block d on and of n blocks more
abbrev pub up : Endian → ℕ → (ℕ → List ℕ) → ℕ → ℕ → List (ℕ × Seen)
up e size flash b zero = []
up e size flash b (suc n) = told e (b * size) 0 (flash b) ++ up e size flash (suc b) n

abbrev pub met : Endian → ℕ → (ℕ → List ℕ) → ℕ → ℕ → ℕ → List (ℕ × Seen)
met e size flash d p n = told e (d * size) p (drop p (flash d)) ++ up e size flash (suc d) n

-- ---- the cursor moves on

block_moves : (e : Endian) (size c c' k : ℕ) (front out block : List ℕ) (d : ℕ) → c + length front ≡ c' → (c' ≤ d * size) ⊎ (d * size + 12 ≤ c')
    → BlockLeft e size c (front ++ out) k block d → BlockLeft e size c' out (k - length front) block d
block_moves e size c c' k front out block d sum side (inl holds) =
    inl (λ i inside from.
    let same : d * size + i - c ≡ length front + (d * size + i - c') = omega arith in
    holds i inside (omega arith) ∙ (ap (λ (m : ℕ). get_or (take k (front ++ out)) m 0xFF) same ∙ cut_behind front out k (d * size + i - c')))
block_moves e size c c' k front out block d sum (inl ahead) (inr (j, m)) =
    inr (
      j,
      record {
        unwritten = ahead;
        before = omega (arith, m.before, m.unwritten);
        no_fewer = omega (arith, m.no_fewer, m.unwritten);
        most = m.most;
        is = m.is;
      },
    )
block_moves e size c c' k front out block d sum (inr behind) (inr (j, m)) =
    inl (λ i inside from.
    let none : k - length front ≤ d * size + i - c' = omega (arith, m.before) in
    let cut : length (take j (clean_marker e)) ≤ i = omega (arith, length-take j (clean_marker e), m.most) in
    ap (λ (xs : List ℕ). get_or xs i 0xFF) m.is
    ∙ (erased_end (take j (clean_marker e)) (size - j) i
    ∙ (past_cut (clean_marker e) j i (omega (arith, m.most))
    ∙ sym (past_cut out (k - length front) (d * size + i - c') none))))

beside_each : (size c d p : ℕ) → Cursor size c d p → (q : ℕ) → (c ≤ q * size) ⊎ (q * size + 12 ≤ c)
beside_each size c d p at q = elim (cases_lt q d) [
  | inl lower ↦
      let next : (q + 1) * size ≤ d * size = mul-le-mul_right size (omega arith) in
      inr (omega (arith, at.at, at.large))
  | inr not ↦ elim (cases_lt d q) [
    | inl upper ↦
        let next : (d + 1) * size ≤ q * size = mul-le-mul_right size (omega arith) in
        inl (omega (arith, at.at, at.high))
    | inr here ↦
        let same : q ≡ d = omega arith in
        let start : q * size ≡ d * size = ap (λ (n : ℕ). n * size) same in
        elim at.beside [
          | inl front ↦ inl (omega (arith, at.at))
          | inr behind ↦ inr (omega (arith, at.at))
        ]
  ]
]

pub flash_moves : (e : Endian) (size c c' d p k blocks : ℕ) (flash : ℕ → List ℕ) (front out : List ℕ) → Cursor size c' d p → c + length front ≡ c'
    → Flash e size c blocks flash (front ++ out) k → Flash e size c' blocks flash out (k - length front)
flash_moves e size c c' d p k blocks flash front out at sum left = record {
  long = left.long;
  each = λ q inside. block_moves e size c c' k front out (flash q) q sum (beside_each size c' d p at q) (left.each q inside);
}

-- ---- where nothing more went out, nothing is told

abbrev IsClear : List ℕ → Type 0
IsClear out = (i : ℕ) → get_or out i 0xFF ≡ 0xFF

clear_block : (e : Endian) (size c k : ℕ) (out block : List ℕ) (d : ℕ) → 12 ≤ size → length block ≡ size → IsClear (take k out) → c ≤ d * size → BlockLeft e size c out k block d
    → told e (d * size) 0 block ≡ []
clear_block e size c k out block d large long clear low (inl holds) =
    ap (told e (d * size) 0) (erased_is block size long (λ i inside. holds i inside (omega arith) ∙ clear (d * size + i - c))) ∙ erased_told e (d * size) 0 size
clear_block e size c k out block d large long clear low (inr (j, m)) =
    ap (told e (d * size) 0) m.is ∙ marked_told e (d * size) size j m.most large

pub clear_up : (e : Endian) (size c k blocks : ℕ) (out : List ℕ) (flash : ℕ → List ℕ) (b n : ℕ) → 12 ≤ size → IsClear (take k out) → c ≤ b * size → b + n ≤ blocks → Flash e size c blocks flash out k
    → up e size flash b n ≡ []
clear_up e size c k blocks out flash b zero large clear low within left = refl
clear_up e size c k blocks out flash b (suc n) large clear low within left =
    let here : told e (b * size) 0 (flash b) ≡ [] =
    clear_block e size c k out (flash b) b large (left.long b (omega arith)) clear low (left.each b (omega arith)) in
    ap (λ (ss : List (ℕ × Seen)). ss ++ up e size flash (suc b) n) here
    ∙ clear_up e size c k blocks out flash (suc b) n large clear (omega arith) (omega arith) left

pub nothing_out : (i k : ℕ) → get_or (take {A = ℕ} k []) i 0xFF ≡ 0xFF
nothing_out i zero = refl
nothing_out i (suc k) = refl

-- ---- the rest of the cursor's block

pub rest_long : (size p : ℕ) (block : List ℕ) → length block ≡ size → length (drop p block) ≡ size - p
rest_long size p block long = length-drop p block ∙ ap (λ (n : ℕ). n - p) long

pub rest_byte : (size c d p : ℕ) (out block : List ℕ) → c ≡ d * size + p → Holds size c out block d → (i : ℕ) → i < size - p → get_or (drop p block) i 0xFF ≡ get_or out i 0xFF
rest_byte size c d p out block at holds i inside =
    let same : d * size + (p + i) - c ≡ i = omega arith in
    get_or-drop p block i 0xFF ∙ (holds (p + i) (omega arith) (omega arith) ∙ ap (λ (n : ℕ). get_or out n 0xFF) same)

-- after a marker a block holds what went out
pub holds_behind : (e : Endian) (size c k d p : ℕ) (out block : List ℕ) → c ≡ d * size + p → 12 ≤ p → BlockLeft e size c out k block d → Holds size c (take k out) block d
holds_behind e size c k d p out block at behind (inl holds) = holds
holds_behind e size c k d p out block at behind (inr (j, m)) = absurd (omega (arith, m.unwritten))
