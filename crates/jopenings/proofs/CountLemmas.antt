-- How many blocks of a flash are erased after bytes went out to stretches of it.
use Rattle.std.proofs.Common.{◌≡◌, ℕ, zero, suc, ◌+◌, ◌<◌, ◌≤◌, Bool, true, false, cond, List, [], ◌∷◌, ◌++◌, length, get_or, refl, sym, ap, ◌∙◌, arith}
use Rattle.std.specs.Prelude.{count_by}
use Rattle.std.proofs.lemmas.Grind.{common_steps}
use Rattle.std.proofs.lemmas.List.{ext_get_or}
use Rattle.std.proofs.lemmas.List.Sums.{sum_by-cons}
use Rattle.flashbase.specs.Lists.{below}
use Rattle.flashbase.proofs.ListLemmas.{length-below, get_or-below}
use Rattle.jscan.specs.Image.{block_of}
use Rattle.jscan.proofs.PartLemmas.{block_length}
use Rattle.jlog.proofs.ByteLemmas.{block_byte}
use Rattle.jreserve.specs.Erased.{erased_blocks, is_all_erased}
use Rattle.jrow.proofs.SideLemmas.{made_byte}
use Rattle.jopenings.specs.Stretches.{block_in, flash_with, image_with}
use Rattle.jopenings.specs.declared.placing.Stretch.{Stretch}
use Rattle.jopenings.proofs.StretchLemmas.{flash_with_is_whole, same_block, with_long}

-- ---- numbers that pass a test

count_both : (p : ℕ → Bool) (a b : List ℕ) → count_by p (a ++ b) ≡ count_by p a + count_by p b
count_both p a b = grind (arith, common_steps)

count_one : (p : ℕ → Bool) (n : ℕ) → count_by p (n ∷ []) ≡ cond (p n) 1 0
count_one p n = omega (arith, sum_by-cons (λ k. cond (p k) 1 0) n [])

pub count_next : (p : ℕ → Bool) (n : ℕ) → count_by p (below (n + 1)) ≡ count_by p (below n) + cond (p n) 1 0
count_next p n =
    let next : n + 1 ≡ suc n = omega arith in
    ap (λ (k : ℕ). count_by p (below k)) next ∙ count_both p (below n) (n ∷ []) ∙ ap (λ (k : ℕ). count_by p (below n) + k) (count_one p n)

abbrev pub one_if : Bool → ℕ
one_if b = cond b 1 0

pub one_at_most : (b : Bool) → one_if b ≤ 1
one_at_most true = omega arith
one_at_most false = omega arith

pub count_each : (n : ℕ) (p q : ℕ → Bool) → ((k : ℕ) → k < n → p k ≡ q k) → count_by p (below n) ≡ count_by q (below n)
count_each zero p q same = refl
count_each (suc n) p q same =
    let before : count_by p (below n) ≡ count_by q (below n) = count_each n p q (λ k less. same k (omega (arith, less))) in
    let last : one_if (p n) ≡ one_if (q n) = ap one_if (same n (omega arith)) in
    omega (arith, before, last, count_both p (below n) (n ∷ []), count_both q (below n) (n ∷ []), count_one p n, count_one q n)

-- ---- the blocks of an image with bytes in stretches

module _ (size blocks : ℕ) (base : List ℕ) (ss : List Stretch) (bytes : List ℕ) where
  flash_block : (b : ℕ) → b < blocks → block_of size (flash_with size blocks base ss bytes) b ≡ block_in size base ss bytes b
  flash_block b inside =
      let flash : List ℕ = flash_with size blocks base ss bytes in
      let f = block_in size base ss bytes in
      let long : length (block_of size flash b) ≡ size = block_length size flash b in
      ext_get_or 0xFF (block_of size flash b) (f b) (long ∙ sym (with_long size base ss bytes b)) (λ i within.
      let small : i < size = omega (arith, within, long) in
      block_byte size flash b i small
      ∙ (made_byte size f (with_long size base ss bytes) (below blocks) b i (omega (arith, inside, length-below blocks)) small
      ∙ ap (λ (c : ℕ). get_or (f c) i 0xFF) (get_or-below blocks b inside)))

  image_block : 0 < size → (b : ℕ) → b < blocks → block_of size (image_with size blocks base ss bytes) b ≡ block_in size base ss bytes b
  image_block some b inside =
      sym (same_block size (flash_with size blocks base ss bytes) (image_with size blocks base ss bytes) (flash_with_is_whole size blocks base ss bytes some) b)
      ∙ flash_block b inside

  abbrev pub is_left_erased : ℕ → Bool
  is_left_erased b = is_all_erased (block_in size base ss bytes b)

  pub erased_are_counted : 0 < size → count_by is_left_erased (below blocks) ≡ erased_blocks size blocks (image_with size blocks base ss bytes)
  erased_are_counted some =
      count_each blocks is_left_erased (λ b. is_all_erased (block_of size (image_with size blocks base ss bytes) b))
      (λ b inside. ap is_all_erased (sym (image_block some b inside)))
