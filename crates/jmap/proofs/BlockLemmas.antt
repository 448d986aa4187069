-- The blocks of an image, one after the other.
use Rattle.std.proofs.Common.{◌≡◌, ℕ, zero, suc, ◌+◌, ◌%◌, ◌<◌, List, [], ◌∷◌, ◌++◌, length, sym, ap, arith, ◌∙◌, append_assoc, append-nil, IsTrue}
use Rattle.std.proofs.Math.Logic.{⊎_elim}
use Rattle.std.proofs.lemmas.Bool.{cases_lt}
use Rattle.std.specs.List.{flat_map}
use Rattle.std.proofs.lemmas.Grind.{flat_map-append}
use Rattle.flashbase.specs.Lists.{below}
use Rattle.jscan.specs.Image.{block_of, is_block_size}
use Rattle.jscan.proofs.StreamCounts.{readable_words}
use Rattle.jmap.proofs.TallyLemmas.{length_block_of}

pub below_more : {X : Type 0} (f : ℕ → List X) (k : ℕ) → flat_map f (below (k + 1)) ≡ flat_map f (below k) ++ f k
below_more {X} f k =
    ap (λ (n : ℕ). flat_map f (below n)) {x = k + 1} {y = suc k} (omega arith)
    ∙ flat_map-append f (below k) (k ∷ [])
    ∙ ap (λ (l : List X). flat_map f (below k) ++ l) (append-nil (f k))

-- what the first blocks give begins what all give
pub below_begins : {X : Type 0} (f : ℕ → List X) (k n : ℕ) → k < n
    → (rest : List X) × (flat_map f (below n) ≡ (flat_map f (below k) ++ f k) ++ rest)
below_begins f k zero less = absurd (omega arith)
below_begins {X} f k (suc n) less = ⊎_elim
    (λ before.
    let (rest, is) = below_begins f k n before in (
      rest ++ f n,
      ap (λ (m : ℕ). flat_map f (below m)) {x = suc n} {y = n + 1} (omega arith) ∙ below_more f n
          ∙ ap (λ (l : List X). l ++ f n) is
          ∙ append_assoc (flat_map f (below k) ++ f k) rest (f n),
    ))
    (λ from.
    let same : suc n ≡ k + 1 = omega (arith, less, from) in (
      [],
      ap (λ (m : ℕ). flat_map f (below m)) same ∙ below_more f k ∙ sym (append-nil (flat_map f (below k) ++ f k)),
    ))
    (cases_lt k n)

-- a block, as it is cut out of the image, has its size, which is of whole words
pub block_long : (size : ℕ) (image : List ℕ) (k : ℕ) (block : List ℕ) → block ≡ block_of size image k → length block ≡ size
block_long size image k block is = ap length is ∙ length_block_of size image k

pub block_words : (size : ℕ) (image : List ℕ) (k : ℕ) (block : List ℕ) → block ≡ block_of size image k → IsTrue (is_block_size size) → length block % 4 ≡ 0
block_words size image k block is fits = ap (λ (n : ℕ). n % 4) (block_long size image k block is) ∙ readable_words size fits
