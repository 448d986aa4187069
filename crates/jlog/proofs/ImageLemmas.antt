-- What is reported of an image, block by block.
use Rattle.std.proofs.Common.{◌≡◌, ℕ, zero, suc, ◌+◌, ◌-◌, ◌*◌, ◌%◌, ◌<◌, ◌≤◌, Bool, true, false, List, [], ◌∷◌, ◌++◌, length, refl, sym, ap, ap₂, ◌∙◌, arith, inl, inr, append_assoc}
use Rattle.std.specs.Prelude.{flat_map, filter, bytes_eq, IsTrue, nat_le, ◌&&◌, ◌==◌}
use Rattle.std.specs.List.{list_any}
use Rattle.std.proofs.lemmas.Bool.{and_parts, leb-true, eqb-true, or_cases, false≢true}
use Rattle.std.proofs.lemmas.Grind.{flat_map-append}
use Rattle.std.proofs.lemmas.List.{append-nil}
use Rattle.std.proofs.lemmas.List.Elements.{filter-append}
use Rattle.std.proofs.lemmas.List.Folds.{list_any-append}
use Rattle.std.proofs.lemmas.Slice.Eq.{bytes_eq-Decides}
use Rattle.flashbase.specs.Lists.{below}
use Rattle.jnode.specs.declared.node.Seen.{Seen}
use Rattle.jnode.specs.declared.order.Endian.{Endian}
use Rattle.jscan.specs.Image.{is_block_size, block_of, block_count, sightings_in, sightings}
use Rattle.jscan.specs.Blank.{marked, is_blank, AreBlankFrom}
use Rattle.flashbase.proofs.ListLemmas.{flat_map-below}
use Rattle.jscan.proofs.BlockLemmas.{block_past, past_count, count_within}
use Rattle.jscan.proofs.HeaderlessLemmas.{erased_has_no_nodes}
use Rattle.jlog.specs.LeftLaws.{tells}
use Rattle.jlog.proofs.SightLemmas.{told, marked_told}
use Rattle.jlog.proofs.FlashLemmas.{up}

-- ---- an image's sightings are those of the flash's blocks

sightings_are_of_blocks : (e : Endian) (size blocks : ℕ) (image : List ℕ) → 0 < size → length image ≤ blocks * size
    → sightings e size image ≡ flat_map (λ k. sightings_in e (k * size) (block_of size image k)) (below blocks)
sightings_are_of_blocks e size blocks image p h =
    let n : ℕ = block_count size image in
    let le : n ≤ blocks = count_within size blocks image p h in
    let sum : (blocks - n) + n ≡ blocks = omega arith in
    sym (flat_map-below (λ k. sightings_in e (k * size) (block_of size image k)) n (blocks - n)
    (λ k q. ap (sightings_in e (k * size)) (block_past size image k (past_count size image k p q)) ∙ erased_has_no_nodes e (k * size) size))
    ∙ ap (λ (m : ℕ). flat_map (λ k. sightings_in e (k * size) (block_of size image k)) (below m)) sum

-- ---- what is told of it

filter-flat_map : {A B : Type 0} (p : B → Bool) (g : A → List B) (xs : List A) → filter p (flat_map g xs) ≡ flat_map (λ x. filter p (g x)) xs
filter-flat_map p g [] = refl
filter-flat_map p g (x ∷ xs) = filter-append p (g x) (flat_map g xs) ∙ ap (λ ys. filter p (g x) ++ ys) (filter-flat_map p g xs)

-- of the first n blocks
pub told_below : Endian → ℕ → (ℕ → List ℕ) → ℕ → List (ℕ × Seen)
told_below e size flash n = flat_map (λ k. told e (k * size) 0 (flash k)) (below n)

below_one : (e : Endian) (size : ℕ) (flash : ℕ → List ℕ) (n : ℕ) → told_below e size flash (suc n) ≡ told_below e size flash n ++ told e (n * size) 0 (flash n)
unfolding told_below
below_one e size flash n =
    flat_map-append (λ k. told e (k * size) 0 (flash k)) (below n) (n ∷ [])
    ∙ ap (λ ys. flat_map (λ k. told e (k * size) 0 (flash k)) (below n) ++ ys) (append-nil (told e (n * size) 0 (flash n)))

-- those up to b, and those after
pub below_up : (e : Endian) (size : ℕ) (flash : ℕ → List ℕ) (b n : ℕ) → told_below e size flash (b + n) ≡ told_below e size flash b ++ up e size flash b n
below_up e size flash b zero =
    let same : b + 0 ≡ b = omega arith in
    ap (told_below e size flash) same ∙ sym (append-nil (told_below e size flash b))
below_up e size flash b (suc n) =
    let next : b + suc n ≡ suc b + n = omega arith in
    ap (told_below e size flash) next
    ∙ (below_up e size flash (suc b) n
    ∙ (ap (λ ys. ys ++ up e size flash (suc b) n) (below_one e size flash b)
    ∙ append_assoc (told_below e size flash b) (told e (b * size) 0 (flash b)) (up e size flash (suc b) n)))

pub below_same : (e : Endian) (size : ℕ) (flash other : ℕ → List ℕ) (n : ℕ) → ((k : ℕ) → k < n → flash k ≡ other k) → told_below e size flash n ≡ told_below e size other n
unfolding told_below
below_same e size flash other zero same = refl
below_same e size flash other (suc n) same =
    below_one e size flash n
    ∙ (ap₂ (λ (ys : List (ℕ × Seen)) (block : List ℕ). ys ++ told e (n * size) 0 block) (below_same e size flash other n (λ k less. same k (omega arith))) (same n (omega arith))
    ∙ sym (below_one e size other n))

pub told_image : (e : Endian) (size blocks : ℕ) (image : List ℕ) → 0 < size → length image ≤ blocks * size
    → filter tells (sightings e size image) ≡ told_below e size (block_of size image) blocks
unfolding told_below
told_image e size blocks image some within =
    ap (filter tells) (sightings_are_of_blocks e size blocks image some within)
    ∙ filter-flat_map tells (λ k. sightings_in e (k * size) (block_of size image k)) (below blocks)

-- ---- blank blocks

-- one below n passes the test
some_below : (p : ℕ → Bool) (n : ℕ) → list_any p (below n) ≡ true → (j : ℕ) × (j < n) × (p j ≡ true)
some_below p zero any = absurd (false≢true any)
some_below p (suc n) any = elim (or_cases (list_any p (below n)) (list_any p (n ∷ [])) (sym (list_any-append p (below n) (n ∷ [])) ∙ any)) [
  | inl before ↦ let it = some_below p n before in (it.0, omega (arith, it.1), it.2)
  | inr at ↦ elim (or_cases (p n) false at) [
    | inl here ↦ (n, omega arith, here)
    | inr none ↦ absurd (false≢true none)
  ]
]

blank_is_marked : (e : Endian) (size : ℕ) (block : List ℕ) → is_blank e size block ≡ true → (j : ℕ) × (j ≤ 12) × (block ≡ marked e size j)
unfolding is_blank
blank_is_marked e size block blank =
    let it = some_below (λ j. bytes_eq block (marked e size j)) 13 blank in
    (it.0, omega (arith, it.1), (bytes_eq-Decides _ _).0 it.2)

pub blank_up : (e : Endian) (size blocks : ℕ) (image : List ℕ) (from b n : ℕ) → 12 ≤ size → AreBlankFrom e size image blocks from → from ≤ b → b + n ≤ blocks
    → up e size (block_of size image) b n ≡ []
blank_up e size blocks image from b zero large blank low within = refl
blank_up e size blocks image from b (suc n) large blank low within =
    let it = blank_is_marked e size (block_of size image b) (blank.blank b low (omega arith)) in
    ap (λ ys. ys ++ up e size (block_of size image) (suc b) n) (ap (told e (b * size) 0) it.2 ∙ marked_told e (b * size) size it.0 it.1 large)
    ∙ blank_up e size blocks image from (suc b) n large blank (omega arith) (omega arith)

-- ---- the limits on blocks

pub record BlockSize (size : ℕ) : Type 0 where
  pub least : 4096 ≤ size
  pub most : size ≤ 4194304
  pub words : size % 4 ≡ 0

pub block_size : (size : ℕ) → IsTrue (is_block_size size) → BlockSize size
block_size size ok =
    let both = and_parts (nat_le 4096 size && nat_le size 4194304) (size % 4 == 0) ok in
    let ends = and_parts (nat_le 4096 size) (nat_le size 4194304) both.0 in
    record { least = leb-true 4096 size ends.0; most = leb-true size 4194304 ends.1; words = eqb-true (size % 4) 0 both.1 }
