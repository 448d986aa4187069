-- The worked row: of four blocks the third is taken, and the fourth lies past the image's end.
use Rattle.std.proofs.Common.{◌≡◌, ℕ, ◌+◌, ◌-◌, ◌*◌, ◌<◌, ◌≤◌, Bool, true, false, List, [], ◌∷◌, ◌++◌, length, take, get_or, refl, sym, ap, ◌∙◌, arith, inl, inr, length-append}
use Rattle.std.specs.Prelude.{filter, bytes_eq}
use Rattle.std.proofs.lemmas.Bool.{cases_Bool}
use Rattle.std.proofs.lemmas.List.{get_or_append_left, get_or-append_right, get_or-replicate, length-replicate}
use Rattle.std.proofs.lemmas.Slice.Eq.{bytes_eq-Decides}
use Rattle.flashbase.specs.Bytes.{erased}
use Rattle.flashbase.specs.Lists.{below}
use Rattle.jnode.specs.Writing.{clean_marker}
use Rattle.jnode.specs.declared.order.Endian.{Endian}
use Rattle.jscan.specs.Blank.{marked, is_blank}
use Rattle.jscan.specs.Image.{block_of}
use Rattle.jscan.proofs.BlankCalls.{blank_found, blank_none}
use Rattle.jscan.proofs.BlockLemmas.{block_past}
use Rattle.jlog.proofs.ByteLemmas.{erased_is, block_long, block_byte, erased_end, past_cut}
use Rattle.jrow.specs.Row.{blank_blocks}

erased_is_blank : (e : Endian) (size : ℕ) → is_blank e size (erased size) ≡ true
erased_is_blank e size =
    let none : size - 0 ≡ size = omega arith in
    blank_found e size (erased size) 0 (omega arith) ((bytes_eq-Decides _ _).1 (sym (ap erased none)))

-- an erased front
front_is_blank : (e : Endian) (size n b : ℕ) (rest : List ℕ) → (b + 1) * size ≤ n → is_blank e size (block_of size (erased n ++ rest) b) ≡ true
front_is_blank e size n b rest within =
    ap (is_blank e size)
    (erased_is (block_of size (erased n ++ rest) b) size (block_long size (erased n ++ rest) b) (λ i inside.
    let before : b * size + i < n = omega arith in
    block_byte size (erased n ++ rest) b i inside
    ∙ (get_or_append_left (erased n) rest 0xFF (b * size + i) (omega (arith, before, length-replicate {A = ℕ} n 0xFF)) ∙ get_or-replicate n (b * size + i) 0xFF 0xFF before)))
    ∙ erased_is_blank e size

-- a block past the end
past_is_blank : (e : Endian) (size b : ℕ) (image : List ℕ) → length image ≤ b * size → is_blank e size (block_of size image b) ≡ true
past_is_blank e size b image past = ap (is_blank e size) (block_past size image b past) ∙ erased_is_blank e size

-- a block that has a byte behind the marker
taken_is_not_blank : (e : Endian) (size n b : ℕ) (rest : List ℕ) → n ≡ b * size → 12 < size → get_or rest 12 0xFF < 0xFF → is_blank e size (block_of size (erased n ++ rest) b) ≡ false
taken_is_not_blank e size n b rest at large behind =
    let block : List ℕ = block_of size (erased n ++ rest) b in
    let there : get_or block 12 0xFF ≡ get_or rest 12 0xFF =
    block_byte size (erased n ++ rest) b 12 large
    ∙ (get_or-append_right (erased n) rest n (b * size + 12) 0xFF (length-replicate {A = ℕ} n 0xFF) (omega (arith, at))
    ∙ ap (λ (i : ℕ). get_or rest i 0xFF) (omega (arith, at))) in
    blank_none e size block (λ j less.
    elim (cases_Bool (bytes_eq block (marked e size j))) [
      | inl same ↦
          let is : block ≡ marked e size j = (bytes_eq-Decides block (marked e size j)).0 same in
          let clear : get_or (marked e size j) 12 0xFF ≡ 0xFF = erased_end (take j (clean_marker e)) (size - j) 12 ∙ past_cut (clean_marker e) j 12 (omega arith) in
          absurd (omega (arith, behind, sym there ∙ (ap (λ (l : List ℕ). get_or l 12 0xFF) is ∙ clear)))
      | inr not ↦ not
    ])

four_tested : (p : ℕ → Bool) → p 0 ≡ true → p 1 ≡ true → p 2 ≡ false → p 3 ≡ true → filter p (below 4) ≡ 0 ∷ 1 ∷ 3 ∷ []
four_tested p first second third fourth = rw first (rw second (rw third (rw fourth refl)))

pub third_taken : (e : Endian) (size n : ℕ) (rest : List ℕ) → n ≡ 2 * size → 12 < size → length rest ≤ size → get_or rest 12 0xFF < 0xFF → blank_blocks e size 4 (erased n ++ rest) ≡ 0 ∷ 1 ∷ 3 ∷ []
third_taken e size n rest at large small behind =
    let image : List ℕ = erased n ++ rest in
    four_tested (λ b. is_blank e size (block_of size image b)) (front_is_blank e size n 0 rest (omega (arith, at))) (front_is_blank e size n 1 rest (omega (arith, at)))
    (taken_is_not_blank e size n 2 rest at large behind)
    (past_is_blank e size 3 image (omega (arith, at, small, length-append (erased n) rest, length-replicate {A = ℕ} n 0xFF)))
