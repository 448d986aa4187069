-- What the search for the blank tail of a flash meets.
use Rattle.std.proofs.Common.{◌≡◌, ◌↔◌, ◌≤◌, ◌<◌, ◌+◌, ◌-◌, ◌*◌, ◌||◌, ℕ, zero, suc, Bool, true, false, List, [], ◌∷◌, ◌++◌, length, take, drop, slice_index, refl, sym, ap, ap₂, ◌∙◌, arith, inl, inr}
use Rattle.std.specs.Prelude.{bytes_eq}
use Rattle.std.specs.List.{list_any}
use Rattle.std.proofs.lemmas.Bool.{cases_lt, cases_Bool, both_ways, or_left, or_right}
use Rattle.std.proofs.lemmas.List.{length-take-le, length-append, length-replicate, take-append-drop, get_or-replicate, get_or_append_left, get_or-take, replicate-append-replicate, drop_at}
use Rattle.std.proofs.lemmas.List.Folds.{list_any-append}
use Rattle.std.proofs.Math.Seq.{take-append_seam}
use Rattle.std.proofs.lemmas.Slice.Eq.{bytes_eq-Decides}
use Rattle.std.proofs.lemmas.Grind.{div_ceil_times}
use Rattle.flashbase.specs.Bytes.{erased, IsErasedRun}
use Rattle.flashbase.specs.Lists.{below}
use Rattle.jnode.specs.declared.order.Endian.{Endian}
use Rattle.jscan.specs.Image.{block_of, block_count}
use Rattle.jscan.specs.Blank.{marked, is_blank, AreBlankFrom, IsBlankFrom}
use Rattle.jscan.proofs.BlockLemmas.{block_past, past_count, count_within}

-- ---- an erased part

all_erased : (xs : List ℕ) → ((k : ℕ) → k < length xs → slice_index xs k ≡ 0xFF) → xs ≡ erased (length xs)
all_erased [] run = refl
all_erased (x ∷ xs) run = ap₂ (λ (y : ℕ) (ys : List ℕ). y ∷ ys) (run 0 (omega arith)) (all_erased xs (λ k h. run (suc k) (omega arith)))

-- a part is erased just where the run takes all that the image has of it
pub part_erased : (part present : List ℕ) (run : ℕ) → part ≡ present ++ erased (length part - length present) → IsErasedRun present run
    → (run ≡ length present) ↔ (part ≡ erased (length part))
part_erased part present run is erased_run =
    let size : length part ≡ length present + (length part - length present) =
    ap length is ∙ length-append present (erased (length part - length present)) ∙ ap (λ (n : ℕ). length present + n) (length-replicate {A = ℕ} (length part - length present) 0xFF) in (
      λ all.
          let same : present ≡ erased (length present) = all_erased present (λ k h. erased_run.erased k (omega arith)) in
          is ∙ ap (λ (h : List ℕ). h ++ erased (length part - length present)) same
          ∙ replicate-append-replicate (length present) (length part - length present) 0xFF ∙ ap erased (sym size),
      λ same. elim (cases_lt run (length present)) [
        | inl less ↦ absurd (erased_run.stops less
            (sym (get_or_append_left present (erased (length part - length present)) 0 run less)
            ∙ ap (λ (l : List ℕ). slice_index l run) (sym is ∙ same) ∙ get_or-replicate (length part) run 0xFF 0 (omega arith)))
        | inr past ↦ let within = erased_run.within in omega arith
      ],
    )

-- ---- a beginning

pub same_list : (a b : List ℕ) → length a ≡ length b → ((k : ℕ) → k < length b → slice_index a k ≡ slice_index b k) → a ≡ b
same_list [] [] h each = refl
same_list [] (y ∷ b) h each = absurd (omega arith)
same_list (x ∷ a) [] h each = absurd (omega arith)
same_list (x ∷ a) (y ∷ b) h each = ap₂ (λ (z : ℕ) (zs : List ℕ). z ∷ zs) (each 0 (omega arith)) (same_list a b (omega arith) (λ k less. each (suc k) (omega arith)))

pub begins : (block front : List ℕ) → length front ≤ length block → ((k : ℕ) → k < length front → slice_index block k ≡ slice_index front k)
    → take (length front) block ≡ front
begins block front within each =
    same_list (take (length front) block) front (length-take-le (length front) block within) (λ k less. get_or-take (length front) block k 0 less ∙ each k less)

pub begins_not : (block front : List ℕ) (k : ℕ) → k < length front → (slice_index block k ≡ slice_index front k → ⊥) → take (length front) block ≡ front → ⊥
begins_not block front k less differs same =
    differs (sym (get_or-take (length front) block k 0 less) ∙ ap (λ (l : List ℕ). slice_index l k) same)

-- ---- a block that a cut marker leaves

same_bool : (a b : Bool) → (a ≡ true → b ≡ true) → (b ≡ true → a ≡ true) → a ≡ b
same_bool false false to from = refl
same_bool false true to from = from refl
same_bool true b to from = sym (to refl)

pub marked_parts : (block front : List ℕ) (n : ℕ) → length front ≡ n → take n block ≡ front → drop n block ≡ erased (length block - n)
    → bytes_eq block (front ++ erased (length block - n)) ≡ true
marked_parts block front n long first rest =
    (bytes_eq-Decides _ _).1 (sym (take-append-drop n block) ∙ ap₂ (λ (a b : List ℕ). a ++ b) first rest)

pub marked_front : (block front : List ℕ) (n : ℕ) → length front ≡ n → (take n block ≡ front → ⊥) → bytes_eq block (front ++ erased (length block - n)) ≡ false
marked_front block front n long differs = elim (cases_Bool (bytes_eq block (front ++ erased (length block - n)))) [
  | inl t ↦ absurd (differs (ap₂ (λ (k : ℕ) (xs : List ℕ). take k xs) (sym long) ((bytes_eq-Decides _ _).0 t) ∙ take-append_seam front (erased (length block - n))))
  | inr f ↦ f
]

pub marked_rest : (block front : List ℕ) (n : ℕ) → length front ≡ n → (drop n block ≡ erased (length block - n) → ⊥) → bytes_eq block (front ++ erased (length block - n)) ≡ false
marked_rest block front n long differs = elim (cases_Bool (bytes_eq block (front ++ erased (length block - n)))) [
  | inl t ↦ absurd (differs (ap (drop n) ((bytes_eq-Decides _ _).0 t) ∙ drop_at front (erased (length block - n)) n long))
  | inr f ↦ f
]

-- ---- a blank block

any_below : (p : ℕ → Bool) (n j : ℕ) → j < n → p j ≡ true → list_any p (below n) ≡ true
any_below p zero j less hit = absurd (omega arith)
any_below p (suc n) j less hit = list_any-append p (below n) (n ∷ []) ∙ elim (cases_lt j n) [
  | inl before ↦ or_left _ _ (any_below p n j before hit)
  | inr at ↦ let here : j ≡ n = omega arith in or_right _ _ (or_left _ _ (ap p (sym here) ∙ hit))
]

none_below : (p : ℕ → Bool) (n : ℕ) → ((j : ℕ) → j < n → p j ≡ false) → list_any p (below n) ≡ false
none_below p zero none = refl
none_below p (suc n) none =
    list_any-append p (below n) (n ∷ []) ∙ ap₂ (λ (a b : Bool). a || (b || false)) (none_below p n (λ j less. none j (omega arith))) (none n (omega arith))

pub blank_found : (e : Endian) (size : ℕ) (block : List ℕ) (j : ℕ) → j < 13 → bytes_eq block (marked e size j) ≡ true → is_blank e size block ≡ true
unfolding is_blank
blank_found e size block j less hit = any_below (λ i. bytes_eq block (marked e size i)) 13 j less hit

pub blank_none : (e : Endian) (size : ℕ) (block : List ℕ) → ((j : ℕ) → j < 13 → bytes_eq block (marked e size j) ≡ false) → is_blank e size block ≡ false
unfolding is_blank
blank_none e size block none = none_below (λ i. bytes_eq block (marked e size i)) 13 none

-- ---- from the last block down

erased_is_blank : (e : Endian) (size : ℕ) → is_blank e size (erased size) ≡ true
erased_is_blank e size =
    let none : size - 0 ≡ size = omega arith in
    blank_found e size (erased size) 0 (omega arith) ((bytes_eq-Decides _ _).1 (sym (ap erased none)))

pub blank_past : (e : Endian) (size : ℕ) (image : List ℕ) (blocks : ℕ) → 0 < size → length image ≤ blocks * size
    → AreBlankFrom e size image blocks (block_count size image)
blank_past e size image blocks some within = record {
  within = count_within size blocks image some within;
  blank = λ k from to. ap (is_blank e size) (block_past size image k (past_count size image k some from)) ∙ erased_is_blank e size;
}

pub blank_before : (e : Endian) (size : ℕ) (image : List ℕ) (blocks b : ℕ) → 0 < b → is_blank e size (block_of size image (b - 1)) ≡ true
    → AreBlankFrom e size image blocks b → AreBlankFrom e size image blocks (b - 1)
blank_before e size image blocks b some blank rest =
    let within = rest.within in
    record {
      within = omega arith;
      blank = λ k from to. elim (cases_lt (b - 1) k) [
        | inl after ↦ rest.blank k (omega arith) to
        | inr at ↦ let here : b - 1 ≡ k = omega arith in ap (λ (i : ℕ). is_blank e size (block_of size image i)) (sym here) ∙ blank
      ];
    }

pub blank_stops : (e : Endian) (size : ℕ) (image : List ℕ) (blocks b : ℕ) → 0 < b → is_blank e size (block_of size image (b - 1)) ≡ false
    → AreBlankFrom e size image blocks b → IsBlankFrom e size image blocks b
blank_stops e size image blocks b some full rest =
    let within = rest.within in
    record {
      blank = rest;
      least = λ c h. elim (cases_lt c b) [
        | inl under ↦ absurd (both_ways _ full (h.blank (b - 1) (omega arith) (omega arith)))
        | inr above ↦ above
      ];
    }

pub blank_all : (e : Endian) (size : ℕ) (image : List ℕ) (blocks b : ℕ) → b ≡ 0 → AreBlankFrom e size image blocks b → IsBlankFrom e size image blocks b
blank_all e size image blocks b none rest = record { blank = rest; least = λ c h. omega arith }

-- a block that the count takes in begins in the image
pub begins_in : (size k : ℕ) (image : List ℕ) → 0 < size → 0 < k → k ≤ block_count size image → (k - 1) * size ≤ length image
begins_in size k image some past few = grind (arith, div_ceil_times (length image) size some, past, few)
