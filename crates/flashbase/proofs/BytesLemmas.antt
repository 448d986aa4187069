-- What padding to words gives, and the longest beginning of 0xFF by its computable form.
use Rattle.std.proofs.Common.{◌≡◌, ◌==◌, ℕ, ◌+◌, ◌-◌, ◌*◌, ◌%◌, ◌^◌, ◌<◌, ◌≤◌, ◌↔◌, Bool, true, false, not, cond, eqb, List, [], ◌∷◌, map, length, take, drop, get_or, replicate, slice_index, refl, sym, ap, ap₂, ◌∙◌, subst, arith, inl, inr, w8, eq-eqb, length-drop}
use Rattle.std.proofs.lemmas.Bool.{cases_lt, eqb-true, eqb-false, ne_eqb}
use Rattle.std.proofs.lemmas.List.{get_or-take, get_or-drop, get_or-replicate}
use Rattle.std.proofs.lemmas.List.Sums.{prefix_len_is, prefix_len_passes, prefix_len_stops, prefix_len-le-length}
use Rattle.std.proofs.lemmas.Simd.{bitmask_splat}
use lib.Lanes.{zip2, mask_l, top}
use Rattle.flashbase.specs.Bytes.{IsErasedRun, erased, erased_run, pad4_of}
use Rattle.flashbase.specs.Laws.{Pad4IsLeast, ErasedRunIsLongest}

pub le_pad4 : (n : ℕ) → n ≤ pad4_of n
unfolding pad4_of
le_pad4 n = omega arith

pub pad4_below : (n : ℕ) → pad4_of n < n + 4
unfolding pad4_of
pad4_below n = omega arith

pub pad4_words : (n : ℕ) → pad4_of n % 4 ≡ 0
unfolding pad4_of
pad4_words n = omega arith

-- no multiple of 4 is between
pub pad4_least : (n m : ℕ) → n ≤ m → m % 4 ≡ 0 → pad4_of n ≤ m
unfolding pad4_of
pad4_least n m h words = omega arith

pub pad4_is_least : Pad4IsLeast
pad4_is_least n = record { at_least = le_pad4 n; multiple = pad4_words n; least = pad4_least n }

-- ---- runs

pub erased_run_is_longest : ErasedRunIsLongest
erased_run_is_longest bytes n = (
  λ run. sym (prefix_len_is (λ b. b == 0xFF) bytes n 0 run.within
      (λ k h. let here : slice_index bytes k ≡ 0xFF = run.erased k h in ap (λ (b : ℕ). b == 0xFF) here)
      (λ h. ne_eqb (slice_index bytes n) 0xFF (run.stops h))),
  λ is. subst (IsErasedRun bytes) (sym is) (record {
    within = prefix_len-le-length (λ b. b == 0xFF) bytes;
    erased = λ k h. eqb-true (slice_index bytes k) 0xFF (prefix_len_passes (λ b. b == 0xFF) bytes k 0 h);
    stops = λ h. eqb-false (slice_index bytes (erased_run bytes)) 0xFF (prefix_len_stops (λ b. b == 0xFF) bytes 0 h);
  }),
)

-- after n erased bytes the run goes on
pub erased_run-behind : (n r : ℕ) (bytes : List ℕ) → n ≤ length bytes → take n bytes ≡ erased n → IsErasedRun (drop n bytes) r → IsErasedRun bytes (n + r)
erased_run-behind n r bytes within front run = record {
  within = omega (arith, run.within, length-drop n bytes);
  erased = λ k h. elim (cases_lt k n) [
    | inl lt ↦ sym (get_or-take n bytes k 0 lt) ∙ ap (λ (l : List ℕ). get_or l k 0) front ∙ get_or-replicate n k 0xFF 0 lt
    | inr ge ↦
        let i : ℕ = k - n in
        let there : n + i ≡ k = omega arith in
        ap (λ (j : ℕ). slice_index bytes j) (sym there) ∙ sym (get_or-drop n bytes i 0) ∙ run.erased i (omega arith)
  ];
  stops = λ h is. run.stops (omega (arith, length-drop n bytes)) (get_or-drop n bytes r 0 ∙ is);
}

-- ---- lanes that differ from 0xFF

none_differ : (xs : List ℕ) → (mask_l (map (λ x. not (eqb x 0xFF)) xs) ≡ 0) ↔ (xs ≡ erased (length xs))
none_differ [] = (λ _. refl, λ _. refl)
none_differ (x ∷ xs) = first_differs x xs (none_differ xs) (eqb x 0xFF) refl
  where
    first_differs : (x : ℕ) (xs : List ℕ) → ((mask_l (map (λ y. not (eqb y 0xFF)) xs) ≡ 0) ↔ (xs ≡ erased (length xs)))
        → (t : Bool) → eqb x 0xFF ≡ t → (cond (not t) 1 0 + 2 * mask_l (map (λ y. not (eqb y 0xFF)) xs) ≡ 0) ↔ (x ∷ xs ≡ 0xFF ∷ erased (length xs))
    first_differs x xs rest true e = (
      λ none. ap₂ (λ (y : ℕ) (ys : List ℕ). y ∷ ys) (eqb-true x 0xFF e) (rest.0 (omega arith)),
      λ is. let none = rest.1 (ap (drop 1) is) in omega arith,
    )
    first_differs x xs rest false e = (
      λ none. absurd (omega arith),
      λ is. absurd (eqb-false x 0xFF e (ap (λ (l : List ℕ). get_or l 0 0) is)),
    )

pub erased_of_mask : (xs : List ℕ) → length xs ≡ 64
    → (eqb (mask_l (map (top 7) (zip2 (λ a b. cond (not (eqb a b)) 255 0) xs (replicate 64 0xFF))) % 2 ^ 64) 0 ≡ true) ↔ (xs ≡ erased 64)
erased_of_mask xs long =
    let mask = bitmask_splat w8 (λ (a b : ℕ). not (eqb a b)) xs 64 0xFF long (omega arith) in
    let none : (mask_l (map (λ x. not (eqb x 0xFF)) xs) ≡ 0) ↔ (xs ≡ erased 64) = subst (λ n. (mask_l (map (λ x. not (eqb x 0xFF)) xs) ≡ 0) ↔ (xs ≡ erased n)) long (none_differ xs) in
    (λ t. none.0 (sym mask ∙ eqb-true _ _ t), λ is. eq-eqb _ _ (mask ∙ none.1 is))
