-- The first difference of two lists, piece by piece.
use Rattle.std.proofs.Common.{◌≡◌, ℕ, zero, suc, ◌+◌, ◌-◌, ◌≤◌, ◌<◌, ◌==◌, min, nat_lt, take_all, cond, Bool, true, false, List, [], ◌∷◌, ◌++◌, length, take, drop, get_or, slice_index, refl, sym, ap, ◌∙◌, arith, Option, Some, None}
use Rattle.std.specs.Prelude.{option_map}
use Rattle.std.proofs.Math.Seq.{drop-cons}
use Rattle.std.proofs.lemmas.Grind.{common_steps, same_number_lists}
use Rattle.std.proofs.lemmas.Bool.{eqb-true, eq-eqb, ltb-true, ltb-false}
use Rattle.std.proofs.lemmas.List.{length-drop, length-take, get_or-take, get_or-drop}
use Rattle.jmount.proofs.PieceLemmas.{piece_read}
use Rattle.jdiff.specs.Changes.{first_difference}

-- a place that is n further on
abbrev pub moved : ℕ → Option ℕ → Option ℕ
moved n place = option_map (λ k. n + k) place

moved_suc : (n : ℕ) (o : Option ℕ) → option_map suc (moved n o) ≡ moved (suc n) o
moved_suc n None = refl
moved_suc n (Some k) = ap Some (omega arith)

moved_none : (o : Option ℕ) → o ≡ moved 0 o
moved_none None = refl
moved_none (Some k) = ap Some (omega arith)

moved_twice : (m n : ℕ) (o : Option ℕ) → moved m (moved n o) ≡ moved (m + n) o
moved_twice m n None = refl
moved_twice m n (Some k) = ap Some (omega arith)

unmapped : (o : Option ℕ) → option_map suc o ≡ None → o ≡ None
unmapped None e = refl
unmapped (Some k) e = cc

-- the first n bytes are the same
pub piece_same : (n : ℕ) (xs ys : List ℕ) → first_difference (take n xs) (take n ys) ≡ None → first_difference xs ys ≡ moved n (first_difference (drop n xs) (drop n ys))
piece_same zero xs ys same = moved_none (first_difference xs ys)
piece_same (suc n) [] [] same = refl
piece_same (suc n) [] (y ∷ ys) same = cc
piece_same (suc n) (x ∷ xs) [] same = cc
piece_same (suc n) (x ∷ xs) (y ∷ ys) same = by (x == y) (λ e. piece_same n xs ys e) same
  where
    by : (b : Bool) → (first_difference (take n xs) (take n ys) ≡ None → first_difference xs ys ≡ moved n (first_difference (drop n xs) (drop n ys)))
        → cond b (option_map suc (first_difference (take n xs) (take n ys))) (Some 0) ≡ None
        → cond b (option_map suc (first_difference xs ys)) (Some 0) ≡ moved (suc n) (first_difference (drop n xs) (drop n ys))
    by true rest is =
        ap (option_map suc) (rest (unmapped (first_difference (take n xs) (take n ys)) is))
        ∙ moved_suc n (first_difference (drop n xs) (drop n ys))
    by false rest is = cc

-- they are not
pub piece_differs : (n : ℕ) (xs ys : List ℕ) (k : ℕ) → first_difference (take n xs) (take n ys) ≡ Some k → first_difference xs ys ≡ Some k
piece_differs zero xs ys k at = cc
piece_differs (suc n) [] [] k at = at
piece_differs (suc n) [] (y ∷ ys) k at = at
piece_differs (suc n) (x ∷ xs) [] k at = at
piece_differs (suc n) (x ∷ xs) (y ∷ ys) k at = by (x == y) (λ j e. piece_differs n xs ys j e) at
  where
    inner : (o p : Option ℕ) → ((j : ℕ) → o ≡ Some j → p ≡ Some j) → option_map suc o ≡ Some k → option_map suc p ≡ Some k
    inner None p each is = cc
    inner (Some j) p each is = ap (option_map suc) (each j refl) ∙ is

    by : (b : Bool) → ((j : ℕ) → first_difference (take n xs) (take n ys) ≡ Some j → first_difference xs ys ≡ Some j)
        → cond b (option_map suc (first_difference (take n xs) (take n ys))) (Some 0) ≡ Some k
        → cond b (option_map suc (first_difference xs ys)) (Some 0) ≡ Some k
    by true rest is = inner (first_difference (take n xs) (take n ys)) (first_difference xs ys) rest is
    by false rest is = is

-- ---- from a place on

-- the bytes below a place are the same
abbrev pub SameBelow : List ℕ → List ℕ → ℕ → Type 0
SameBelow xs ys at = first_difference xs ys ≡ moved at (first_difference (drop at xs) (drop at ys))

pub same_at_first : (xs ys : List ℕ) → SameBelow xs ys 0
same_at_first xs ys = moved_none (first_difference xs ys)

pub same_on : (xs ys : List ℕ) (at n : ℕ) → SameBelow xs ys at → first_difference (take n (drop at xs)) (take n (drop at ys)) ≡ None → SameBelow xs ys (at + n)
same_on xs ys at n before same =
    before
    ∙ ap (moved at) (piece_same n (drop at xs) (drop at ys) same)
    ∙ moved_twice at n (first_difference (drop n (drop at xs)) (drop n (drop at ys)))
    ∙ ap (λ (l : List ℕ). moved (at + n) (first_difference l (drop n (drop at ys)))) (drop_twice xs)
    ∙ ap (λ (l : List ℕ). moved (at + n) (first_difference (drop (at + n) xs) l)) (drop_twice ys)
  where
    drop_twice : (l : List ℕ) → drop n (drop at l) ≡ drop (at + n) l
    drop_twice l = grind (arith, common_steps)

pub differs_on : (xs ys : List ℕ) (at n k : ℕ) → SameBelow xs ys at → first_difference (take n (drop at xs)) (take n (drop at ys)) ≡ Some k → first_difference xs ys ≡ Some (at + k)
differs_on xs ys at n k before is = before ∙ ap (moved at) (piece_differs n (drop at xs) (drop at ys) k is)

drop_all : (xs : List ℕ) (n : ℕ) → length xs ≤ n → drop n xs ≡ []
drop_all xs n h = grind (arith, common_steps)

pub same_whole : (xs ys : List ℕ) (at : ℕ) → SameBelow xs ys at → length xs ≤ at → length ys ≤ at → first_difference xs ys ≡ None
same_whole xs ys at before short other =
    before
    ∙ ap (λ (l : List ℕ). moved at (first_difference l (drop at ys))) (drop_all xs at short)
    ∙ ap (λ (l : List ℕ). moved at (first_difference [] l)) (drop_all ys at other)

fills : (k : ℕ) (l : List ℕ) → k ≡ min 4096 (length l) → take k l ≡ take 4096 l
fills k l is = by (nat_lt 4096 (length l)) refl
  where
    by : (b : Bool) → nat_lt 4096 (length l) ≡ b → take k l ≡ take 4096 l
    by true long = ap (λ (n : ℕ). take n l) {x = k} {y = 4096} (omega (arith, is, ltb-true 4096 (length l) long))
    by false short = take_all k l (omega (arith, is, ltb-false 4096 (length l) short)) ∙ sym (take_all 4096 l (ltb-false 4096 (length l) short))

-- a piece that was read of bytes from a place on
pub piece_of : (bytes old new : List ℕ) (at n : ℕ) → n ≡ min (length old) (length bytes - at) → length old ≡ 4096 → new ≡ take n (drop at bytes) ++ drop n old
    → take n new ≡ take 4096 (drop at bytes)
piece_of bytes old new at n count long is =
    piece_read bytes old new at n 4096 (omega (arith, count, long)) is
    ∙ fills n (drop at bytes) (omega (arith, count, long, length-drop at bytes))

-- ---- byte by byte

pub byte_same : (xs ys : List ℕ) (i : ℕ) → SameBelow xs ys i → i < length xs → i < length ys → get_or xs i 0 ≡ get_or ys i 0 → SameBelow xs ys (i + 1)
byte_same xs ys i before short other same =
    same_on xs ys i 1 before
    (ap (λ (l : List ℕ). first_difference (take 1 l) (take 1 (drop i ys))) (drop-cons xs i 0 short)
    ∙ ap (λ (l : List ℕ). first_difference (get_or xs i 0 ∷ []) (take 1 l)) (drop-cons ys i 0 other)
    ∙ ap (λ (b : Bool). cond b None (Some 0)) (ap (λ (y : ℕ). get_or xs i 0 == y) (sym same) ∙ eq-eqb (get_or xs i 0) (get_or xs i 0) refl))

pub byte_differs : (xs ys : List ℕ) (i : ℕ) → SameBelow xs ys i → i < length xs → i < length ys → (get_or xs i 0 == get_or ys i 0) ≡ false → first_difference xs ys ≡ Some i
byte_differs xs ys i before short other differ =
    before
    ∙ ap (λ (l : List ℕ). moved i (first_difference l (drop i ys))) (drop-cons xs i 0 short)
    ∙ ap (λ (l : List ℕ). moved i (first_difference (get_or xs i 0 ∷ drop (suc i) xs) l)) (drop-cons ys i 0 other)
    ∙ ap (λ (b : Bool). moved i (cond b (option_map suc (first_difference (drop (suc i) xs) (drop (suc i) ys))) (Some 0))) differ
    ∙ ap Some (omega arith)

pub longer_differs : (xs ys : List ℕ) (i : ℕ) → SameBelow xs ys i → length xs ≤ i → i < length ys → first_difference xs ys ≡ Some i
longer_differs xs ys i before short other =
    before
    ∙ ap (λ (l : List ℕ). moved i (first_difference l (drop i ys))) (drop_all xs i short)
    ∙ ap (λ (l : List ℕ). moved i (first_difference [] l)) (drop-cons ys i 0 other)
    ∙ ap Some (omega arith)

pub shorter_differs : (xs ys : List ℕ) (i : ℕ) → SameBelow xs ys i → i < length xs → length ys ≤ i → first_difference xs ys ≡ Some i
shorter_differs xs ys i before short other =
    before
    ∙ ap (λ (l : List ℕ). moved i (first_difference l (drop i ys))) (drop-cons xs i 0 short)
    ∙ ap (λ (l : List ℕ). moved i (first_difference (get_or xs i 0 ∷ drop (suc i) xs) l)) (drop_all ys i other)
    ∙ ap Some (omega arith)

-- ---- no difference

pub same_bytes : (xs ys : List ℕ) → first_difference xs ys ≡ None → xs ≡ ys
same_bytes [] [] same = refl
same_bytes [] (y ∷ ys) same = cc
same_bytes (x ∷ xs) [] same = cc
same_bytes (x ∷ xs) (y ∷ ys) same = by (x == y) refl (λ e. same_bytes xs ys e) same
  where
    by : (b : Bool) → (x == y) ≡ b → (first_difference xs ys ≡ None → xs ≡ ys) → cond b (option_map suc (first_difference xs ys)) (Some 0) ≡ None → x ∷ xs ≡ y ∷ ys
    by true is more none =
        let first : x ≡ y = eqb-true x y is in
        let rest : xs ≡ ys = more (unmapped (first_difference xs ys) none) in
        λ i. first i ∷ rest i
    by false is more none = cc

pub no_difference : (xs : List ℕ) → first_difference xs xs ≡ None
no_difference [] = refl
no_difference (x ∷ xs) =
    ap (λ (b : Bool). cond b (option_map suc (first_difference xs xs)) (Some 0)) (eq-eqb x x refl) ∙ ap (option_map suc) (no_difference xs)

-- ---- zeros of both

zero_of_piece : (xs : List ℕ) (at n k : ℕ) → k < n → ((i : ℕ) → at ≤ i → i < at + n → slice_index xs i ≡ 0) → get_or (take n (drop at xs)) k 0 ≡ 0
zero_of_piece xs at n k within zeros = get_or-take n (drop at xs) k 0 within ∙ get_or-drop at xs k 0 ∙ zeros (at + k) (omega arith) (omega arith)

length_of_piece : (xs : List ℕ) (at n : ℕ) → n ≤ length xs - at → length (take n (drop at xs)) ≡ n
length_of_piece xs at n long = omega (arith, length-take n (drop at xs), length-drop at xs)

pub same_zeros : (xs ys : List ℕ) (at n : ℕ) → n ≤ length xs - at → n ≤ length ys - at
    → ((i : ℕ) → at ≤ i → i < at + n → slice_index xs i ≡ 0) → ((i : ℕ) → at ≤ i → i < at + n → slice_index ys i ≡ 0)
    → first_difference (take n (drop at xs)) (take n (drop at ys)) ≡ None
same_zeros xs ys at n long_x long_y zeros_x zeros_y =
    let of_x = length_of_piece xs at n long_x in
    let of_y = length_of_piece ys at n long_y in
    let same : take n (drop at xs) ≡ take n (drop at ys) =
    same_number_lists (take n (drop at xs)) (take n (drop at ys)) (omega arith)
    (λ k within. zero_of_piece xs at n k (omega arith) zeros_x ∙ sym (zero_of_piece ys at n k (omega arith) zeros_y)) in
    ap (first_difference (take n (drop at xs))) (sym same) ∙ no_difference (take n (drop at xs))
