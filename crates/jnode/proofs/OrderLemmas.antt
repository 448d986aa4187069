-- Numbers, and the bytes that hold them.
use Rattle.std.proofs.Common.{◌≡◌, ℕ, zero, suc, ◌+◌, ◌-◌, ◌^◌, ◌<◌, ◌≤◌, List, [], ◌∷◌, ◌++◌, length, take, drop, replicate, slice_index, refl, sym, ap, ap₂, ◌∙◌, arith, add-one, inl, inr}
use Rattle.std.proofs.lemmas.Bool.{cases_lt}
use Rattle.std.proofs.lemmas.Nat.{le_bytes_2, be_bytes_2, le_bytes_4, be_bytes_4}
use Rattle.std.proofs.lemmas.List.{append-nil, drop-take, length-take-le, length-take, length-drop, get_or-take, get_or-drop, get_or_past}
use Rattle.std.proofs.Math.ListN.{set}
use Rattle.std.proofs.Math.Seq.{take-suc, take-suc-set}
use Rattle.byteorder.specs.Numbers.{little_from-take, big_from-take, little_number-reads_back, big_number-reads_back}
use Rattle.flashbase.specs.Ranges.{AreBytes}
use Rattle.jnode.specs.Order.{number_in, number_at, bytes_in}
use Rattle.jnode.specs.declared.order.Endian.{Endian}
use Rattle.jnode.specs.declared.order.Endian.TheVariants.{Little, Big}

pub append_none : (bytes : List ℕ) → bytes ++ replicate 0 255 ≡ bytes
append_none bytes = append-nil bytes

-- a number is in its bytes alone
pub number_in-take : (e : Endian) (n m : ℕ) (xs : List ℕ) → n ≤ m → number_in e n (take m xs) ≡ number_in e n xs
unfolding number_in
number_in-take Little n m xs h = little_from-take 0 n m xs (omega arith)
number_in-take Big n m xs h = big_from-take 0 n m xs (omega arith)

pub take_of_take : (n m : ℕ) (xs : List ℕ) → n ≤ m → take n (take m xs) ≡ take n xs
take_of_take zero m xs h = refl
take_of_take (suc n) zero xs h = absurd (omega arith)
take_of_take (suc n) (suc m) [] h = refl
take_of_take (suc n) (suc m) (x ∷ xs) h = ap (λ (r : List ℕ). x ∷ r) (take_of_take n m xs (omega arith))

pub drop_of_take : (n m : ℕ) (xs : List ℕ) → n ≤ m → drop n (take m xs) ≡ take (m - n) (drop n xs)
drop_of_take n m xs h =
    let split : m ≡ n + (m - n) = omega arith in
    ap (λ (k : ℕ). drop n (take k xs)) split ∙ drop-take n (m - n) xs

pub number_at-take : (e : Endian) (n place m : ℕ) (xs : List ℕ) → place + n ≤ m → number_at e n place (take m xs) ≡ number_at e n place xs
number_at-take e n place m xs h =
    ap (number_in e n) (drop_of_take place m xs (omega arith)) ∙ number_in-take e n (m - place) (drop place xs) (omega arith)

two_bytes : (xs : List ℕ) → length xs ≡ 2 → slice_index xs 0 ∷ slice_index xs 1 ∷ [] ≡ xs
two_bytes (a ∷ b ∷ []) h = refl
two_bytes _ h = absurd (omega arith)

four_bytes : (xs : List ℕ) → length xs ≡ 4 → slice_index xs 0 ∷ slice_index xs 1 ∷ slice_index xs 2 ∷ slice_index xs 3 ∷ [] ≡ xs
four_bytes (a ∷ b ∷ c ∷ d ∷ []) h = refl
four_bytes _ h = absurd (omega arith)

-- a number by the bytes that hold it, one by one
pub number_of_two : (e : Endian) (place : ℕ) (xs two : List ℕ) → place + 2 ≤ length xs → two ≡ take 2 (drop place xs)
    → number_at e 2 0 (slice_index two 0 ∷ slice_index two 1 ∷ []) ≡ number_at e 2 place xs
number_of_two e place xs two h same =
    let long : length two ≡ 2 = ap length same ∙ length-take-le 2 (drop place xs) (omega (arith, length-drop place xs)) in
    ap (number_in e 2) (two_bytes two long ∙ same) ∙ number_in-take e 2 2 (drop place xs) (omega arith)

pub number_of_four : (e : Endian) (place : ℕ) (xs four : List ℕ) → place + 4 ≤ length xs → four ≡ take 4 (drop place xs)
    → number_at e 4 0 (slice_index four 0 ∷ slice_index four 1 ∷ slice_index four 2 ∷ slice_index four 3 ∷ []) ≡ number_at e 4 place xs
number_of_four e place xs four h same =
    let long : length four ≡ 4 = ap length same ∙ length-take-le 4 (drop place xs) (omega (arith, length-drop place xs)) in
    ap (number_in e 4) (four_bytes four long ∙ same) ∙ number_in-take e 4 4 (drop place xs) (omega arith)

-- one more byte that is copied
pub take-set : (i byte : ℕ) (front xs : List ℕ) → i < length front → i < length xs → byte ≡ slice_index xs i → take i front ≡ take i xs
    → take (i + 1) (set front i byte) ≡ take (i + 1) xs
take-set i byte front xs room more here same =
    ap (λ (n : ℕ). take n (set front i byte)) (add-one i) ∙ take-suc-set front i byte room
    ∙ ap₂ (λ (done : List ℕ) (b : ℕ). done ++ b ∷ []) same here
    ∙ sym (ap (λ (n : ℕ). take n xs) (add-one i) ∙ take-suc xs i 0 more)

-- ---- a number and its bytes are one another's

pub number_in-bytes_in : (e : Endian) (n x : ℕ) (rest : List ℕ) → x < 256 ^ n → number_in e n (bytes_in e n x ++ rest) ≡ x
unfolding number_in bytes_in
number_in-bytes_in Little n x rest h = little_number-reads_back n x rest h
number_in-bytes_in Big n x rest h = big_number-reads_back n x rest h

bytes_in-number_in_2 : (e : Endian) (bytes : List ℕ) → length bytes ≡ 2 → AreBytes bytes → bytes_in e 2 (number_in e 2 bytes) ≡ bytes
unfolding number_in bytes_in
bytes_in-number_in_2 Little bytes long are = le_bytes_2 bytes _ long are (omega arith)
bytes_in-number_in_2 Big bytes long are = be_bytes_2 bytes _ long are (omega arith)

bytes_in-number_in_4 : (e : Endian) (bytes : List ℕ) → length bytes ≡ 4 → AreBytes bytes → bytes_in e 4 (number_in e 4 bytes) ≡ bytes
unfolding number_in bytes_in
bytes_in-number_in_4 Little bytes long are = le_bytes_4 bytes _ long are (omega arith)
bytes_in-number_in_4 Big bytes long are = be_bytes_4 bytes _ long are (omega arith)

pub bytes-drop : (k : ℕ) (xs : List ℕ) → AreBytes xs → AreBytes (drop k xs)
bytes-drop k xs are i = let at = get_or-drop k xs i 0 in let small = are (k + i) in omega arith

pub bytes-take : (k : ℕ) (xs : List ℕ) → AreBytes xs → AreBytes (take k xs)
bytes-take k xs are i = elim (cases_lt i k) [
  | inl before ↦ let at = get_or-take k xs i 0 before in let small = are i in omega arith
  | inr past ↦ let at = get_or_past (take k xs) i 0 (omega (arith, length-take k xs)) in omega arith
]

pub number_is_spelled_2 : (e : Endian) (place : ℕ) (bytes : List ℕ) → AreBytes bytes → place + 2 ≤ length bytes
    → take 2 (drop place bytes) ≡ bytes_in e 2 (number_at e 2 place bytes)
number_is_spelled_2 e place bytes are room =
    let long : length (take 2 (drop place bytes)) ≡ 2 = length-take-le 2 (drop place bytes) (omega (arith, length-drop place bytes)) in
    sym (bytes_in-number_in_2 e (take 2 (drop place bytes)) long (bytes-take 2 (drop place bytes) (bytes-drop place bytes are)))
    ∙ ap (bytes_in e 2) (number_in-take e 2 2 (drop place bytes) (omega arith))

pub number_is_spelled_4 : (e : Endian) (place : ℕ) (bytes : List ℕ) → AreBytes bytes → place + 4 ≤ length bytes
    → take 4 (drop place bytes) ≡ bytes_in e 4 (number_at e 4 place bytes)
number_is_spelled_4 e place bytes are room =
    let long : length (take 4 (drop place bytes)) ≡ 4 = length-take-le 4 (drop place bytes) (omega (arith, length-drop place bytes)) in
    sym (bytes_in-number_in_4 e (take 4 (drop place bytes)) long (bytes-take 4 (drop place bytes) (bytes-drop place bytes are)))
    ∙ ap (bytes_in e 4) (number_in-take e 4 4 (drop place bytes) (omega arith))
