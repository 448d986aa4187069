-- What the definition of the checksum gives: in two parts, many places at once, byte by byte, in 32 bits.
use Rattle.std.proofs.Common.{◌≡◌, ℕ, zero, suc, ◌+◌, ◌*◌, ◌/◌, ◌%◌, ◌^◌, ◌<◌, ◌==◌, List, [], ◌∷◌, ◌++◌, length, replicate, bit_xor, refl, sym, ap, ◌∙◌, arith, inl, inr, ◌⊎◌}
use Rattle.std.proofs.lemmas.Nat.{xor_comm, xor_lt, xor_shr, xor_mod, shr_split}
use Rattle.std.proofs.lemmas.Bool.{cond_both}
use Rattle.std.proofs.lemmas.List.Sums.{fold-append}
use Rattle.std.proofs.Math.Nat.{pow-suc, mul_assoc}
use lib.Bits.{xor_assoc, xor_zero_r, xor_zero_l, xor_self, xor_shifted}
use Rattle.flashbase.specs.Crc.{push_bit, push_bits, push_byte, crc_after, crc_of}
use Rattle.flashbase.specs.Ranges.{AreBytes}

-- n places on, with no bits of a message
unfoldable pub places_on : ℕ → ℕ → ℕ
places_on zero x = x
places_on (suc n) x = places_on n (push_bit x 0)

-- the checksum goes on from what it was
pub crc_goes_on : (start : ℕ) (a b : List ℕ) → crc_after (crc_after start a) b ≡ crc_after start (a ++ b)
unfolding crc_after
crc_goes_on start a b = sym (fold-append push_byte start a b)

pub digit : (n : ℕ) → (n % 2 ≡ 0) ⊎ (n % 2 ≡ 1)
digit n = grind arith

pub swap : (a b p : ℕ) → bit_xor (bit_xor a p) b ≡ bit_xor (bit_xor a b) p
swap a b p = xor_assoc a p b ∙ ap (bit_xor a) (xor_comm p b) ∙ sym (xor_assoc a b p)

-- the message's bits may be in the remainder before they are reached
pub push_bit-bit_xor : (c b : ℕ) → bit_xor (push_bit c (b % 2)) (b / 2) ≡ push_bit (bit_xor c b) 0
unfolding push_bit
push_bit-bit_xor c b =
    let low : bit_xor c b % 2 ≡ bit_xor (c % 2) (b % 2) = xor_mod c b 1 in
    let high : bit_xor c b / 2 ≡ bit_xor (c / 2) (b / 2) = xor_shr c b 1 in
    elim (digit c) [
      | inl c_is ↦ elim (digit b) [
        | inl b_is ↦ rw (low, high, c_is, b_is) refl
        | inr b_is ↦ rw (low, high, c_is, b_is) (swap (c / 2) (b / 2) 0xEDB88320)
      ]
      | inr c_is ↦ elim (digit b) [
        | inl b_is ↦ rw (low, high, c_is, b_is) (swap (c / 2) (b / 2) 0xEDB88320)
        | inr b_is ↦ rw (low, high, c_is, b_is) refl
      ]
    ]

-- what is above the bit that leaves only moves down
pub push_bit-above : (x y : ℕ) → push_bit (bit_xor (x * 2) y) 0 ≡ bit_xor x (push_bit y 0)
unfolding push_bit
push_bit-above x y =
    let even : x * 2 % 2 ≡ 0 = omega arith in
    let half : x * 2 / 2 ≡ x = omega arith in
    let low : bit_xor (x * 2) y % 2 ≡ y % 2 = xor_mod (x * 2) y 1 ∙ ap (λ (z : ℕ). bit_xor z (y % 2)) even in
    let high : bit_xor (x * 2) y / 2 ≡ bit_xor x (y / 2) = xor_shr (x * 2) y 1 ∙ ap (λ (z : ℕ). bit_xor z (y / 2)) half in
    elim (digit y) [
      | inl y_is ↦ rw (low, high, y_is) refl
      | inr y_is ↦ rw (low, high, y_is) (xor_assoc x (y / 2) 0xEDB88320)
    ]

-- n bits of a message may be in the remainder at once
pub push_bits-at_once : (n c b : ℕ) → b < 2 ^ n → push_bits n c b ≡ places_on n (bit_xor c b)
unfolding push_bits places_on
push_bits-at_once zero c b h = let none : b ≡ 0 = omega arith in rw none (sym (xor_zero_r c))
push_bits-at_once (suc n) c b h =
    let half : b / 2 < 2 ^ n = omega (arith, pow-suc 2 n) in
    push_bits-at_once n (push_bit c (b % 2)) (b / 2) half ∙ ap (places_on n) (push_bit-bit_xor c b)

pub places_on-above : (n x y : ℕ) → places_on n (bit_xor (x * 2 ^ n) y) ≡ bit_xor x (places_on n y)
unfolding places_on
places_on-above zero x y = let one : x * 1 ≡ x = omega arith in rw one refl
places_on-above (suc n) x y =
    let twice : x * 2 ^ suc n ≡ x * 2 ^ n * 2 = ap (λ (p : ℕ). x * p) (pow-suc 2 n) ∙ sym (mul_assoc x (2 ^ n) 2) in
    ap (λ (z : ℕ). places_on n (push_bit (bit_xor z y) 0)) twice
    ∙ ap (places_on n) (push_bit-above (x * 2 ^ n) y) ∙ places_on-above n x (push_bit y 0)

-- the checksum of one byte is eight places on
pub crc_of-one : (b : ℕ) → b < 256 → crc_of (b ∷ []) ≡ places_on 8 b
unfolding crc_after push_byte
crc_of-one b h = push_bits-at_once 8 0 b h

-- a byte more, by the checksum of one byte
pub push_byte-table : (c b : ℕ) → b < 256 → push_byte c b ≡ bit_xor (c / 256) (crc_of (bit_xor c b % 256 ∷ []))
unfolding push_byte
push_byte-table c b h =
    let x : ℕ = bit_xor c b in
    let small : x % 256 < 256 = omega arith in
    let split : x ≡ bit_xor (x / 256 * 2 ^ 8) (x % 256) = sym (shr_split x 8) ∙ sym (xor_shifted (x / 256) 8 (x % 256) small) in
    let above : x / 256 ≡ c / 256 =
    let none : b / 256 ≡ 0 = omega arith in
    xor_shr c b 8 ∙ ap (bit_xor (c / 256)) none ∙ xor_zero_r (c / 256) in
    push_bits-at_once 8 c b h ∙ ap (places_on 8) split ∙ places_on-above 8 (x / 256) (x % 256)
    ∙ ap (λ (z : ℕ). bit_xor z (places_on 8 (x % 256))) above ∙ ap (bit_xor (c / 256)) (sym (crc_of-one (x % 256) small))

-- the same, with the low byte of the remainder taken before the message's byte comes in
pub push_byte_by_table : (c b : ℕ) → b < 256 → push_byte c b ≡ bit_xor (c / 256) (crc_of (bit_xor (c % 256) b ∷ []))
push_byte_by_table c b h =
    let byte : b % 256 ≡ b = omega arith in
    let low : bit_xor c b % 256 ≡ bit_xor (c % 256) b = xor_mod c b 8 ∙ ap (bit_xor (c % 256)) byte in
    push_byte-table c b h ∙ ap (λ (n : ℕ). bit_xor (c / 256) (crc_of (n ∷ []))) low

-- ---- places are linear

cancel : (a b p : ℕ) → bit_xor (bit_xor a p) (bit_xor b p) ≡ bit_xor a b
cancel a b p =
    xor_assoc a p (bit_xor b p) ∙ ap (bit_xor a) (ap (bit_xor p) (xor_comm b p) ∙ sym (xor_assoc p p b) ∙ ap (λ (z : ℕ). bit_xor z b) (xor_self p))

push_bit-xor : (x y : ℕ) → push_bit (bit_xor x y) 0 ≡ bit_xor (push_bit x 0) (push_bit y 0)
unfolding push_bit
push_bit-xor x y =
    let low : bit_xor x y % 2 ≡ bit_xor (x % 2) (y % 2) = xor_mod x y 1 in
    let high : bit_xor x y / 2 ≡ bit_xor (x / 2) (y / 2) = xor_shr x y 1 in
    elim (digit x) [
      | inl x_is ↦ elim (digit y) [
        | inl y_is ↦ rw (low, high, x_is, y_is) refl
        | inr y_is ↦ rw (low, high, x_is, y_is) (xor_assoc (x / 2) (y / 2) 0xEDB88320)
      ]
      | inr x_is ↦ elim (digit y) [
        | inl y_is ↦ rw (low, high, x_is, y_is) (sym (swap (x / 2) (y / 2) 0xEDB88320))
        | inr y_is ↦ rw (low, high, x_is, y_is) (sym (cancel (x / 2) (y / 2) 0xEDB88320))
      ]
    ]

pub places_on-xor : (n x y : ℕ) → places_on n (bit_xor x y) ≡ bit_xor (places_on n x) (places_on n y)
unfolding places_on
places_on-xor zero x y = refl
places_on-xor (suc n) x y = ap (places_on n) (push_bit-xor x y) ∙ places_on-xor n (push_bit x 0) (push_bit y 0)

pub places_on-places_on : (m n x : ℕ) → places_on n (places_on m x) ≡ places_on (m + n) x
unfolding places_on
places_on-places_on zero n x = let none : 0 + n ≡ n = omega arith in ap (λ (k : ℕ). places_on k x) (sym none)
places_on-places_on (suc m) n x =
    let moved : suc m + n ≡ suc (m + n) = omega arith in
    places_on-places_on m n (push_bit x 0) ∙ sym (ap (λ (k : ℕ). places_on k x) moved)

-- ---- bytes 0 only move the remainder on

pub crc_after-zeros : (k x : ℕ) → crc_after x (replicate k 0) ≡ places_on (8 * k) x
unfolding crc_after push_byte places_on
crc_after-zeros zero x = refl
crc_after-zeros (suc k) x =
    let longer : 8 + 8 * k ≡ 8 * suc k = omega arith in
    crc_after-zeros k (push_byte x 0) ∙ ap (places_on (8 * k)) (push_bits-at_once 8 x 0 (omega arith) ∙ ap (places_on 8) (xor_zero_r x))
    ∙ places_on-places_on 8 (8 * k) x ∙ ap (λ (n : ℕ). places_on n x) longer

pub crc_of-before_zeros : (k b : ℕ) → b < 256 → crc_of (b ∷ replicate k 0) ≡ places_on (8 + 8 * k) b
unfolding crc_after push_byte
crc_of-before_zeros k b h =
    crc_after-zeros k (push_byte 0 b) ∙ ap (places_on (8 * k)) (push_bits-at_once 8 0 b h) ∙ places_on-places_on 8 (8 * k) b

-- ---- a word of bytes, the lowest first

abbrev pub word : List ℕ → ℕ
word [] = 0
word (b ∷ bytes) = b + 256 * word bytes

pub crc_after-word : (c : ℕ) (bytes : List ℕ) → AreBytes bytes → crc_after c bytes ≡ places_on (8 * length bytes) (bit_xor c (word bytes))
unfolding crc_after push_byte places_on
crc_after-word c [] h = let none : 8 * 0 ≡ 0 = omega arith in sym (xor_zero_r c)
crc_after-word c (b ∷ bytes) h =
    let small : b < 256 = h 0 in
    let w : ℕ = word bytes in
    let n : ℕ = 8 * length bytes in
    let longer : 8 * suc (length bytes) ≡ 8 + n = omega arith in
    let whole : b + 256 * w ≡ bit_xor (w * 2 ^ 8) b =
    let turned : b + 256 * w ≡ w * 256 + b = omega arith in turned ∙ sym (xor_shifted w 8 b small) in
    crc_after-word (push_byte c b) bytes (λ i. h (suc i))
    ∙ ap (λ (x : ℕ). places_on n (bit_xor x w)) (push_bits-at_once 8 c b small)
    ∙ ap (places_on n) (xor_comm (places_on 8 (bit_xor c b)) w ∙ sym (places_on-above 8 w (bit_xor c b)))
    ∙ places_on-places_on 8 n (bit_xor (w * 2 ^ 8) (bit_xor c b))
    ∙ ap (places_on (8 + n)) (sym (xor_assoc (w * 2 ^ 8) c b) ∙ ap (λ (x : ℕ). bit_xor x b) (xor_comm (w * 2 ^ 8) c) ∙ xor_assoc c (w * 2 ^ 8) b ∙ ap (bit_xor c) (sym whole))
    ∙ ap (λ (k : ℕ). places_on k (bit_xor c (b + 256 * w))) (sym longer)

-- what stood before goes on over as many bytes 0, and the bytes have a checksum of their own
pub crc_after-split : (x : ℕ) (bytes : List ℕ) → AreBytes bytes → crc_after x bytes ≡ bit_xor (crc_after x (replicate (length bytes) 0)) (crc_of bytes)
crc_after-split x bytes h =
    let n : ℕ = 8 * length bytes in
    crc_after-word x bytes h ∙ places_on-xor n x (word bytes)
    ∙ ap (λ (y : ℕ). bit_xor y (places_on n (word bytes))) (sym (crc_after-zeros (length bytes) x))
    ∙ ap (bit_xor (crc_after x (replicate (length bytes) 0))) (ap (places_on n) (sym (xor_zero_l (word bytes))) ∙ sym (crc_after-word 0 bytes h))

-- a byte's share of the checksum, with bytes 0 in place of those after it
crc_of-split : (b : ℕ) (bytes : List ℕ) → AreBytes bytes → crc_of (b ∷ bytes) ≡ bit_xor (crc_of (b ∷ replicate (length bytes) 0)) (crc_of bytes)
unfolding crc_after
crc_of-split b bytes h = crc_after-split (push_byte 0 b) bytes h

-- the bytes' shares together
abbrev pub shares : List ℕ → ℕ
shares [] = 0
shares (b ∷ bytes) = bit_xor (crc_of (b ∷ replicate (length bytes) 0)) (shares bytes)

pub crc_of-shares : (bytes : List ℕ) → AreBytes bytes → crc_of bytes ≡ shares bytes
unfolding crc_after
crc_of-shares [] h = refl
crc_of-shares (b ∷ bytes) h = crc_of-split b bytes (λ i. h (suc i)) ∙ ap (bit_xor (crc_of (b ∷ replicate (length bytes) 0))) (crc_of-shares bytes (λ i. h (suc i)))

-- ---- a checksum has 32 bits

push_bit-lt : (r b : ℕ) → r < 2 ^ 32 → push_bit r b < 2 ^ 32
unfolding push_bit
push_bit-lt r b h =
    let half : r / 2 < 2 ^ 32 = omega arith in
    let polynomial : 0xEDB88320 < 2 ^ 32 = omega arith in
    cond_both (r % 2 == b) (r / 2) (bit_xor (r / 2) 0xEDB88320) (λ x. x < 2 ^ 32) (λ _. half) (λ _. xor_lt 32 (r / 2) 0xEDB88320 half polynomial)

push_bits-lt : (n r b : ℕ) → r < 2 ^ 32 → push_bits n r b < 2 ^ 32
unfolding push_bits
push_bits-lt zero r b h = h
push_bits-lt (suc n) r b h = push_bits-lt n (push_bit r (b % 2)) (b / 2) (push_bit-lt r (b % 2) h)

pub crc_after-lt : (start : ℕ) (bytes : List ℕ) → start < 2 ^ 32 → crc_after start bytes < 2 ^ 32
unfolding crc_after push_byte
crc_after-lt start [] h = h
crc_after-lt start (b ∷ bytes) h = crc_after-lt (push_byte start b) bytes (push_bits-lt 8 start b h)

pub crc_of-lt : (bytes : List ℕ) → crc_of bytes < 2 ^ 32
crc_of-lt bytes = crc_after-lt 0 bytes (omega arith)
