-- The checksum run backwards: a byte that was pushed can be taken off again, in one way.
use Rattle.std.proofs.Common.{◌≡◌, ◌≤◌, ◌<◌, ◌+◌, ◌*◌, ◌/◌, ◌%◌, ◌^◌, ◌==◌, ◌&&◌, ℕ, zero, suc, Bool, true, nat_lt, List, [], ◌∷◌, length, get_or, replicate, slice_index, bit_xor, refl, sym, ap, ap₂, ◌∙◌, arith, inl, inr}
use Rattle.std.proofs.lemmas.Bool.{and_parts, eqb-true, ltb-true}
use Rattle.std.proofs.lemmas.Nat.{xor_comm, xor_lt, xor_shr}
use lib.Bits.{xor_assoc, xor_zero_r, xor_zero_l, xor_self, xor_shifted}
use Rattle.flashbase.specs.Crc.{push_bit, push_byte, crc_after}
use Rattle.flashbase.proofs.CrcLemmas.{places_on, digit, push_bits-at_once, places_on-above, places_on-places_on, places_on-xor, crc_after-lt, crc_after-zeros}
use Rattle.jnode.specs.Tails.{IsGap}
use Rattle.jnode.specs.declared.undo.TheConstants.{POPPED}

-- ---- one bit

-- the polynomial's highest power is the highest bit
top : (r : ℕ) → r < 2 ^ 31 → 2 ^ 31 ≤ bit_xor r 0xEDB88320
top r h =
    let none : r / 2 ^ 31 ≡ 0 = omega arith in
    let high : bit_xor r 0xEDB88320 / 2 ^ 31 ≡ 1 = xor_shr r 0xEDB88320 31 ∙ ap (λ (q : ℕ). bit_xor q 1) none in
    omega arith

off : (a p : ℕ) → bit_xor (bit_xor a p) p ≡ a
off a p = xor_assoc a p p ∙ ap (bit_xor a) (xor_self p) ∙ xor_zero_r a

even_step : (r : ℕ) → r % 2 ≡ 0 → push_bit r 0 ≡ r / 2
unfolding push_bit
even_step r h = rw h refl

odd_step : (r : ℕ) → r % 2 ≡ 1 → push_bit r 0 ≡ bit_xor (r / 2) 0xEDB88320
unfolding push_bit
odd_step r h = rw h refl

push_bit-lt : (r : ℕ) → r < 2 ^ 32 → push_bit r 0 < 2 ^ 32
push_bit-lt r h = elim (digit r) [
  | inl even ↦ let is = even_step r even in omega arith
  | inr odd ↦
      let is = odd_step r odd in
      let small = xor_lt 32 (r / 2) 0xEDB88320 (omega arith) (omega arith) in
      omega arith
]

push_bit-injective : (a b : ℕ) → a < 2 ^ 32 → b < 2 ^ 32 → push_bit a 0 ≡ push_bit b 0 → a ≡ b
push_bit-injective a b ha hb same = elim (digit a) [
  | inl even ↦
      let at = even_step a even in
      elim (digit b) [
        | inl even' ↦ let at' = even_step b even' in omega arith
        | inr odd' ↦
            let at' = odd_step b odd' in
            let high = top (b / 2) (omega arith) in
            absurd (omega arith)
      ]
  | inr odd ↦
      let at = odd_step a odd in
      elim (digit b) [
        | inl even' ↦
            let at' = even_step b even' in
            let high = top (a / 2) (omega arith) in
            absurd (omega arith)
        | inr odd' ↦
            let at' = odd_step b odd' in
            let halves : a / 2 ≡ b / 2 =
            sym (off (a / 2) 0xEDB88320) ∙ ap (λ (x : ℕ). bit_xor x 0xEDB88320) (sym at ∙ same ∙ at') ∙ off (b / 2) 0xEDB88320 in
            omega arith
      ]
]

places_on-injective : (n a b : ℕ) → a < 2 ^ 32 → b < 2 ^ 32 → places_on n a ≡ places_on n b → a ≡ b
unfolding places_on
places_on-injective zero a b ha hb same = same
places_on-injective (suc n) a b ha hb same =
    push_bit-injective a b ha hb (places_on-injective n (push_bit a 0) (push_bit b 0) (push_bit-lt a ha) (push_bit-lt b hb) same)

-- ---- one byte

pub no_byte : (x : ℕ) → push_byte x 0 ≡ places_on 8 x
unfolding push_byte
no_byte x = push_bits-at_once 8 x 0 (omega arith) ∙ ap (places_on 8) (xor_zero_r x)

byte_at_once : (x b : ℕ) → b < 256 → push_byte x b ≡ places_on 8 (bit_xor x b)
unfolding push_byte
byte_at_once x b h = push_bits-at_once 8 x b h

-- ---- the tables

-- the entries from place k on lead over n places to the bytes from k on, moved up by three bytes
abbrev are_popped : ℕ → ℕ → List ℕ → Bool
are_popped n k [] = true
are_popped n k (entry ∷ entries) = ((places_on n entry == k * 0x1000000) && nat_lt entry 0x100000000) && are_popped n (suc k) entries

popped_from : (n k i : ℕ) (entries : List ℕ) → are_popped n k entries ≡ true → i < length entries
    → (places_on n (slice_index entries i) ≡ (k + i) * 0x1000000) × (slice_index entries i < 2 ^ 32)
popped_from n k i [] h within = absurd (omega arith)
popped_from n k zero (entry ∷ entries) h within =
    let here = (and_parts ((places_on n entry == k * 0x1000000) && nat_lt entry 0x100000000) (are_popped n (suc k) entries) h).0 in
    let both = and_parts (places_on n entry == k * 0x1000000) (nat_lt entry 0x100000000) here in
    let same : k ≡ k + 0 = omega arith in
    (eqb-true (places_on n entry) (k * 0x1000000) both.0 ∙ ap (λ (m : ℕ). m * 0x1000000) same, ltb-true entry 0x100000000 both.1)
popped_from n k (suc i) (entry ∷ entries) h within =
    let there = (and_parts ((places_on n entry == k * 0x1000000) && nat_lt entry 0x100000000) (are_popped n (suc k) entries) h).1 in
    let moved : suc k + i ≡ k + suc i = omega arith in
    let rest = popped_from n (suc k) i entries there (omega arith) in
    (rest.0 ∙ ap (λ (m : ℕ). m * 0x1000000) moved, rest.1)

-- the tables are computed once, here
are_popped-0 : are_popped 8 0 (get_or POPPED 0 []) ≡ true
unfolding places_on push_bit
are_popped-0 = refl

are_popped-1 : are_popped 16 0 (get_or POPPED 1 []) ≡ true
unfolding places_on push_bit
are_popped-1 = refl

are_popped-2 : are_popped 24 0 (get_or POPPED 2 []) ≡ true
unfolding places_on push_bit
are_popped-2 = refl

are_popped-3 : are_popped 32 0 (get_or POPPED 3 []) ≡ true
unfolding places_on push_bit
are_popped-3 = refl

-- the entry of a table for a byte
abbrev pub popped : ℕ → ℕ → ℕ
popped k b = slice_index (get_or POPPED k []) b

abbrev IsPopped : ℕ → ℕ → ℕ → Type 0
IsPopped n b x = (places_on n x ≡ b * 0x1000000) × (x < 2 ^ 32)

popped_at : (n b : ℕ) (entries : List ℕ) → are_popped n 0 entries ≡ true → length entries ≡ 256 → b < 256 → IsPopped n b (slice_index entries b)
popped_at n b entries all long small =
    let same : 0 + b ≡ b = omega arith in
    let it = popped_from n 0 b entries all (omega arith) in
    (it.0 ∙ ap (λ (m : ℕ). m * 0x1000000) same, it.1)

popped_0 : (b : ℕ) → b < 256 → IsPopped 8 b (popped 0 b)
popped_0 b small = popped_at 8 b (get_or POPPED 0 []) are_popped-0 refl small

popped_1 : (b : ℕ) → b < 256 → IsPopped 16 b (popped 1 b)
popped_1 b small = popped_at 16 b (get_or POPPED 1 []) are_popped-1 refl small

popped_2 : (b : ℕ) → b < 256 → IsPopped 24 b (popped 2 b)
popped_2 b small = popped_at 24 b (get_or POPPED 2 []) are_popped-2 refl small

popped_3 : (b : ℕ) → b < 256 → IsPopped 32 b (popped 3 b)
popped_3 b small = popped_at 32 b (get_or POPPED 3 []) are_popped-3 refl small

-- ---- a byte at a time

-- the low bytes moved up, and what is looked up for the highest one
abbrev pub one_popped : ℕ → ℕ
one_popped r = bit_xor (r % 0x1000000 * 256) (popped 0 (r / 0x1000000))

places-one : (r : ℕ) → r < 2 ^ 32 → places_on 8 (one_popped r) ≡ r
places-one r word =
    let low = r % 0x1000000 in
    let highest = r / 0x1000000 in
    let small : low < 2 ^ 24 = omega arith in
    let back : highest * 2 ^ 24 + low ≡ r = omega arith in
    places_on-above 8 low (popped 0 highest) ∙ ap (bit_xor low) (popped_0 highest (omega arith)).0
    ∙ xor_comm low (highest * 2 ^ 24) ∙ xor_shifted highest 24 low small ∙ back

pub pop_by_table : (r : ℕ) → r < 2 ^ 32 → push_byte (one_popped r) 0 ≡ r
pop_by_table r word = no_byte _ ∙ places-one r word

pub one_popped-lt : (r : ℕ) → r < 2 ^ 32 → one_popped r < 2 ^ 32
one_popped-lt r word =
    let it = (popped_0 (r / 0x1000000) (omega arith)).1 in
    xor_lt 32 (r % 0x1000000 * 256) (popped 0 (r / 0x1000000)) (omega arith) it

-- ---- four bytes at a time

places_of_0 : (n : ℕ) → places_on n 0 ≡ 0
unfolding places_on push_bit
places_of_0 zero = refl
places_of_0 (suc n) = places_of_0 n

-- places without bits only move down what is above them
places_of_shifted : (n x : ℕ) → places_on n (x * 2 ^ n) ≡ x
places_of_shifted n x =
    ap (places_on n) (sym (xor_zero_r (x * 2 ^ n))) ∙ places_on-above n x 0 ∙ ap (bit_xor x) (places_of_0 n) ∙ xor_zero_r x

moved_on : (m n x y : ℕ) → places_on m x ≡ y → places_on (m + n) x ≡ places_on n y
moved_on m n x y is = sym (places_on-places_on m n x) ∙ ap (places_on n) is

first_moved : (b : ℕ) → b < 256 → places_on 32 (popped 0 b) ≡ b
first_moved b small = moved_on 8 24 (popped 0 b) (b * 0x1000000) (popped_0 b small).0 ∙ places_of_shifted 24 b

second_moved : (b : ℕ) → b < 256 → places_on 32 (popped 1 b) ≡ b * 2 ^ 8
second_moved b small =
    let split : b * 0x1000000 ≡ b * 2 ^ 8 * 2 ^ 16 = omega arith in
    moved_on 16 16 (popped 1 b) (b * 0x1000000) (popped_1 b small).0 ∙ ap (places_on 16) split ∙ places_of_shifted 16 (b * 2 ^ 8)

third_moved : (b : ℕ) → b < 256 → places_on 32 (popped 2 b) ≡ b * 2 ^ 16
third_moved b small =
    let split : b * 0x1000000 ≡ b * 2 ^ 16 * 2 ^ 8 = omega arith in
    moved_on 24 8 (popped 2 b) (b * 0x1000000) (popped_2 b small).0 ∙ ap (places_on 8) split ∙ places_of_shifted 8 (b * 2 ^ 16)

-- a number by its bytes
by_bytes : (r : ℕ) → r < 2 ^ 32
    → bit_xor (bit_xor (bit_xor (r % 256) (r / 256 % 256 * 2 ^ 8)) (r / 0x10000 % 256 * 2 ^ 16)) (r / 0x1000000 * 2 ^ 24) ≡ r
by_bytes r word =
    let a = r % 256 in
    let b = r / 256 % 256 in
    let c = r / 0x10000 % 256 in
    let d = r / 0x1000000 in
    let two : bit_xor a (b * 2 ^ 8) ≡ b * 2 ^ 8 + a = xor_comm a (b * 2 ^ 8) ∙ xor_shifted b 8 a (omega arith) in
    let three : bit_xor (b * 2 ^ 8 + a) (c * 2 ^ 16) ≡ c * 2 ^ 16 + (b * 2 ^ 8 + a) =
    xor_comm (b * 2 ^ 8 + a) (c * 2 ^ 16) ∙ xor_shifted c 16 (b * 2 ^ 8 + a) (omega arith) in
    let four : bit_xor (c * 2 ^ 16 + (b * 2 ^ 8 + a)) (d * 2 ^ 24) ≡ d * 2 ^ 24 + (c * 2 ^ 16 + (b * 2 ^ 8 + a)) =
    xor_comm (c * 2 ^ 16 + (b * 2 ^ 8 + a)) (d * 2 ^ 24) ∙ xor_shifted d 24 (c * 2 ^ 16 + (b * 2 ^ 8 + a)) (omega arith) in
    let whole : d * 2 ^ 24 + (c * 2 ^ 16 + (b * 2 ^ 8 + a)) ≡ r = omega arith in
    ap (λ (x : ℕ). bit_xor (bit_xor x (c * 2 ^ 16)) (d * 2 ^ 24)) two ∙ ap (λ (x : ℕ). bit_xor x (d * 2 ^ 24)) three ∙ four ∙ whole

-- what is looked up for the four bytes of a remainder
abbrev pub four_popped : ℕ → ℕ
four_popped r = bit_xor (bit_xor (bit_xor (popped 0 (r % 256)) (popped 1 (r / 256 % 256))) (popped 2 (r / 0x10000 % 256))) (popped 3 (r / 0x1000000))

places-four : (r : ℕ) → r < 2 ^ 32 → places_on 32 (four_popped r) ≡ r
places-four r word =
    let a = r % 256 in
    let b = r / 256 % 256 in
    let c = r / 0x10000 % 256 in
    let d = r / 0x1000000 in
    places_on-xor 32 (bit_xor (bit_xor (popped 0 a) (popped 1 b)) (popped 2 c)) (popped 3 d)
    ∙ ap (λ (x : ℕ). bit_xor x (places_on 32 (popped 3 d))) (places_on-xor 32 (bit_xor (popped 0 a) (popped 1 b)) (popped 2 c))
    ∙ ap (λ (x : ℕ). bit_xor (bit_xor x (places_on 32 (popped 2 c))) (places_on 32 (popped 3 d))) (places_on-xor 32 (popped 0 a) (popped 1 b))
    ∙ ap (λ (x : ℕ). bit_xor (bit_xor (bit_xor x (places_on 32 (popped 1 b))) (places_on 32 (popped 2 c))) (places_on 32 (popped 3 d))) (first_moved a (omega arith))
    ∙ ap (λ (x : ℕ). bit_xor (bit_xor (bit_xor a x) (places_on 32 (popped 2 c))) (places_on 32 (popped 3 d))) (second_moved b (omega arith))
    ∙ ap (λ (x : ℕ). bit_xor (bit_xor (bit_xor a (b * 2 ^ 8)) x) (places_on 32 (popped 3 d))) (third_moved c (omega arith))
    ∙ ap (bit_xor (bit_xor (bit_xor a (b * 2 ^ 8)) (c * 2 ^ 16))) ((popped_3 d (omega arith)).0)
    ∙ by_bytes r word

four_popped-lt : (r : ℕ) → r < 2 ^ 32 → four_popped r < 2 ^ 32
four_popped-lt r word =
    let a = popped 0 (r % 256) in
    let b = popped 1 (r / 256 % 256) in
    let c = popped 2 (r / 0x10000 % 256) in
    let d = popped 3 (r / 0x1000000) in
    xor_lt 32 (bit_xor (bit_xor a b) c) d
    (xor_lt 32 (bit_xor a b) c (xor_lt 32 a b (popped_0 (r % 256) (omega arith)).1 (popped_1 (r / 256 % 256) (omega arith)).1) (popped_2 (r / 0x10000 % 256) (omega arith)).1)
    (popped_3 (r / 0x1000000) (omega arith)).1

pub pop_by_tables : (r : ℕ) → r < 2 ^ 32 → crc_after (four_popped r) (replicate 4 0) ≡ r
pop_by_tables r word = crc_after-zeros 4 (four_popped r) ∙ places-four r word

pub only_four : (x r : ℕ) → x < 2 ^ 32 → r < 2 ^ 32 → crc_after x (replicate 4 0) ≡ r → x ≡ four_popped r
only_four x r hx hr is =
    places_on-injective 32 x (four_popped r) hx (four_popped-lt r hr) (sym (crc_after-zeros 4 x) ∙ is ∙ sym (places-four r hr))

-- ---- one byte after the other, and four at once

-- a byte more of a tail, by what it differs in from an erased one
abbrev pub gap_before : ℕ → ℕ → ℕ
gap_before gap d = bit_xor (one_popped gap) d

abbrev pub gap_before_four : ℕ → ℕ → ℕ → ℕ → ℕ → ℕ
gap_before_four gap d3 d2 d1 d0 = gap_before (gap_before (gap_before (gap_before gap d3) d2) d1) d0

stepped : (n r d : ℕ) → r < 2 ^ 32 → places_on (8 + n) (gap_before r d) ≡ bit_xor (places_on n r) (places_on (8 + n) d)
stepped n r d word =
    places_on-xor (8 + n) (one_popped r) d
    ∙ ap (λ (x : ℕ). bit_xor x (places_on (8 + n) d)) (moved_on 8 n (one_popped r) r (places-one r word))

joined : (n m d : ℕ) → places_on (8 + n) (bit_xor (m * 2 ^ 8) d) ≡ bit_xor (places_on n m) (places_on (8 + n) d)
joined n m d =
    places_on-xor (8 + n) (m * 2 ^ 8) d
    ∙ ap (λ (x : ℕ). bit_xor x (places_on (8 + n) d)) (moved_on 8 n (m * 2 ^ 8) m (places_of_shifted 8 m))

pub gap_before-lt : (r d : ℕ) → r < 2 ^ 32 → d < 256 → gap_before r d < 2 ^ 32
gap_before-lt r d word small = xor_lt 32 (one_popped r) d (one_popped-lt r word) (omega arith)

-- the number of four bytes, the lowest first
abbrev pub word_of : ℕ → ℕ → ℕ → ℕ → ℕ
word_of d0 d1 d2 d3 = d0 + 0x100 * d1 + 0x10000 * d2 + 0x1000000 * d3

by_parts : (d0 d1 d2 d3 : ℕ) → d0 < 256 → d1 < 256 → d2 < 256
    → word_of d0 d1 d2 d3 ≡ bit_xor (bit_xor (bit_xor (d3 * 2 ^ 8) d2 * 2 ^ 8) d1 * 2 ^ 8) d0
by_parts d0 d1 d2 d3 h0 h1 h2 =
    let one : bit_xor (d3 * 2 ^ 8) d2 ≡ d3 * 2 ^ 8 + d2 = xor_shifted d3 8 d2 h2 in
    let two : bit_xor ((d3 * 2 ^ 8 + d2) * 2 ^ 8) d1 ≡ (d3 * 2 ^ 8 + d2) * 2 ^ 8 + d1 = xor_shifted (d3 * 2 ^ 8 + d2) 8 d1 h1 in
    let three : bit_xor (((d3 * 2 ^ 8 + d2) * 2 ^ 8 + d1) * 2 ^ 8) d0 ≡ ((d3 * 2 ^ 8 + d2) * 2 ^ 8 + d1) * 2 ^ 8 + d0 = xor_shifted ((d3 * 2 ^ 8 + d2) * 2 ^ 8 + d1) 8 d0 h0 in
    let whole : word_of d0 d1 d2 d3 ≡ ((d3 * 2 ^ 8 + d2) * 2 ^ 8 + d1) * 2 ^ 8 + d0 = omega arith in
    whole ∙ sym three ∙ ap (λ (x : ℕ). bit_xor (x * 2 ^ 8) d0) (sym two) ∙ ap (λ (x : ℕ). bit_xor (bit_xor (x * 2 ^ 8) d1 * 2 ^ 8) d0) (sym one)

reordered : (g a b c d : ℕ) → bit_xor (bit_xor (bit_xor (bit_xor g a) b) c) d ≡ bit_xor g (bit_xor (bit_xor (bit_xor a b) c) d)
reordered g a b c d =
    ap (λ (x : ℕ). bit_xor (bit_xor x c) d) (xor_assoc g a b) ∙ ap (λ (x : ℕ). bit_xor x d) (xor_assoc g (bit_xor a b) c) ∙ xor_assoc g (bit_xor (bit_xor a b) c) d

pub four_at_once : (gap d0 d1 d2 d3 : ℕ) → gap < 2 ^ 32 → d0 < 256 → d1 < 256 → d2 < 256 → d3 < 256
    → bit_xor (four_popped gap) (word_of d0 d1 d2 d3) ≡ gap_before_four gap d3 d2 d1 d0
unfolding places_on
four_at_once gap d0 d1 d2 d3 word h0 h1 h2 h3 =
    let g1 = gap_before gap d3 in
    let l1 = gap_before-lt gap d3 word h3 in
    let g2 = gap_before g1 d2 in
    let l2 = gap_before-lt g1 d2 l1 h2 in
    let g3 = gap_before g2 d1 in
    let l3 = gap_before-lt g2 d1 l2 h1 in
    let g4 = gap_before g3 d0 in
    let l4 = gap_before-lt g3 d0 l3 h0 in
    let m2 = bit_xor (d3 * 2 ^ 8) d2 in
    let m1 = bit_xor (m2 * 2 ^ 8) d1 in
    let slow : places_on 32 g4 ≡ bit_xor (bit_xor (bit_xor (bit_xor gap (places_on 8 d3)) (places_on 16 d2)) (places_on 24 d1)) (places_on 32 d0) =
    stepped 24 g3 d0 l3 ∙ ap (λ (x : ℕ). bit_xor x (places_on 32 d0)) (stepped 16 g2 d1 l2
    ∙ ap (λ (x : ℕ). bit_xor x (places_on 24 d1)) (stepped 8 g1 d2 l1 ∙ ap (λ (x : ℕ). bit_xor x (places_on 16 d2)) (stepped 0 gap d3 word))) in
    let fast : places_on 32 (word_of d0 d1 d2 d3) ≡ bit_xor (bit_xor (bit_xor (places_on 8 d3) (places_on 16 d2)) (places_on 24 d1)) (places_on 32 d0) =
    ap (places_on 32) (by_parts d0 d1 d2 d3 h0 h1 h2) ∙ joined 24 m1 d0 ∙ ap (λ (x : ℕ). bit_xor x (places_on 32 d0)) (joined 16 m2 d1
    ∙ ap (λ (x : ℕ). bit_xor x (places_on 24 d1)) (joined 8 d3 d2)) in
    let same : places_on 32 (bit_xor (four_popped gap) (word_of d0 d1 d2 d3)) ≡ places_on 32 g4 =
    places_on-xor 32 (four_popped gap) (word_of d0 d1 d2 d3) ∙ ap₂ bit_xor (places-four gap word) fast
    ∙ sym (slow ∙ reordered gap (places_on 8 d3) (places_on 16 d2) (places_on 24 d1) (places_on 32 d0)) in
    places_on-injective 32 (bit_xor (four_popped gap) (word_of d0 d1 d2 d3)) g4
    (xor_lt 32 (four_popped gap) (word_of d0 d1 d2 d3) (four_popped-lt gap word) (omega arith)) l4 same

-- a gap of few bits has few more after a byte
pub few_more : (k r d : ℕ) → r < 2 ^ 24 → r * 256 < 2 ^ k → d < 2 ^ k → gap_before r d < 2 ^ k
few_more k r d low moved small =
    let none : r / 0x1000000 ≡ 0 = omega arith in
    let all : r % 0x1000000 ≡ r = omega arith in
    let is : one_popped r ≡ r * 256 = ap₂ (λ (a b : ℕ). bit_xor (a * 256) (popped 0 b)) all none ∙ xor_zero_r (r * 256) in
    rw is (xor_lt k (r * 256) d moved small)

-- ---- the bytes of a tail, and erased ones in their place

cancelled : (x y : ℕ) → bit_xor x y ≡ 0 → x ≡ y
cancelled x y h = sym (off x y) ∙ ap (λ (z : ℕ). bit_xor z y) h ∙ xor_zero_l y

pub gap_of_none : IsGap [] 0
unfolding crc_after
gap_of_none = record {
  to = λ x y hx hy same. ap (λ (z : ℕ). bit_xor z y) same ∙ xor_self y;
  from = λ x y hx hy same. cancelled x y same;
}

four : (x y b c : ℕ) → bit_xor (bit_xor x b) (bit_xor y c) ≡ bit_xor (bit_xor x y) (bit_xor b c)
four x y b c =
    xor_assoc x b (bit_xor y c)
    ∙ ap (bit_xor x) (sym (xor_assoc b y c) ∙ ap (λ (z : ℕ). bit_xor z c) (xor_comm b y) ∙ xor_assoc y b c)
    ∙ sym (xor_assoc x y (bit_xor b c))

pushed : (x y b : ℕ) → b < 256 → bit_xor (push_byte x b) (push_byte y 255) ≡ places_on 8 (bit_xor (bit_xor x y) (bit_xor b 255))
pushed x y b h =
    ap₂ bit_xor (byte_at_once x b h) (byte_at_once y 255 (omega arith))
    ∙ sym (places_on-xor 8 (bit_xor x b) (bit_xor y 255)) ∙ ap (places_on 8) (four x y b 255)

push_byte-lt : (x b : ℕ) → x < 2 ^ 32 → push_byte x b < 2 ^ 32
unfolding crc_after
push_byte-lt x b h = crc_after-lt x (b ∷ []) h

pub gap_of_more : (b : ℕ) (tail : List ℕ) (gap popped : ℕ) → b < 256 → popped < 2 ^ 32 → push_byte popped 0 ≡ gap → IsGap tail gap
    → IsGap (b ∷ tail) (bit_xor popped (bit_xor b 255))
unfolding crc_after
gap_of_more b tail gap popped small word is rest =
    let other = bit_xor b 255 in
    let moved : places_on 8 popped ≡ gap = sym (no_byte popped) ∙ is in
    let small' = xor_lt 8 b 255 small (omega arith) in
    record {
      to = λ x y hx hy same.
          let apart : bit_xor (push_byte x b) (push_byte y 255) ≡ gap = rest.to (push_byte x b) (push_byte y 255) (push_byte-lt x b hx) (push_byte-lt y 255 hy) same in
          let all = xor_lt 32 (bit_xor x y) other (xor_lt 32 x y hx hy) (omega arith) in
          let back : bit_xor (bit_xor x y) other ≡ popped = places_on-injective 8 _ _ all word (sym (pushed x y b small) ∙ apart ∙ sym moved) in
          sym (off (bit_xor x y) other) ∙ ap (λ (z : ℕ). bit_xor z other) back;
      from = λ x y hx hy same.
          let back : bit_xor (bit_xor x y) other ≡ popped = ap (λ (z : ℕ). bit_xor z other) same ∙ off popped other in
          rest.from (push_byte x b) (push_byte y 255) (push_byte-lt x b hx) (push_byte-lt y 255 hy)
          (pushed x y b small ∙ ap (places_on 8) back ∙ moved);
    }
