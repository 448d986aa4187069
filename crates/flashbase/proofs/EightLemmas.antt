-- Eight and sixteen bytes taken in at once.
use Rattle.std.proofs.Common.{◌≡◌, ℕ, zero, suc, ◌+◌, ◌-◌, ◌*◌, ◌/◌, ◌^◌, ◌<◌, List, [], ◌∷◌, ◌++◌, length, get_or, take, drop, replicate, slice_index, bit_xor, refl, sym, ap, ap₂, ◌∙◌, arith, length-append, length-take, length-drop, append-nil}
use Rattle.std.proofs.lemmas.List.{take-append-drop, take_all, length-replicate}
use Rattle.std.proofs.lemmas.Nat.{from_le_bytes-to_le_bytes_8}
use Rattle.std.specs.Int.{w64, from_le_bytes, to_le_bytes}
use Rattle.std.specs.Simd.{first_chunks}
use Rattle.std.proofs.lemmas.Nat.{xor_comm}
use lib.Bits.{xor_zero_r, xor_zero_l}
use Rattle.flashbase.specs.Crc.{push_bit, crc_after, crc_of}
use Rattle.flashbase.specs.Ranges.{AreBytes}
use Rattle.flashbase.proofs.CrcLemmas.{places_on, word, crc_after-word, crc_after-split, crc_goes_on, crc_of-before_zeros, shares, crc_of-shares}

word_le : (bytes : List ℕ) → length bytes ≡ 8 → from_le_bytes w64 bytes ≡ word bytes
word_le [] h = absurd (omega arith)
word_le (a ∷ []) h = absurd (omega arith)
word_le (a ∷ b ∷ []) h = absurd (omega arith)
word_le (a ∷ b ∷ c ∷ []) h = absurd (omega arith)
word_le (a ∷ b ∷ c ∷ d ∷ []) h = absurd (omega arith)
word_le (a ∷ b ∷ c ∷ d ∷ e ∷ []) h = absurd (omega arith)
word_le (a ∷ b ∷ c ∷ d ∷ e ∷ f ∷ []) h = absurd (omega arith)
word_le (a ∷ b ∷ c ∷ d ∷ e ∷ f ∷ g ∷ []) h = absurd (omega arith)
word_le (a ∷ b ∷ c ∷ d ∷ e ∷ f ∷ g ∷ i ∷ []) h = omega arith
word_le (a ∷ b ∷ c ∷ d ∷ e ∷ f ∷ g ∷ i ∷ j ∷ bytes) h = absurd (omega arith)

-- The remainder goes into the bytes that come, and then it starts at 0.
pub crc_after-mixed : (c z : ℕ) (bytes mixed : List ℕ) → length bytes ≡ 8 → AreBytes bytes → length mixed ≡ 8 → AreBytes mixed
    → z ≡ bit_xor c (from_le_bytes w64 bytes) → from_le_bytes w64 mixed ≡ z → crc_of mixed ≡ crc_after c bytes
crc_after-mixed c z bytes mixed long fits long' fits' is is' =
    let size : 8 * length mixed ≡ 8 * length bytes = omega arith in
    let number : word mixed ≡ bit_xor c (word bytes) = sym (word_le mixed long') ∙ is' ∙ is ∙ ap (bit_xor c) (word_le bytes long) in
    crc_after-word 0 mixed fits' ∙ ap (places_on (8 * length mixed)) (xor_zero_l (word mixed) ∙ number)
    ∙ ap (λ (n : ℕ). places_on n (bit_xor c (word bytes))) size ∙ sym (crc_after-word c bytes fits)

are_bytes-to_le_bytes : (z : ℕ) → AreBytes (to_le_bytes w64 z)
are_bytes-to_le_bytes z zero = omega arith
are_bytes-to_le_bytes z (suc zero) = omega arith
are_bytes-to_le_bytes z (suc (suc zero)) = omega arith
are_bytes-to_le_bytes z (suc (suc (suc zero))) = omega arith
are_bytes-to_le_bytes z (suc (suc (suc (suc zero)))) = omega arith
are_bytes-to_le_bytes z (suc (suc (suc (suc (suc zero))))) = omega arith
are_bytes-to_le_bytes z (suc (suc (suc (suc (suc (suc zero)))))) = omega arith
are_bytes-to_le_bytes z (suc (suc (suc (suc (suc (suc (suc zero))))))) = omega arith
are_bytes-to_le_bytes z (suc (suc (suc (suc (suc (suc (suc (suc i)))))))) = omega arith

-- the eight bytes of a word that the remainder went into
pub crc_of-word : (c z : ℕ) (bytes : List ℕ) → length bytes ≡ 8 → AreBytes bytes → z ≡ bit_xor c (from_le_bytes w64 bytes) → z < 2 ^ 64
    → crc_of (to_le_bytes w64 z) ≡ crc_after c bytes
crc_of-word c z bytes long fits is small =
    crc_after-mixed c z bytes (to_le_bytes w64 z) long fits refl (are_bytes-to_le_bytes z) is (from_le_bytes-to_le_bytes_8 z small)

-- ---- bytes, and then bytes 0

zero_byte : (k i : ℕ) → slice_index (replicate k 0) i < 256
zero_byte zero i = omega arith
zero_byte (suc k) zero = omega arith
zero_byte (suc k) (suc i) = zero_byte k i

are_bytes-before_zeros : (bytes : List ℕ) (zeros : ℕ) → AreBytes bytes → AreBytes (bytes ++ replicate zeros 0)
are_bytes-before_zeros [] zeros h i = zero_byte zeros i
are_bytes-before_zeros (b ∷ bytes) zeros h zero = h 0
are_bytes-before_zeros (b ∷ bytes) zeros h (suc i) = are_bytes-before_zeros bytes zeros (λ j. h (suc j)) i

places_on-zero : (n : ℕ) → places_on n 0 ≡ 0
unfolding places_on push_bit
places_on-zero zero = refl
places_on-zero (suc n) = places_on-zero n

shares-zeros : (k : ℕ) → shares (replicate k 0) ≡ 0
shares-zeros zero = refl
shares-zeros (suc k) =
    let none : crc_of (0 ∷ replicate (length (replicate k 0)) 0) ≡ 0 =
    crc_of-before_zeros (length (replicate k 0)) 0 (omega arith) ∙ places_on-zero (8 + 8 * length (replicate k 0)) in
    ap₂ bit_xor none (shares-zeros k)

-- the bytes' shares with so many bytes 0 after them all
abbrev shares_before : ℕ → List ℕ → ℕ
shares_before zeros [] = 0
shares_before zeros (b ∷ bytes) = bit_xor (crc_of (b ∷ replicate (zeros + length bytes) 0)) (shares_before zeros bytes)

shares-before_zeros : (bytes : List ℕ) (zeros : ℕ) → shares (bytes ++ replicate zeros 0) ≡ shares_before zeros bytes
shares-before_zeros [] zeros = shares-zeros zeros
shares-before_zeros (b ∷ bytes) zeros =
    let long : length (bytes ++ replicate zeros 0) ≡ zeros + length bytes = omega (arith, length-append bytes (replicate zeros 0), length-replicate {A = ℕ} zeros 0) in
    ap₂ bit_xor (ap (λ (n : ℕ). crc_of (b ∷ replicate n 0)) long) (shares-before_zeros bytes zeros)

backwards : (a b c d e f g i : ℕ)
    → bit_xor (bit_xor (bit_xor (bit_xor (bit_xor (bit_xor (bit_xor i g) f) e) d) c) b) a
    ≡ bit_xor a (bit_xor b (bit_xor c (bit_xor d (bit_xor e (bit_xor f (bit_xor g (bit_xor i 0)))))))
backwards a b c d e f g i =
    xor_comm _ a ∙ ap (bit_xor a) (xor_comm _ b ∙ ap (bit_xor b) (xor_comm _ c ∙ ap (bit_xor c) (xor_comm _ d ∙ ap (bit_xor d)
    (xor_comm _ e ∙ ap (bit_xor e) (xor_comm _ f ∙ ap (bit_xor f) (xor_comm i g ∙ ap (bit_xor g) (sym (xor_zero_r i))))))))

-- the table's entry for the byte at a place of eight, with so many bytes 0 after the eight
abbrev pub entry_of : List ℕ → ℕ → ℕ → ℕ
entry_of bytes zeros k = crc_of (slice_index bytes k ∷ replicate (zeros + (7 - k)) 0)

pub crc_of-eight : (z zeros : ℕ) (bytes : List ℕ) → bytes ≡ to_le_bytes w64 z
    → bit_xor (bit_xor (bit_xor (bit_xor (bit_xor (bit_xor (bit_xor (entry_of bytes zeros 7) (entry_of bytes zeros 6)) (entry_of bytes zeros 5)) (entry_of bytes zeros 4))
    (entry_of bytes zeros 3)) (entry_of bytes zeros 2)) (entry_of bytes zeros 1)) (entry_of bytes zeros 0)
    ≡ crc_of (to_le_bytes w64 z ++ replicate zeros 0)
crc_of-eight z zeros bytes is =
    let written : List ℕ = to_le_bytes w64 z in
    rw is
    (backwards (entry_of written zeros 0) (entry_of written zeros 1) (entry_of written zeros 2) (entry_of written zeros 3)
    (entry_of written zeros 4) (entry_of written zeros 5) (entry_of written zeros 6) (entry_of written zeros 7)
    ∙ sym (shares-before_zeros written zeros) ∙ sym (crc_of-shares (written ++ replicate zeros 0) (are_bytes-before_zeros written zeros (are_bytes-to_le_bytes z))))

-- ---- sixteen bytes in two halves

are_bytes-take : (n : ℕ) (bytes : List ℕ) → AreBytes bytes → AreBytes (take n bytes)
are_bytes-take zero bytes h i = omega arith
are_bytes-take (suc n) [] h i = omega arith
are_bytes-take (suc n) (b ∷ bytes) h zero = h 0
are_bytes-take (suc n) (b ∷ bytes) h (suc i) = are_bytes-take n bytes (λ j. h (suc j)) i

are_bytes-drop : (n : ℕ) (bytes : List ℕ) → AreBytes bytes → AreBytes (drop n bytes)
are_bytes-drop zero bytes h = h
are_bytes-drop (suc n) [] h = h
are_bytes-drop (suc n) (b ∷ bytes) h = are_bytes-drop n bytes (λ j. h (suc j))

-- the first half, which the remainder went into, goes on over eight bytes 0
pub crc_after-sixteen : (c y z : ℕ) (bytes : List ℕ) → length bytes ≡ 16 → AreBytes bytes
    → y ≡ bit_xor c (from_le_bytes w64 (take 8 bytes)) → y < 2 ^ 64 → z ≡ from_le_bytes w64 (drop 8 bytes) → z < 2 ^ 64
    → bit_xor (crc_of (to_le_bytes w64 z ++ replicate 0 0)) (crc_of (to_le_bytes w64 y ++ replicate 8 0)) ≡ crc_after c bytes
crc_after-sixteen c y z bytes long fits y_is y_small z_is z_small =
    let first : List ℕ = take 8 bytes in
    let second : List ℕ = drop 8 bytes in
    let first_long : length first ≡ 8 = omega (arith, length-take 8 bytes) in
    let second_long : length second ≡ 8 = omega (arith, length-drop 8 bytes) in
    let first_done : crc_of (to_le_bytes w64 y) ≡ crc_after c first = crc_of-word c y first first_long (are_bytes-take 8 bytes fits) y_is y_small in
    let second_done : crc_of (to_le_bytes w64 z) ≡ crc_of second =
    crc_of-word 0 z second second_long (are_bytes-drop 8 bytes fits) (z_is ∙ sym (xor_zero_l (from_le_bytes w64 second))) z_small in
    xor_comm (crc_of (to_le_bytes w64 z ++ replicate 0 0)) (crc_of (to_le_bytes w64 y ++ replicate 8 0))
    ∙ ap₂ bit_xor
    (sym (crc_goes_on 0 (to_le_bytes w64 y) (replicate 8 0)) ∙ ap (λ (x : ℕ). crc_after x (replicate 8 0)) first_done
    ∙ ap (λ (n : ℕ). crc_after (crc_after c first) (replicate n 0)) (sym second_long))
    (ap crc_of (append-nil (to_le_bytes w64 z)) ∙ second_done)
    ∙ sym (crc_after-split (crc_after c first) second (are_bytes-drop 8 bytes fits))
    ∙ crc_goes_on c first second ∙ ap (crc_after c) (take-append-drop 8 bytes)

-- the chunks of eight are these halves

pub first_half : (bytes : List ℕ) (halves : List (List ℕ)) → length bytes ≡ 16 → halves ≡ first_chunks 8 (length bytes / 8) bytes
    → get_or halves 0 [] ≡ take 8 bytes
first_half bytes halves long is =
    let two : length bytes / 8 ≡ 2 = omega arith in
    rw (is, two) refl

pub second_half : (bytes : List ℕ) (halves : List (List ℕ)) → length bytes ≡ 16 → halves ≡ first_chunks 8 (length bytes / 8) bytes
    → get_or halves 1 [] ≡ drop 8 bytes
second_half bytes halves long is =
    let two : length bytes / 8 ≡ 2 = omega arith in
    let rest : length (drop 8 bytes) ≡ 8 = omega (arith, length-drop 8 bytes) in
    rw (is, two) (take_all 8 (drop 8 bytes) (omega arith))
