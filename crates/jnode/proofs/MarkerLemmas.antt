-- There is no header in a clean marker that was cut: twelve cuts in both orders are computed.
use Rattle.std.proofs.Common.{◌≡◌, ℕ, zero, suc, ◌+◌, ◌-◌, ◌*◌, ◌<◌, ◌≤◌, ◌==◌, false, List, [], ◌∷◌, ◌++◌, slice_index, length, take, drop, refl, sym, ap, ◌∙◌, arith, inl, inr, length-drop}
use Rattle.std.proofs.lemmas.Bool.{cases_lt, agree_below_at}
use Rattle.std.proofs.lemmas.List.{length-take-le}
use Rattle.flashbase.specs.Bytes.{erased}
use Rattle.flashbase.specs.Crc.{crc_of, crc_after, push_byte, push_bits, push_bit}
use Rattle.jnode.specs.Order.{number_in, number_at, bytes_in}
use Rattle.jnode.specs.Header.{magic, header_crc_of, has_header, is_good}
use Rattle.jnode.specs.Writing.{header_bytes, clean_marker}
use Rattle.jnode.specs.declared.order.Endian.{Endian}
use Rattle.jnode.specs.declared.order.Endian.TheVariants.{Little, Big}
use Rattle.jnode.proofs.OrderLemmas.{number_at-take}
use Rattle.jnode.proofs.HeaderLemmas.{has_header-take, no_header, no_magic, too_short, erased_is_not_good}
use Rattle.jnode.proofs.WritingLemmas.{length-header_bytes}
use Rattle.jnode.proofs.WeakLemmas.{length_of, front_of, behind}

-- the twelve bytes of a marker that was cut after j
cut_marker : Endian → ℕ → List ℕ
cut_marker e j = take j (clean_marker e) ++ erased (12 - j)

-- neither a header nor, further on, a magic
header_is_cut : (e : Endian) (j : ℕ) → j < 12 → has_header e (cut_marker e j) ≡ false
unfolding cut_marker crc_after push_byte push_bits push_bit number_in bytes_in header_crc_of has_header header_bytes
header_is_cut Little j h = agree_below_at (λ j. has_header Little (take j (clean_marker Little) ++ erased (12 - j))) (λ j. false) 12 j refl h
header_is_cut Big j h = agree_below_at (λ j. has_header Big (take j (clean_marker Big) ++ erased (12 - j))) (λ j. false) 12 j refl h

no_magic_at_4 : (e : Endian) (j : ℕ) → j < 12 → (number_at e 2 4 (cut_marker e j) == magic) ≡ false
unfolding cut_marker crc_after push_byte push_bits push_bit number_in bytes_in header_bytes
no_magic_at_4 Little j h = agree_below_at (λ j. number_at Little 2 4 (take j (clean_marker Little) ++ erased (12 - j)) == magic) (λ j. false) 12 j refl h
no_magic_at_4 Big j h = agree_below_at (λ j. number_at Big 2 4 (take j (clean_marker Big) ++ erased (12 - j)) == magic) (λ j. false) 12 j refl h

no_magic_at_8 : (e : Endian) (j : ℕ) → j < 12 → (number_at e 2 8 (cut_marker e j) == magic) ≡ false
unfolding cut_marker crc_after push_byte push_bits push_bit number_in bytes_in header_bytes
no_magic_at_8 Little j h = agree_below_at (λ j. number_at Little 2 8 (take j (clean_marker Little) ++ erased (12 - j)) == magic) (λ j. false) 12 j refl h
no_magic_at_8 Big j h = agree_below_at (λ j. number_at Big 2 8 (take j (clean_marker Big) ++ erased (12 - j)) == magic) (λ j. false) 12 j refl h

cut_long : (e : Endian) (j : ℕ) → j < 12 → length (take j (clean_marker e)) ≡ j
cut_long e j h = length-take-le j (clean_marker e) (let long = length-header_bytes e 0x2003 12 in omega arith)

-- the first twelve bytes of what a cut left, with erased flash after it
front_is_cut : (e : Endian) (j n : ℕ) → j < 12 → 12 ≤ j + n → take 12 (take j (clean_marker e) ++ erased n) ≡ cut_marker e j
unfolding cut_marker
front_is_cut e j n h long =
    let cut = cut_long e j h in
    front_of (take j (clean_marker e)) n (omega arith) (omega arith) ∙ ap (λ (k : ℕ). take j (clean_marker e) ++ erased (12 - k)) cut

-- a 16-bit number among them
number_is_cut : (e : Endian) (place j n : ℕ) → place + 2 ≤ 12 → j < 12 → 12 ≤ j + n
    → number_at e 2 place (take j (clean_marker e) ++ erased n) ≡ number_at e 2 place (cut_marker e j)
number_is_cut e place j n within h long =
    sym (number_at-take e 2 place 12 (take j (clean_marker e) ++ erased n) within) ∙ ap (number_at e 2 place) (front_is_cut e j n h long)

-- a word of it, where twelve bytes are left there
at_word : (e : Endian) (j n k : ℕ) → j < 12 → (12 ≤ j + n → is_good e (drop k (take j (clean_marker e) ++ erased n)) ≡ false)
    → is_good e (drop k (take j (clean_marker e) ++ erased n)) ≡ false
at_word e j n k h good =
    let rest : List ℕ = take j (clean_marker e) ++ erased n in
    let cut = cut_long e j h in
    let len = length_of (take j (clean_marker e)) n in
    let left = length-drop k rest in
    elim (cases_lt (length (drop k rest)) 12) [
      | inl short ↦ too_short e (drop k rest) short
      | inr whole ↦ good (omega arith)
    ]

pub torn_marker_is_none : (e : Endian) (j n word : ℕ) → j < 12 → is_good e (drop (4 * word) (take j (clean_marker e) ++ erased n)) ≡ false
torn_marker_is_none e j n zero h = at_word e j n 0 h (λ long.
    no_header e (take j (clean_marker e) ++ erased n)
    (sym (has_header-take e 12 (take j (clean_marker e) ++ erased n) (omega arith)) ∙ ap (has_header e) (front_is_cut e j n h long) ∙ header_is_cut e j h))
torn_marker_is_none e j n (suc zero) h = at_word e j n 4 h (λ long.
    no_magic e (drop 4 (take j (clean_marker e) ++ erased n))
    (ap (λ (x : ℕ). x == magic) (number_is_cut e 4 j n (omega arith) h long) ∙ no_magic_at_4 e j h))
torn_marker_is_none e j n (suc (suc zero)) h = at_word e j n 8 h (λ long.
    no_magic e (drop 8 (take j (clean_marker e) ++ erased n))
    (ap (λ (x : ℕ). x == magic) (number_is_cut e 8 j n (omega arith) h long) ∙ no_magic_at_8 e j h))
torn_marker_is_none e j n (suc (suc (suc word))) h =
    let k : ℕ = 4 * suc (suc (suc word)) in
    let cut = cut_long e j h in
    ap (is_good e) (behind (take j (clean_marker e)) n k (omega arith)) ∙ erased_is_not_good e (n - (k - length (take j (clean_marker e))))

-- the marker byte by byte
pub marker_spelled : (e : Endian) (m t l c : List ℕ) (n : ℕ) → m ≡ bytes_in e 2 magic → t ≡ bytes_in e 2 0x2003 → l ≡ bytes_in e 4 12
    → n ≡ crc_of (slice_index m 0 ∷ slice_index m 1 ∷ slice_index t 0 ∷ slice_index t 1 ∷ slice_index l 0 ∷ slice_index l 1 ∷ slice_index l 2 ∷ slice_index l 3 ∷ [])
    → c ≡ bytes_in e 4 n
    → slice_index m 0 ∷ slice_index m 1 ∷ slice_index t 0 ∷ slice_index t 1 ∷ slice_index l 0 ∷ slice_index l 1 ∷ slice_index l 2 ∷ slice_index l 3
    ∷ slice_index c 0 ∷ slice_index c 1 ∷ slice_index c 2 ∷ slice_index c 3 ∷ [] ≡ clean_marker e
unfolding header_bytes bytes_in
marker_spelled Little m t l c n hm ht hl hn hc = rw (hc, hn, hm, ht, hl) refl
marker_spelled Big m t l c n hm ht hl hn hc = rw (hc, hn, hm, ht, hl) refl
