-- Which cut of written bytes is the least that no check shows.
use Rattle.std.proofs.Common.{◌≡◌, ◌≢◌, ◌↔◌, ◌≤◌, ◌<◌, ◌+◌, ◌-◌, ◌^◌, ◌==◌, ◌&&◌, ◌||◌, ℕ, suc, Bool, true, false, not, IsTrue, nat_lt, Option, Some, None, List, [], ◌∷◌, ◌++◌, length, take, drop, slice_index, bit_xor, refl, sym, ap, ap₂, subst, ◌∙◌, arith, inl, inr, drop-cons, length-drop}
use Rattle.std.specs.Prelude.{bytes_eq, IfSome}
use Rattle.std.proofs.lemmas.Bool.{cases_lt, cases_Bool, lt-ltb, ltb-true, eqb-true, eq-eqb, ne_eqb, and_from, and_right, both_ways, false_from_ne_true}
use Rattle.std.proofs.lemmas.List.{length-take-le, take-append-drop, get_or-replicate, drop_at, take_all, append-nil}
use Rattle.std.proofs.lemmas.Slice.Eq.{bytes_eq-Decides}
use Rattle.std.proofs.lemmas.Nat.{xor_lt}
use lib.Bits.{xor_self}
use Rattle.flashbase.specs.Bytes.{erased, IsErasedRun}
use Rattle.flashbase.specs.Crc.{push_byte, crc_after, crc_of}
use Rattle.flashbase.proofs.CrcLemmas.{crc_goes_on, crc_of-lt}
use Rattle.jnode.specs.Weak.{torn, is_hidden, IsLeastHidden}
use Rattle.jnode.specs.Tails.{IsGap, IsLeastFrom, Walked}
use Rattle.jnode.proofs.UndoLemmas.{gap_of_none, gap_of_more, gap_before, gap_before_four, gap_before-lt, one_popped, one_popped-lt, pop_by_table, few_more}

-- ---- whether a cut changes the bytes

pub torn_is : (xs : List ℕ) (j : ℕ) → j ≤ length xs → torn xs j ≡ xs → drop j xs ≡ erased (length xs - j)
torn_is xs j within same =
    sym (ap (drop j) same) ∙ drop_at (take j xs) (erased (length xs - j)) j (length-take-le j xs within)

pub torn_back : (xs : List ℕ) (j : ℕ) → drop j xs ≡ erased (length xs - j) → torn xs j ≡ xs
torn_back xs j same = ap (λ (t : List ℕ). take j xs ++ t) (sym same) ∙ take-append-drop j xs

pub torn_past : (xs : List ℕ) (j : ℕ) → length xs ≤ j → torn xs j ≡ xs
torn_past xs j past =
    let none : length xs - j ≡ 0 = omega arith in
    ap₂ (λ (a : List ℕ) (k : ℕ). a ++ erased k) (take_all j xs past) none ∙ append-nil xs

all_erased : (xs : List ℕ) → ((k : ℕ) → k < length xs → slice_index xs k ≡ 0xFF) → xs ≡ erased (length xs)
all_erased [] run = refl
all_erased (x ∷ xs) run = ap₂ (λ (y : ℕ) (ys : List ℕ). y ∷ ys) (run 0 (omega arith)) (all_erased xs (λ k h. run (suc k) (omega arith)))

pub changed : (xs : List ℕ) (j r : ℕ) → j ≤ length xs → IsErasedRun (drop j xs) r
    → IsTrue (nat_lt r (length xs - j)) ↔ (torn xs j ≡ xs → ⊥)
changed xs j r within run = (
  λ less same.
      let inside : r < length xs - j = ltb-true _ _ less in
      run.stops (omega (arith, length-drop j xs)) (ap (λ (l : List ℕ). slice_index l r) (torn_is xs j within same) ∙ get_or-replicate (length xs - j) r 0xFF 0 inside),
  λ differs. elim (cases_lt r (length xs - j)) [
    | inl less ↦ lt-ltb _ _ less
    | inr all ↦ absurd (differs (torn_back xs j
        (all_erased (drop j xs) (λ k h. run.erased k (omega (arith, length-drop j xs))) ∙ ap erased (length-drop j xs))))
  ],
)

-- ---- what the checksum does not show

whole_crc : (xs : List ℕ) (j : ℕ) → crc_of xs ≡ crc_after (crc_of (take j xs)) (drop j xs)
whole_crc xs j = sym (crc_goes_on 0 (take j xs) (drop j xs) ∙ ap crc_of (take-append-drop j xs))

torn_crc : (xs : List ℕ) (j : ℕ) → crc_of (torn xs j) ≡ crc_after (crc_of (take j xs)) (erased (length (drop j xs)))
torn_crc xs j = sym (crc_goes_on 0 (take j xs) (erased (length (drop j xs))) ∙ ap (λ (n : ℕ). crc_of (take j xs ++ erased n)) (length-drop j xs))

hidden_same : (xs : List ℕ) (j : ℕ) → torn xs j ≡ xs → is_hidden xs j ≡ false
unfolding is_hidden
hidden_same xs j same = let it : bytes_eq (torn xs j) xs ≡ true = (bytes_eq-Decides _ _).1 same in rw it refl

hidden_apart : (xs : List ℕ) (j gap : ℕ) → IsGap (drop j xs) gap → gap ≢ 0 → is_hidden xs j ≡ false
unfolding is_hidden
hidden_apart xs j gap is some =
    let s = crc_of (take j xs) in
    let word = crc_of-lt (take j xs) in
    and_right _ _ (ne_eqb _ _ (λ same.
    some (sym (is.to s s word word (sym (whole_crc xs j) ∙ same ∙ torn_crc xs j)) ∙ xor_self s)))

hidden_found : (xs : List ℕ) (j gap : ℕ) → IsGap (drop j xs) gap → gap ≡ 0 → torn xs j ≢ xs → is_hidden xs j ≡ true
unfolding is_hidden
hidden_found xs j gap is none differs =
    let s = crc_of (take j xs) in
    let word = crc_of-lt (take j xs) in
    let other : bytes_eq (torn xs j) xs ≡ false = false_from_ne_true _ (λ t. differs ((bytes_eq-Decides _ _).0 t)) in
    rw other (eq-eqb _ _ (whole_crc xs j ∙ is.from s s word word (xor_self s ∙ sym none) ∙ sym (torn_crc xs j)))

-- ---- from the last byte to the first

none_left : (xs : List ℕ) → drop (length xs) xs ≡ []
none_left [] = refl
none_left (x ∷ xs) = none_left xs

pub walk_start : (xs : List ℕ) → Walked xs (length xs) 0 false None
walk_start xs =
    let none : length xs - length xs ≡ 0 = omega arith in
    record {
      within = omega arith;
      gap_is = rw (none_left xs) gap_of_none;
      same = λ _. none_left xs ∙ sym (ap erased none);
      other = λ no. absurd (both_ways false refl no);
      least_is = λ j past. hidden_same xs j (torn_past xs j past);
    }

least_before : (xs : List ℕ) (p : ℕ) (least : Option ℕ) → is_hidden xs p ≡ false → IsLeastFrom xs (p + 1) least → IsLeastFrom xs p least
least_before xs p None shown rest = λ j from. elim (cases_lt p j) [
  | inl after ↦ rest j (omega arith)
  | inr at ↦ let here : j ≡ p = omega arith in rw here shown
]
least_before xs p (Some k) shown rest = (
  rest.0,
  λ i from hidden. elim (cases_lt p i) [
    | inl after ↦ rest.1 i (omega arith) hidden
    | inr at ↦ let here : p ≡ i = omega arith in absurd (both_ways _ (ap (is_hidden xs) (sym here) ∙ shown) hidden)
  ],
)

pub least_all : (xs : List ℕ) (least : Option ℕ) → IsLeastFrom xs 0 least → IsLeastHidden xs least
least_all xs None from = λ j. from j (omega arith)
least_all xs (Some k) from = (from.0, λ i hidden. from.1 i (omega arith) hidden)

pub least_within : (xs : List ℕ) (least : Option ℕ) → IsLeastHidden xs least → IfSome least (λ cut. cut < length xs)
least_within xs None from = tt
least_within xs (Some k) from = elim (cases_lt k (length xs)) [
  | inl less ↦ less
  | inr past ↦ absurd (both_ways _ (hidden_same xs k (torn_past xs k past)) from.0)
]

-- one byte more, whatever comes of the least
record Stepped (xs : List ℕ) (p gap : ℕ) (differs : Bool) : Type 0 where
  pub gap_is : IsGap (drop p xs) gap
  pub same : differs ≡ false → drop p xs ≡ erased (length xs - p)
  pub other : differs ≡ true → drop p xs ≡ erased (length xs - p) → ⊥

or_false : (a b : Bool) → (a || b) ≡ false → (a ≡ false) × (b ≡ false)
or_false false b h = (refl, h)
or_false true b h = absurd (both_ways true h refl)

step : (xs : List ℕ) (p gap popped : ℕ) (differs : Bool) (least : Option ℕ) → p < length xs → slice_index xs p < 256 → popped < 2 ^ 32
    → push_byte popped 0 ≡ gap → Walked xs (p + 1) gap differs least
    → Stepped xs p (bit_xor popped (bit_xor (slice_index xs p) 0xFF)) (differs || not (slice_index xs p == 0xFF))
step xs p gap popped differs least inside small word is before =
    let b : ℕ = slice_index xs p in
    let more : p + 1 ≡ suc p = omega arith in
    let cons : drop p xs ≡ b ∷ drop (p + 1) xs = drop-cons xs p 0 inside ∙ ap (λ (k : ℕ). b ∷ drop k xs) (sym more) in
    let size : length xs - p ≡ suc (length xs - (p + 1)) = omega arith in
    record {
      gap_is = rw cons (gap_of_more b (drop (p + 1) xs) gap popped small word is before.gap_is);
      same = λ no.
          let parts = or_false differs (not (b == 0xFF)) no in
          let byte : b ≡ 0xFF = elim (cases_Bool (b == 0xFF)) [
            | inl it ↦ eqb-true _ _ it
            | inr not_it ↦ absurd (both_ways _ parts.1 (ap not not_it))
          ] in
          cons ∙ ap₂ (λ (y : ℕ) (ys : List ℕ). y ∷ ys) byte (before.same parts.0) ∙ ap erased (sym size);
      other = λ some all.
          let eq : b ∷ drop (p + 1) xs ≡ 0xFF ∷ erased (length xs - (p + 1)) = sym cons ∙ all ∙ ap erased size in
          let byte : b ≡ 0xFF = ap (λ (l : List ℕ). slice_index l 0) eq in
          let rest : drop (p + 1) xs ≡ erased (length xs - (p + 1)) = ap (drop 1) eq in
          elim (cases_Bool differs) [
            | inl d ↦ before.other d rest
            | inr d ↦ both_ways _ (ap₂ (λ (x : Bool) (y : ℕ). x || not (y == 0xFF)) d byte) some
          ];
    }

pub walk_found : (xs : List ℕ) (p gap popped gap' : ℕ) (differs differs' : Bool) (least : Option ℕ) → p < length xs → slice_index xs p < 256 → popped < 2 ^ 32
    → push_byte popped 0 ≡ gap → Walked xs (p + 1) gap differs least
    → gap' ≡ bit_xor popped (bit_xor (slice_index xs p) 0xFF) → differs' ≡ (differs || not (slice_index xs p == 0xFF))
    → differs' ≡ true → gap' ≡ 0 → Walked xs p gap' differs' (Some p)
walk_found xs p gap popped gap' differs differs' least inside small word is before gap_is flag_is some none =
    let s = step xs p gap popped differs least inside small word is before in
    let g : IsGap (drop p xs) gap' = rw gap_is s.gap_is in
    record {
      within = omega arith;
      gap_is = g;
      same = λ no. s.same (sym flag_is ∙ no);
      other = λ ok. s.other (sym flag_is ∙ ok);
      least_is = (hidden_found xs p gap' g none (λ same. s.other (sym flag_is ∙ some) (torn_is xs p (omega arith) same)), λ i from _. from);
    }

pub walk_past : (xs : List ℕ) (p gap popped gap' : ℕ) (differs differs' : Bool) (least : Option ℕ) → p < length xs → slice_index xs p < 256 → popped < 2 ^ 32
    → push_byte popped 0 ≡ gap → Walked xs (p + 1) gap differs least
    → gap' ≡ bit_xor popped (bit_xor (slice_index xs p) 0xFF) → differs' ≡ (differs || not (slice_index xs p == 0xFF))
    → (differs' && (gap' == 0)) ≡ false → Walked xs p gap' differs' least
walk_past xs p gap popped gap' differs differs' least inside small word is before gap_is flag_is none =
    let s = step xs p gap popped differs least inside small word is before in
    let g : IsGap (drop p xs) gap' = rw gap_is s.gap_is in
    let shown : is_hidden xs p ≡ false = elim (cases_Bool differs') [
      | inl it ↦ hidden_apart xs p gap' g (λ nil. both_ways _ none (and_from _ _ it (eq-eqb _ _ nil)))
      | inr it ↦ hidden_same xs p (torn_back xs p (s.same (sym flag_is ∙ it)))
    ] in
    record {
      within = omega arith;
      gap_is = g;
      same = λ no. s.same (sym flag_is ∙ no);
      other = λ ok. s.other (sym flag_is ∙ ok);
      least_is = least_before xs p least shown before.least_is;
    }

-- ---- four bytes at once

not_erased : (xs : List ℕ) (p gap : ℕ) → IsGap (drop p xs) gap → drop p xs ≡ erased (length xs - p) → gap ≡ 0
not_erased xs p gap is same =
    let n : length (drop p xs) ≡ length xs - p = length-drop p xs in
    let ends : crc_after 0 (drop p xs) ≡ crc_after 0 (erased (length (drop p xs))) =
    ap (crc_after 0) same ∙ ap (λ (k : ℕ). crc_after 0 (erased k)) (sym n) in
    sym (is.to 0 0 (omega arith) (omega arith) ends)

-- what a byte differs in from an erased one
abbrev pub other_at : List ℕ → ℕ → ℕ
other_at xs p = bit_xor (slice_index xs p) 0xFF

pub one_past : (xs : List ℕ) (p gap : ℕ) (differs : Bool) (least : Option ℕ) → p < length xs → slice_index xs p < 256 → gap < 2 ^ 32
    → Walked xs (p + 1) gap differs least → gap_before gap (other_at xs p) ≢ 0
    → Walked xs p (gap_before gap (other_at xs p)) (differs || not (slice_index xs p == 0xFF)) least
one_past xs p gap differs least inside small word before some =
    walk_past xs p gap (one_popped gap) (gap_before gap (other_at xs p)) differs (differs || not (slice_index xs p == 0xFF)) least inside small
    (one_popped-lt gap word) (pop_by_table gap word) before refl refl (and_right _ _ (ne_eqb _ _ some))

-- four bytes of which the first has a wide gap: no cut within them is hidden
pub four_past : (xs : List ℕ) (p gap : ℕ) (differs : Bool) (least : Option ℕ) → p + 4 ≤ length xs → ((i : ℕ) → slice_index xs i < 256) → gap < 2 ^ 32
    → Walked xs (p + 4) gap differs least
    → 0x1000000 ≤ gap_before_four gap (other_at xs (p + 3)) (other_at xs (p + 2)) (other_at xs (p + 1)) (other_at xs p)
    → Walked xs p (gap_before_four gap (other_at xs (p + 3)) (other_at xs (p + 2)) (other_at xs (p + 1)) (other_at xs p)) true least
four_past xs p gap differs least inside small word before wide =
    let d : (i : ℕ) → other_at xs i < 256 = λ i. xor_lt 8 (slice_index xs i) 0xFF (small i) (omega arith) in
    let d3 = other_at xs (p + 3) in
    let d2 = other_at xs (p + 2) in
    let d1 = other_at xs (p + 1) in
    let d0 = other_at xs p in
    let g1 = gap_before gap d3 in
    let l1 = gap_before-lt gap d3 word (d (p + 3)) in
    let g2 = gap_before g1 d2 in
    let l2 = gap_before-lt g1 d2 l1 (d (p + 2)) in
    let g3 = gap_before g2 d1 in
    let l3 = gap_before-lt g2 d1 l2 (d (p + 1)) in
    let g4 = gap_before g3 d0 in
    let some3 : g3 ≢ 0 = λ none.
    let few = few_more 8 g3 d0 (omega arith) (omega arith) (omega (arith, d p)) in absurd (omega arith) in
    let some2 : g2 ≢ 0 = λ none.
    let few = few_more 8 g2 d1 (omega arith) (omega arith) (omega (arith, d (p + 1))) in
    let more = few_more 16 g3 d0 (omega arith) (omega arith) (omega (arith, d p)) in absurd (omega arith) in
    let some1 : g1 ≢ 0 = λ none.
    let few = few_more 8 g1 d2 (omega arith) (omega arith) (omega (arith, d (p + 2))) in
    let more = few_more 16 g2 d1 (omega arith) (omega arith) (omega (arith, d (p + 1))) in
    let most = few_more 24 g3 d0 (omega arith) (omega arith) (omega (arith, d p)) in absurd (omega arith) in
    let some4 : g4 ≢ 0 = λ none. absurd (omega arith) in
    let at3 : p + 4 ≡ p + 3 + 1 = omega arith in
    let at2 : p + 3 ≡ p + 2 + 1 = omega arith in
    let at1 : p + 2 ≡ p + 1 + 1 = omega arith in
    let f1 = differs || not (slice_index xs (p + 3) == 0xFF) in
    let f2 = f1 || not (slice_index xs (p + 2) == 0xFF) in
    let f3 = f2 || not (slice_index xs (p + 1) == 0xFF) in
    let f4 = f3 || not (slice_index xs p == 0xFF) in
    let w1 : Walked xs (p + 3) g1 f1 least = one_past xs (p + 3) gap differs least (omega arith) (small (p + 3)) word (subst (λ (k : ℕ). Walked xs k gap differs least) at3 before) some1 in
    let w2 : Walked xs (p + 2) g2 f2 least = one_past xs (p + 2) g1 f1 least (omega arith) (small (p + 2)) l1 (subst (λ (k : ℕ). Walked xs k g1 f1 least) at2 w1) some2 in
    let w3 : Walked xs (p + 1) g3 f3 least = one_past xs (p + 1) g2 f2 least (omega arith) (small (p + 1)) l2 (subst (λ (k : ℕ). Walked xs k g2 f2 least) at1 w2) some3 in
    let w4 : Walked xs p g4 f4 least = one_past xs p g3 f3 least (omega arith) (small p) l3 w3 some4 in
    let flag : f4 ≡ true = elim (cases_Bool f4) [
      | inl it ↦ it
      | inr not_it ↦ absurd (some4 (not_erased xs p g4 w4.gap_is (w4.same not_it)))
    ] in
    subst (λ (f : Bool). Walked xs p g4 f least) flag w4
