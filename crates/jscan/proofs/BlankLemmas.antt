-- The least block from which all are blank.
use Rattle.std.proofs.Common.{◌≡◌, ℕ, zero, suc, true, false, List, arith, inl, inr}
use Rattle.std.proofs.lemmas.Bool.{cases_Bool, cases_lt, both_ways}
use Rattle.jnode.specs.declared.order.Endian.{Endian}
use Rattle.jscan.specs.Image.{block_of}
use Rattle.jscan.specs.Blank.{is_blank, blank_from, IsBlankFrom}

one_more : (e : Endian) (size : ℕ) (image : List ℕ) (n b : ℕ) → is_blank e size (block_of size image n) ≡ true
    → IsBlankFrom e size image n b → IsBlankFrom e size image (suc n) b
one_more e size image n b blank is =
    let below = is.blank.within in
    record {
      blank = record {
        within = omega arith;
        blank = λ k from to. elim (cases_lt k n) [
          | inl before ↦ is.blank.blank k from before
          | inr at ↦ let same : k ≡ n = omega arith in rw same blank
        ];
      };
      least = λ c h.
          let top = h.within in
          elim (cases_lt n c) [
            | inl above ↦ omega arith
            | inr under ↦ is.least c (record { within = under; blank = λ k from to. h.blank k from (omega arith) })
          ];
    }

none_here : (e : Endian) (size : ℕ) (image : List ℕ) (n : ℕ) → is_blank e size (block_of size image n) ≡ false
    → IsBlankFrom e size image (suc n) (suc n)
none_here e size image n full = record {
  blank = record { within = omega arith; blank = λ k from to. absurd (omega arith) };
  least = λ c h. elim (cases_lt n c) [
    | inl above ↦ omega arith
    | inr under ↦ absurd (both_ways _ full (h.blank n under (omega arith)))
  ];
}

pub blank_from_is_least : (e : Endian) (size : ℕ) (image : List ℕ) (blocks : ℕ) → IsBlankFrom e size image blocks (blank_from e size image blocks)
blank_from_is_least e size image zero = record {
  blank = record { within = omega arith; blank = λ k from to. absurd (omega arith) };
  least = λ c h. omega arith;
}
blank_from_is_least e size image (suc n) = elim (cases_Bool (is_blank e size (block_of size image n))) [
  | inl blank ↦ rw blank (one_more e size image n (blank_from e size image n) blank (blank_from_is_least e size image n))
  | inr full ↦ rw full (none_here e size image n full)
]
