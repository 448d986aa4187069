-- What the code of a row meets.
use Rattle.std.proofs.Common.{◌≡◌, ℕ, zero, suc, ◌+◌, ◌-◌, ◌*◌, ◌/◌, ◌%◌, ◌<◌, ◌≤◌, Bool, true, false, List, [], ◌∷◌, ◌++◌, length, take, drop, get_or, refl, sym, ap, subst, ◌∙◌, arith, inl, inr, cond, nat_eq, Option, None, Some, length-append}
use Rattle.std.specs.Prelude.{◌==◌, AllPairs, option_map, Result, Ok, Err}
use Rattle.std.specs.List.Sorted.{IsBinarySearchResult}
use Rattle.std.specs.Ordering.{nat_cmp}
use Rattle.std.specs.Result.{result_ok}
use Rattle.std.proofs.Math.Nat.{mul-le-mul_right}
use Rattle.std.proofs.Math.Seq.{take-append-add}
use Rattle.std.proofs.lemmas.Bool.{cases_Bool, cases_lt, eqb-true, eq-eqb, true≢false, cond-true, cond-false}
use Rattle.std.proofs.lemmas.Option.{same_Some}
use Rattle.std.proofs.lemmas.List.{take-replicate, length-replicate, get_or_default}
use Rattle.std.proofs.lemmas.List.Elements.{Contains-get_or}
use Rattle.std.proofs.lemmas.List.Kept.{AllPairs-filter}
use Rattle.std.proofs.lemmas.List.Sorted.{searched}
use Rattle.flashbase.specs.Bytes.{erased}
use Rattle.flashbase.specs.Lists.{below}
use Rattle.flashbase.proofs.ListLemmas.{filter-push}
use Rattle.flashbase.proofs.MemberLemmas.{Contains-filter_from, Contains-below_from}
use Rattle.jnode.specs.declared.order.Endian.{Endian}
use Rattle.jscan.specs.Blank.{is_blank, IsBlankFrom}
use Rattle.jscan.specs.Image.{block_of}
use Rattle.jrow.specs.Row.{blank_blocks, address_in, IsRowOf}
use Rattle.jrow.specs.RowLeft.{index_in}
use Rattle.jrow.proofs.WithRowLemmas.{below_ascends, not_same, index_of_none, index_is}

-- ---- a blank block

-- a block taken as an image of its own, of which the end is missing
present_alone : (size : ℕ) (part present : List ℕ) → length part ≡ size → part ≡ present ++ erased (length part - length present) → block_of size present 0 ≡ part
present_alone size part present long is =
    let n : ℕ = length present in
    let all : length part ≡ n + (length part - n) =
    ap length is ∙ (length-append present (erased (length part - n)) ∙ ap (λ (m : ℕ). n + m) (length-replicate {A = ℕ} (length part - n) 0xFF)) in
    let start : 0 * size ≡ 0 = omega arith in
    let sum : size ≡ n + (size - n) = omega (arith, all, long) in
    ap (λ (m : ℕ). take size (drop m present ++ erased size)) start
    ∙ (ap (λ (m : ℕ). take m (present ++ erased size)) sum
    ∙ (take-append-add present (erased size) (size - n)
    ∙ (ap (λ (l : List ℕ). present ++ l) (take-replicate (size - n) size 0xFF (omega arith))
    ∙ (ap (λ (m : ℕ). present ++ erased (m - n)) (sym long) ∙ sym is))))

pub present_short : (part present : List ℕ) → part ≡ present ++ erased (length part - length present) → length present ≤ length part
present_short part present is =
    let n : ℕ = length present in
    omega (arith, ap length is ∙ (length-append present (erased (length part - n)) ∙ ap (λ (m : ℕ). n + m) (length-replicate {A = ℕ} (length part - n) 0xFF)))

pub blank_alone : (e : Endian) (size r : ℕ) (part present : List ℕ) → length part ≡ size → part ≡ present ++ erased (length part - length present)
    → IsBlankFrom e size present 1 r → nat_eq r 0 ≡ is_blank e size part
blank_alone e size zero part present long is from =
    sym (sym (ap (is_blank e size) (present_alone size part present long is)) ∙ from.blank.blank 0 (omega arith) (omega arith))
blank_alone e size (suc r) part present long is from = elim (cases_Bool (is_blank e size (block_of size present 0))) [
  | inl blank ↦
      let none : suc r ≤ 0 = from.least 0 (record {
        within = omega arith;
        blank = λ k low less. let first : k ≡ 0 = omega arith in subst (λ (j : ℕ). is_blank e size (block_of size present j) ≡ true) (sym first) blank;
      }) in
      absurd (omega (arith, none))
  | inr full ↦ not_same (suc r) 0 (λ same. omega (arith, same)) ∙ sym (sym (ap (is_blank e size) (present_alone size part present long is)) ∙ full)
]

-- ---- a row

pub blank_blocks_are_row : (e : Endian) (size blocks : ℕ) (image : List ℕ) → IsRowOf blocks (blank_blocks e size blocks image)
blank_blocks_are_row e size blocks image =
    let row : List ℕ = blank_blocks e size blocks image in
    record {
      ascending = AllPairs-filter (λ a b. a < b) (λ b. is_blank e size (block_of size image b)) (below blocks) (below_ascends blocks);
      within = λ index inside.
          Contains-below_from blocks (get_or row index 0)
          (Contains-filter_from (λ b. is_blank e size (block_of size image b)) (below blocks) (get_or row index 0) (Contains-get_or row index 0 inside)).0;
    }

-- a number stands no lower than its index
no_lower : (row : List ℕ) → AllPairs (λ a b. a < b) row → (i : ℕ) → i < length row → i ≤ get_or row i 0
no_lower row up zero inside = omega arith
no_lower row up (suc i) inside = omega (arith, no_lower row up i (omega arith), up i (suc i) 0 (omega arith) inside)

pub row_few : (blocks : ℕ) (row : List ℕ) → IsRowOf blocks row → length row ≤ blocks
row_few blocks row is = elim (cases_lt 0 (length row)) [
  | inl some ↦
      let last : ℕ = length row - 1 in
      let inside : last < length row = omega (arith, some) in
      omega (arith, some, no_lower row is.ascending last inside, is.within last inside)
  | inr none ↦ omega (arith, none)
]

-- ---- addresses

pub block_within : (size blocks b most : ℕ) → b < blocks → blocks * size ≤ most → b * size + size ≤ most
block_within size blocks b most less small =
    let row : suc b * size ≤ blocks * size = mul-le-mul_right size less in
    omega (arith, row, small)

pub index_within : (size n at : ℕ) → at < n * size → at / size < n
index_within size n at less = grind (arith)

pub rest_small : (size n at : ℕ) → at < n * size → at % size < size
rest_small size n at less = grind (arith)

pub length_small : (size blocks n : ℕ) → n ≤ blocks → n * size ≤ blocks * size
length_small size blocks n few = mul-le-mul_right size few

pub behind_start : (size blocks n at : ℕ) → n ≤ blocks → (blocks - n) * size ≤ at → at < blocks * size → at - (blocks - n) * size < n * size
behind_start size blocks n at few low less =
    let sum : (blocks - n) * size + n * size ≡ blocks * size = grind (arith, few) in
    omega (arith, sum, low, less)

-- ---- where a block stands

row_rises : (row : List ℕ) → AllPairs (λ a b. a < b) row → (i j : ℕ) → i ≤ j → j < length row → get_or row i 0 ≤ get_or row j 0
row_rises row up i j no_later inside = elim (cases_lt i j) [
  | inl less ↦ omega (arith, up i j 0 less inside)
  | inr not ↦ let same : i ≡ j = omega (arith, no_later, not) in omega (arith, ap (λ (k : ℕ). get_or row k 0) same)
]

pub found_is : (row : List ℕ) (b : ℕ) (r : Result ℕ ℕ) → AllPairs (λ a b. a < b) row → IsBinarySearchResult (λ y. nat_cmp y b) row r → result_ok r ≡ index_in row b
found_is row b (Ok i) up is =
    let it = searched row b (Ok i) is (row_rises row up) in
    sym (ap (index_in row) (sym it.1) ∙ index_is row i up it.0)
found_is row b (Err i) up is =
    let it = searched row b (Err i) is (row_rises row up) in
    sym (index_of_none row b (λ has.
    let k : ℕ = has.0 in
    elim (cases_lt k i) [
      | inl before ↦ let here : get_or row k 0 ≡ b = sym (get_or_default row k b 0 has.1) ∙ has.2 in absurd (omega (arith, it.1 k before, here))
      | inr behind ↦ let here : get_or row k 0 ≡ b = sym (get_or_default row k b 0 has.1) ∙ has.2 in absurd (omega (arith, it.2 k behind has.1, here))
    ]))

-- ---- the blank blocks, one by one

pub one_more : (e : Endian) (size b : ℕ) (image : List ℕ) → is_blank e size (block_of size image b) ≡ true
    → blank_blocks e size (b + 1) image ≡ blank_blocks e size b image ++ b ∷ []
one_more e size b image blank =
    let next : b + 1 ≡ suc b = omega arith in
    ap (λ (n : ℕ). blank_blocks e size n image) next
    ∙ (filter-push (λ c. is_blank e size (block_of size image c)) (below b) b
    ∙ cond-true (is_blank e size (block_of size image b)) (blank_blocks e size b image ++ b ∷ []) (blank_blocks e size b image) blank)

pub none_more : (e : Endian) (size b : ℕ) (image : List ℕ) → is_blank e size (block_of size image b) ≡ false
    → blank_blocks e size (b + 1) image ≡ blank_blocks e size b image
none_more e size b image full =
    let next : b + 1 ≡ suc b = omega arith in
    ap (λ (n : ℕ). blank_blocks e size n image) next
    ∙ (filter-push (λ c. is_blank e size (block_of size image c)) (below b) b
    ∙ cond-false (is_blank e size (block_of size image b)) (blank_blocks e size b image ++ b ∷ []) (blank_blocks e size b image) full)

-- the block of an address of the row
pub block_there : (blocks size at b most : ℕ) (row : List ℕ) → IsRowOf blocks row → at < length row * size → b ≡ get_or row (at / size) b → blocks * size ≤ most
    → (b ≡ get_or row (at / size) 0) × (b * size + size ≤ most)
block_there blocks size at b most row is inside there small =
    let within : at / size < length row = index_within size (length row) at inside in
    let same : b ≡ get_or row (at / size) 0 = there ∙ get_or_default row (at / size) b 0 within in
    (same, block_within size blocks b most (omega (arith, same, is.within (at / size) within)) small)

pub address_small : (blocks size at most : ℕ) (row : List ℕ) → IsRowOf blocks row → at < length row * size → blocks * size ≤ most → address_in size row at < most
address_small blocks size at most row is inside small =
    let within : at / size < length row = index_within size (length row) at inside in
    let b : ℕ = get_or row (at / size) 0 in
    omega (arith, block_within size blocks b most (is.within (at / size) within) small, rest_small size (length row) at inside)

index_next : (row : List ℕ) (c d j : ℕ) (o : Option ℕ) → ((i : ℕ) → o ≡ Some i → (i < length row) × (get_or row i 0 ≡ d)) → option_map (λ index. index + 1) o ≡ Some j
    → (j < suc (length row)) × (get_or (c ∷ row) j 0 ≡ d)
index_next row c d j None before e = absurd (cc)
index_next row c d j (Some i) before e =
    let it = before i refl in
    let here : i + 1 ≡ j = same_Some (i + 1) j e in
    let next : suc i ≡ j = omega (arith, here) in
    (omega (arith, it.0, here), ap (λ (n : ℕ). get_or (c ∷ row) n 0) (sym next) ∙ it.1)

index_here : (row : List ℕ) (c d j : ℕ) (t : Bool) → (c == d) ≡ t → ((i : ℕ) → index_in row d ≡ Some i → (i < length row) × (get_or row i 0 ≡ d))
    → cond t (Some 0) (option_map (λ index. index + 1) (index_in row d)) ≡ Some j → (j < suc (length row)) × (get_or (c ∷ row) j 0 ≡ d)
index_here row c d j true is before e =
    let first : 0 ≡ j = same_Some 0 j e in
    (omega (arith, first), ap (λ (n : ℕ). get_or (c ∷ row) n 0) (sym first) ∙ eqb-true c d is)
index_here row c d j false is before e = index_next row c d j (index_in row d) before e

-- the block that stands there
pub index_found : (row : List ℕ) (d j : ℕ) → index_in row d ≡ Some j → (j < length row) × (get_or row j 0 ≡ d)
index_found [] d j e = absurd (cc)
index_found (c ∷ row) d j e = index_here row c d j (c == d) refl (λ i was. index_found row d i was) e

pub index_small : (row : List ℕ) (d j : ℕ) → index_in row d ≡ Some j → j < length row
index_small row d j e = (index_found row d j e).0

pub few_fit : (size n most : ℕ) → 0 < size → n * size ≤ most → n ≤ most
few_fit size n most some small = grind (arith)

pub some_of : (n : ℕ) → (n == 0) ≡ false → 0 < n
some_of n not = elim (cases_lt 0 n) [
  | inl some ↦ some
  | inr none ↦ let same : n ≡ 0 = omega (arith, none) in absurd (true≢false (sym (eq-eqb n 0 same) ∙ not))
]
