-- The blank blocks of an image in order, and the flash after bytes were written to them.
use Rattle.std.proofs.Common.{◌≡◌, ℕ, zero, suc, ◌+◌, ◌-◌, ◌*◌, ◌/◌, ◌%◌, ◌<◌, ◌≤◌, true, false, List, [], ◌∷◌, length, take, get_or, refl, sym, ap, subst, ◌∙◌, arith, inl, inr, Option, None, Some, Contains}
use Rattle.std.specs.Prelude.{◌==◌, option_map, unwrap_or, AllPairs}
use Rattle.std.proofs.Math.Nat.{mul-le-mul_right}
use Rattle.std.proofs.lemmas.Bool.{cases_lt, cases_Bool, eqb-true, eq-eqb}
use Rattle.std.proofs.lemmas.List.{get_or_past}
use Rattle.std.proofs.lemmas.List.Elements.{Contains-get_or}
use Rattle.std.proofs.lemmas.List.Kept.{AllPairs-filter}
use Rattle.std.proofs.lemmas.List.Quantifiers.{all_pairs_push}
use Rattle.flashbase.specs.Lists.{below}
use Rattle.flashbase.proofs.ListLemmas.{length-below, get_or-below}
use Rattle.flashbase.proofs.MemberLemmas.{Contains-here, Contains-there, Contains-filter, Contains-filter_from, Contains-below, Contains-below_from}
use Rattle.jnode.specs.declared.order.Endian.{Endian}
use Rattle.jscan.specs.Blank.{is_blank}
use Rattle.jscan.specs.Image.{block_of}
use Rattle.jscan.proofs.PartLemmas.{block_length}
use Rattle.jlog.proofs.ByteLemmas.{block_byte}
use Rattle.jrow.specs.RowLaws.{AreBlankBlocks, RowIsOfBlankBlocks}
use Rattle.jrow.specs.RowLeft.{IsLeftInRow, index_in, block_with, with_row, WrittenIsLeftInRow}
use Rattle.jrow.proofs.SideLemmas.{side_long, side_byte, made_long, made_byte, div_parts, mod_small}

-- ---- the row

pub below_ascends : (n : ℕ) → AllPairs (λ a b. a < b) (below n)
below_ascends zero = λ i j d less inside. absurd (omega (arith, inside))
below_ascends (suc n) =
    all_pairs_push (λ a b. a < b) (below n) n (below_ascends n)
    (λ k d inside. Contains-below_from n (get_or (below n) k d) (Contains-get_or (below n) k d inside))

pub row_is_of_blank_blocks : RowIsOfBlankBlocks
row_is_of_blank_blocks e size blocks image = record {
  ascending = AllPairs-filter (λ a b. a < b) (λ b. is_blank e size (block_of size image b)) (below blocks) (below_ascends blocks);
  each = λ b. (
    λ has. let it = Contains-filter_from (λ c. is_blank e size (block_of size image c)) (below blocks) b has in (Contains-below_from blocks b it.0, it.1),
    λ it. Contains-filter (λ c. is_blank e size (block_of size image c)) (below blocks) b it.1 (Contains-below blocks b it.0),
  );
}

-- ---- where a block stands in it

pub not_same : (a b : ℕ) → (a ≡ b → ⊥) → (a == b) ≡ false
not_same a b differ = elim (cases_Bool (a == b)) [
  | inl same ↦ absurd (differ (eqb-true a b same))
  | inr not ↦ not
]

pub index_of_none : (row : List ℕ) (b : ℕ) → (Contains row b → ⊥) → index_in row b ≡ None
index_of_none [] b out_of = refl
index_of_none (c ∷ row) b out_of =
    let differ : (c == b) ≡ false = not_same c b (λ same. out_of (subst (λ (d : ℕ). Contains (c ∷ row) d) same (Contains-here c row))) in
    rw differ (ap (option_map (λ index. index + 1)) (index_of_none row b (λ has. out_of (Contains-there c row b has))))

pub index_is : (row : List ℕ) (j : ℕ) → AllPairs (λ a b. a < b) row → j < length row → index_in row (get_or row j 0) ≡ Some j
index_is [] j up inside = absurd (omega arith)
index_is (c ∷ row) zero up inside =
    let same : (c == c) ≡ true = eq-eqb c c refl in
    rw same refl
index_is (c ∷ row) (suc j) up inside =
    let b : ℕ = get_or row j 0 in
    let above : c < b = up 0 (suc j) 0 (omega arith) inside in
    let differ : (c == b) ≡ false = not_same c b (λ same. omega (arith, above, same)) in
    let later : AllPairs (λ a b. a < b) row = λ i k d less within. up (suc i) (suc k) d (omega arith) (omega (arith, within)) in
    let next : j + 1 ≡ suc j = omega arith in
    rw differ (ap (option_map (λ index. index + 1)) (index_is row j later (omega (arith, inside))) ∙ ap Some next)

-- ---- the flash after bytes were written to it

pub with_long : (size : ℕ) (base row written : List ℕ) (b : ℕ) → length (block_with size base row written b) ≡ size
with_long size base row written b = by (index_in row b)
  where
    by : (o : Option ℕ) → length (unwrap_or (option_map (block_of size written) o) (block_of size base b)) ≡ size
    by None = block_length size base b
    by (Some j) = block_length size written j

pub with_byte : (size blocks : ℕ) (base row written : List ℕ) (b i : ℕ) → b < blocks → i < size
    → get_or (with_row size blocks base row written) (b * size + i) 0xFF ≡ get_or (block_with size base row written b) i 0xFF
with_byte size blocks base row written b i inside small =
    made_byte size (block_with size base row written) (with_long size base row written) (below blocks) b i (omega (arith, inside, length-below blocks)) small
    ∙ ap (λ (c : ℕ). get_or (block_with size base row written c) i 0xFF) (get_or-below blocks b inside)

block_kept : (size : ℕ) (base row written : List ℕ) (b : ℕ) → (Contains row b → ⊥) → block_with size base row written b ≡ block_of size base b
block_kept size base row written b out_of =
    ap (λ (o : Option ℕ). unwrap_or (option_map (block_of size written) o) (block_of size base b)) (index_of_none row b out_of)

block_written : (size : ℕ) (base row written : List ℕ) (j : ℕ) → AllPairs (λ a b. a < b) row → j < length row → block_with size base row written (get_or row j 0) ≡ block_of size written j
block_written size base row written j up inside =
    ap (λ (o : Option ℕ). unwrap_or (option_map (block_of size written) o) (block_of size base (get_or row j 0))) (index_is row j up inside)

left_with : (e : Endian) (size blocks k : ℕ) (base row out : List ℕ) → 0 < size → length base ≤ blocks * size → AreBlankBlocks e size blocks base row
    → IsLeftInRow e size blocks base row out k (with_row size blocks base row (take k out))
left_with e size blocks k base row out some within are =
    let written : List ℕ = take k out in
    let flash : List ℕ = with_row size blocks base row written in
    let long : length flash ≡ blocks * size =
    made_long size (block_with size base row written) (with_long size base row written) (below blocks) ∙ ap (λ (n : ℕ). n * size) (length-below blocks) in
    record {
      no_longer = omega (arith, long);
      stays = λ at out_of.
          let d : ℕ = at / size in
          let i : ℕ = at % size in
          let small : i < size = mod_small at size some in
          let split : at ≡ d * size + i = div_parts at size some in
          elim (cases_lt d blocks) [
            | inl inside ↦
                subst (λ (a : ℕ). get_or flash a 0xFF ≡ get_or base a 0xFF) (sym split)
                (with_byte size blocks base row written d i inside small
                ∙ (ap (λ (l : List ℕ). get_or l i 0xFF) (block_kept size base row written d out_of) ∙ block_byte size base d i small))
            | inr past ↦
                let far : blocks * size ≤ d * size = mul-le-mul_right size (omega (arith, past)) in
                get_or_past flash at 0xFF (omega (arith, long, far, split)) ∙ sym (get_or_past base at 0xFF (omega (arith, within, far, split)))
          ];
      written = record {
        no_longer = omega (arith, side_long size row flash);
        stays = λ at less. absurd (omega (arith, less));
        each = λ j inside. inl (λ i small low.
            let b : ℕ = get_or row j 0 in
            let there : b < blocks = ((are.each b).0 (Contains-get_or row j 0 inside)).0 in
            let here : j * size + i ≡ j * size + i - 0 = omega arith in
            side_byte size row flash j i inside small
            ∙ (block_byte size flash b i small
            ∙ (with_byte size blocks base row written b i there small
            ∙ (ap (λ (l : List ℕ). get_or l i 0xFF) (block_written size base row written j are.ascending inside)
            ∙ (block_byte size written j i small ∙ ap (λ (n : ℕ). get_or written n 0xFF) here)))));
      };
    }

pub written_is_left_in_row : WrittenIsLeftInRow
written_is_left_in_row e size blocks k base row out some within is =
    left_with e size blocks k base row out some within (subst (AreBlankBlocks e size blocks base) (sym is) (row_is_of_blank_blocks e size blocks base))
