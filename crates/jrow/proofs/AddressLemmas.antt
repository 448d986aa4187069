-- Addresses of the row, on the flash with its blank blocks last.
use Rattle.std.proofs.Common.{◌≡◌, ℕ, ◌+◌, ◌-◌, ◌*◌, ◌/◌, ◌%◌, ◌<◌, ◌≤◌, Bool, true, false, cond, List, length, get_or, refl, sym, ap, ◌∙◌, arith, None, Some}
use Rattle.std.specs.Prelude.{nat_le, nat_lt, ◌&&◌}
use Rattle.std.proofs.lemmas.Bool.{and_parts, leb-true, ltb-true}
use Rattle.std.proofs.lemmas.Option.{same_Some}
use Rattle.jrow.specs.Arranged.{taken_blocks, arranged, RowAddressHolds, RowStarts}
use Rattle.jrow.specs.Row.{blank_blocks, side_by_side, address_in, start_of_row, address_of}
use Rattle.jrow.specs.RowLaws.{BlankBlocksAreRow}
use Rattle.jrow.proofs.ArrangedLemmas.{blocks_parted}
use Rattle.jrow.proofs.RowCodeLemmas.{blank_blocks_are_row, row_few, behind_start}
use Rattle.jrow.proofs.SideLemmas.{row_is_side_by_side, div_within, div_parts, mod_small}
use Rattle.jrow.proofs.TailLemmas.{tail_byte}

pub blank_blocks_are_few : BlankBlocksAreRow
blank_blocks_are_few e size blocks image =
    let is = blank_blocks_are_row e size blocks image in
    (is, row_few blocks (blank_blocks e size blocks image) is)

pub row_starts : RowStarts
row_starts e size blocks base =
    let count : length (taken_blocks e size blocks base) ≡ blocks - length (blank_blocks e size blocks base) = omega (arith, blocks_parted e size blocks base) in
    ap (λ (n : ℕ). n * size) count

-- an address that has one lies in the row
record LiesThere (size blocks at address : ℕ) (row : List ℕ) : Type 0 where
  low : start_of_row size blocks row ≤ at
  high : at < blocks * size
  is : address_in size row (at - start_of_row size blocks row) ≡ address

lies_there : (size blocks at address : ℕ) (row : List ℕ) → address_of size blocks row at ≡ Some address → LiesThere size blocks at address row
lies_there size blocks at address row =
    by (nat_le start at && nat_lt at (blocks * size)) refl
  where
    start : ℕ
    start = start_of_row size blocks row

    by : (t : Bool) → (nat_le (start_of_row size blocks row) at && nat_lt at (blocks * size)) ≡ t
        → cond t (Some (address_in size row (at - start_of_row size blocks row))) None ≡ Some address → LiesThere size blocks at address row
    by true test e =
        let both = and_parts (nat_le (start_of_row size blocks row) at) (nat_lt at (blocks * size)) test in
        record { low = leb-true _ _ both.0; high = ltb-true _ _ both.1; is = same_Some _ _ e }
    by false test e = absurd (cc)

pub row_address_holds : RowAddressHolds
row_address_holds e size blocks at address base image some told =
    let row : List ℕ = blank_blocks e size blocks base in
    let flash : List ℕ = arranged e size blocks base image in
    let n : ℕ = length (taken_blocks e size blocks base) in
    let it = lies_there size blocks at address row told in
    let few : length row ≤ blocks = (blank_blocks_are_few e size blocks base).1 in
    let start : start_of_row size blocks row ≡ n * size = sym (row_starts e size blocks base) in
    let from : ℕ = at - start_of_row size blocks row in
    let inside : from < length row * size = behind_start size blocks (length row) at few it.low it.high in
    let j : ℕ = from / size in
    let i : ℕ = from % size in
    let split : from ≡ j * size + i = div_parts from size some in
    let there : at ≡ (n + j) * size + i = omega (arith, start, it.low, split) in
    ap (λ (a : ℕ). get_or flash a 0xFF) there
    ∙ (tail_byte e size blocks base image j i (div_within from (length row) size some inside) (mod_small from size some)
    ∙ (ap (λ (a : ℕ). get_or (side_by_side size row image) a 0xFF) (sym split)
    ∙ ((row_is_side_by_side size row image some).bytes from inside ∙ ap (λ (a : ℕ). get_or image a 0xFF) it.is)))
