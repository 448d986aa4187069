-- How much a row of openings has left.
use Rattle.std.proofs.Common.{◌≡◌, ℕ, suc, ◌+◌, ◌-◌, ◌*◌, ◌<◌, ◌≤◌, List, [], ◌∷◌, length, drop, get_or, sym, ap, ◌∙◌, arith}
use Rattle.std.specs.Prelude.{IsTrue, ◌&&◌, nat_le, nat_lt, sum_by}
use Rattle.std.proofs.Math.Nat.{mul-le-mul_right}
use Rattle.std.proofs.lemmas.Bool.{and_parts, leb-true}
use Rattle.std.proofs.lemmas.List.Sums.{sum_by-cons}
use Rattle.jscan.specs.Image.{is_block_size, greatest_image}
use Rattle.jlog.specs.Places.{free, is_writable_flash}
use Rattle.jrests.specs.declared.opening.Opening.{Opening}
use Rattle.jupdate.specs.Rows.{gone_on, free_in}
use Rattle.jupdate.proofs.RowLemmas.{gone, left_head, left_none}

pub free_step : (size : ℕ) (row : List Opening) (p q : ℕ) (d : Opening) (all sum : ℕ) (behind : List Opening) → p < length row → sum + free_in size (gone_on (drop p row) q) ≡ all → behind ≡ drop (suc p) row
    → sum + free size 1 q + free_in size behind ≡ all
free_step size row p q d all sum behind below is behind_is =
    let head : free_in size (gone_on (drop p row) q) ≡ free size 1 q + free_in size (drop (suc p) row) =
    ap (free_in size) (left_head row p q d below) ∙ sum_by-cons (λ (o : Opening). free size 1 o.place) (gone (get_or row p d) q) (drop (suc p) row) in
    omega (arith, is, head, ap (free_in size) behind_is)

pub free_end : (size : ℕ) (row : List Opening) (p q all sum : ℕ) → length row ≤ p → sum + free_in size (gone_on (drop p row) q) ≡ all → sum ≡ all
free_end size row p q all sum past is = omega (arith, is, ap (free_in size) (left_none row p q past))

-- ---- it is no more than the flash has

free_one : (size at : ℕ) → free size 1 at ≤ size
free_one size at = let one : 1 * size ≡ size = omega arith in omega (arith, one)

few_bytes : (size : ℕ) (row : List Opening) → free_in size row ≤ length row * size
few_bytes size [] = omega arith
few_bytes size (o ∷ row) =
    let next : suc (length row) * size ≡ size + length row * size = omega arith in
    omega (arith, sum_by-cons (λ (p : Opening). free size 1 p.place) o row, free_one size o.place, few_bytes size row, next)

pub free_small : (size blocks : ℕ) (row : List Opening) → IsTrue (is_writable_flash size blocks) → length row ≤ blocks → free_in size row ≤ 268435456
free_small size blocks row ok few =
    let small : blocks * size ≤ greatest_image =
    leb-true (blocks * size) greatest_image (and_parts (is_block_size size && nat_le 8192 size && nat_lt 0 blocks) (nat_le (blocks * size) greatest_image) ok).1 in
    let most : length row * size ≤ blocks * size = mul-le-mul_right size few in
    omega (arith, few_bytes size row, most, small)
