-- An image with bytes in its row, as it is put.
use Rattle.std.proofs.Common.{◌≡◌, ℕ, suc, ◌+◌, ◌-◌, ◌*◌, ◌/◌, ◌%◌, ◌<◌, ◌≤◌, Bool, true, false, cond, List, length, take, get_or, filter_map, refl, sym, ap, subst, ◌∙◌, arith, inl, inr, Option, None, Some}
use Rattle.std.specs.Prelude.{◌==◌, max, flat_map, option_map, unwrap_or, IsTrue}
use Rattle.std.specs.List.{list_any}
use Rattle.std.proofs.Math.Nat.{mul-le-mul_right}
use Rattle.std.proofs.lemmas.Bool.{cases_lt, eqb-true}
use Rattle.std.proofs.lemmas.List.{ext_get_or, get_or_past, get_or-take, length-take}
use Rattle.flashbase.specs.Lists.{below}
use Rattle.flashbase.proofs.ListLemmas.{length-below}
use Rattle.jnode.specs.declared.node.NodeRef.{NodeRef}
use Rattle.jnode.specs.declared.order.Endian.{Endian}
use Rattle.jscan.specs.Image.{is_block_size, block_of}
use Rattle.jscan.proofs.PartLemmas.{block_length}
use Rattle.jmount.specs.Laws.{SameElements}
use Rattle.jexpand.specs.Expanded.{expanded_nodes}
use Rattle.jlog.specs.Left.{IsLeft}
use Rattle.jlog.proofs.ByteLemmas.{block_byte}
use Rattle.jrow.specs.Row.{side_by_side, address_in, IsRowOf}
use Rattle.jrow.specs.RowLeft.{index_in, block_with, with_row}
use Rattle.jrow.specs.Written.{length_with, image_with_row, HoldSame, WithRowIsWhole, SameIsLeftInRow, SameMountsThrough, ImageWithRowIsLeft}
use Rattle.jrow.proofs.ArrangedLemmas.{AreSeenSame}
use Rattle.jrow.proofs.BlockLemmas.{glimpses_of, image_glimpsed, same_for_each}
use Rattle.jrow.proofs.GlimpseLemmas.{Glimpse, block_glimpses, node_glimpsed, content_glimpsed, is_refused}
use Rattle.jrow.proofs.RowCodeLemmas.{index_found, blank_blocks_are_row}
use Rattle.jrow.proofs.SideLemmas.{made_long, div_within, div_parts, mod_small}
use Rattle.jrow.proofs.TailLemmas.{mounts_same}
use Rattle.jrow.proofs.WithRowLemmas.{with_long, with_byte, written_is_left_in_row}

-- ---- images that hold the same

same_block : (size : ℕ) (image other : List ℕ) → HoldSame image other → (b : ℕ) → block_of size image b ≡ block_of size other b
same_block size image other same b =
    ext_get_or 0xFF (block_of size image b) (block_of size other b) (block_length size image b ∙ sym (block_length size other b)) (λ i inside.
    let small : i < size = omega (arith, inside, block_length size image b) in
    block_byte size image b i small ∙ (same (b * size + i) ∙ sym (block_byte size other b i small)))

pub same_is_left_in_row : SameIsLeftInRow
same_is_left_in_row e size blocks k base row out image other within same left =
    let rows : side_by_side size row image ≡ side_by_side size row other =
    same_for_each (block_of size image) (block_of size other) row (same_block size image other same) in
    record {
      no_longer = within;
      stays = λ at out_of. sym (same at) ∙ left.stays at out_of;
      written = subst (IsLeft e size (length row) (side_by_side size row base) 0 out k) rows left.written;
    }

same_seen : (e : Endian) (size blocks : ℕ) (image other : List ℕ) → IsTrue (is_block_size size) → length image ≤ blocks * size → length other ≤ blocks * size → HoldSame image other
    → AreSeenSame e size image other
same_seen e size blocks image other size_is within inside same =
    let gs : List Glimpse = glimpses_of e size image (below blocks) in
    let hs : List Glimpse = glimpses_of e size other (below blocks) in
    let told : gs ≡ hs =
    same_for_each (λ b. block_glimpses e (block_of size image b)) (λ b. block_glimpses e (block_of size other b)) (below blocks)
    (λ b. ap (block_glimpses e) (same_block size image other same b)) in
    let of = image_glimpsed e size blocks image size_is within in
    let by = image_glimpsed e size blocks other size_is inside in
    let nodes : expanded_nodes e size image ≡ expanded_nodes e size other = of.nodes ∙ (ap (filter_map node_glimpsed) told ∙ sym by.nodes) in
    record {
      nodes = subst (λ (l : List NodeRef). SameElements (expanded_nodes e size image) l) nodes (λ x. (λ has. has, λ has. has));
      contents = ap length (of.contents ∙ (ap (flat_map content_glimpsed) told ∙ sym by.contents));
      refused = of.refused ∙ (ap (list_any (is_refused size)) told ∙ sym by.refused);
    }

pub same_mounts_through : SameMountsThrough
same_mounts_through e size blocks image other s size_is small within inside same mounts =
    mounts_same e size image other s (same_seen e size blocks image other size_is within inside same) (size_is, omega (arith, inside, small)) mounts

-- ---- where an image with bytes in its row ends

-- not before its base, nor before the last of the bytes
record EndsLast (size : ℕ) (base row written : List ℕ) : Type 0 where
  behind_base : length base ≤ length_with size base row written
  behind_written : 0 < length written → address_in size row (length written - 1) < length_with size base row written

ends_last : (size : ℕ) (base row written : List ℕ) → EndsLast size base row written
ends_last size base row written =
    let it = by (length written == 0) refl in
    record { behind_base = it.0; behind_written = it.1 }
  where
    end : ℕ
    end = address_in size row (length written - 1)

    by : (t : Bool) → (length written == 0) ≡ t
        → (length base ≤ cond t (length base) (max (length base) (address_in size row (length written - 1) + 1)))
        × (0 < length written → address_in size row (length written - 1) < cond t (length base) (max (length base) (address_in size row (length written - 1) + 1)))
    by true none = (omega arith, λ some. absurd (omega (arith, some, eqb-true (length written) 0 none)))
    by false not = (omega arith, λ some. omega arith)

-- behind the last of the bytes there is none in the row
row_past : (size blocks d i j w : ℕ) (row : List ℕ) → 0 < size → IsRowOf blocks row → j < length row → get_or row j 0 ≡ d → i < size → 0 < w → w ≤ length row * size
    → address_in size row (w - 1) < d * size + i → w ≤ j * size + i
row_past size blocks d i j w row some is inside here small any fits past =
    let q : ℕ = (w - 1) / size in
    let r : ℕ = (w - 1) % size in
    let split : w - 1 ≡ q * size + r = div_parts (w - 1) size some in
    let rest : r < size = mod_small (w - 1) size some in
    let within : q < length row = div_within (w - 1) (length row) size some (omega (arith, any, fits)) in
    elim (cases_lt (j * size + i) w) [
      | inr not ↦ not
      | inl less ↦ elim (cases_lt j q) [
        | inl lower ↦
            let above : get_or row j 0 < get_or row q 0 = is.ascending j q 0 lower within in
            let up : suc d * size ≤ get_or row q 0 * size = mul-le-mul_right size (omega (arith, above, here)) in
            absurd (omega (arith, up, past, small))
        | inr no_lower ↦ elim (cases_lt q j) [
          | inl higher ↦
              let up : suc q * size ≤ j * size = mul-le-mul_right size higher in
              absurd (omega (arith, up, split, rest, less))
          | inr no_higher ↦
              let same : q ≡ j = omega (arith, no_lower, no_higher) in
              let block : get_or row q 0 * size ≡ d * size = ap (λ (n : ℕ). n * size) (ap (λ (n : ℕ). get_or row n 0) same ∙ here) in
              let front : q * size ≡ j * size = ap (λ (n : ℕ). n * size) same in
              absurd (omega (arith, block, front, split, past, less))
        ]
      ]
    ]

block_past : (size blocks d i : ℕ) (base row written : List ℕ) → 0 < size → IsRowOf blocks row → length written ≤ length row * size → i < size
    → length_with size base row written ≤ d * size + i → get_or (block_with size base row written d) i 0xFF ≡ 0xFF
block_past size blocks d i base row written some is fits small past =
    by (index_in row d) refl
  where
    by : (o : Option ℕ) → index_in row d ≡ o → get_or (unwrap_or (option_map (block_of size written) o) (block_of size base d)) i 0xFF ≡ 0xFF
    by None none = block_byte size base d i small ∙ get_or_past base (d * size + i) 0xFF (omega (arith, past, (ends_last size base row written).behind_base))
    by (Some j) found =
        let it = index_found row d j found in
        block_byte size written j i small
        ∙ elim (cases_lt 0 (length written)) [
          | inl any ↦
              get_or_past written (j * size + i) 0xFF
              (row_past size blocks d i j (length written) row some is it.0 it.1 small any fits (omega (arith, past, (ends_last size base row written).behind_written any)))
          | inr none ↦ get_or_past written (j * size + i) 0xFF (omega (arith, none))
        ]

flash_long : (size blocks : ℕ) (base row written : List ℕ) → length (with_row size blocks base row written) ≡ blocks * size
flash_long size blocks base row written =
    made_long size (block_with size base row written) (with_long size base row written) (below blocks) ∙ ap (λ (n : ℕ). n * size) (length-below blocks)

flash_past : (size blocks at : ℕ) (base row written : List ℕ) → 0 < size → IsRowOf blocks row → length written ≤ length row * size
    → length_with size base row written ≤ at → get_or (with_row size blocks base row written) at 0xFF ≡ 0xFF
flash_past size blocks at base row written some is fits past =
    let flash : List ℕ = with_row size blocks base row written in
    let d : ℕ = at / size in
    let i : ℕ = at % size in
    let small : i < size = mod_small at size some in
    let split : at ≡ d * size + i = div_parts at size some in
    elim (cases_lt d blocks) [
      | inl inside ↦
          ap (λ (a : ℕ). get_or flash a 0xFF) split
          ∙ (with_byte size blocks base row written d i inside small ∙ block_past size blocks d i base row written some is fits small (omega (arith, past, split)))
      | inr outside ↦
          let far : blocks * size ≤ d * size = mul-le-mul_right size outside in
          get_or_past flash at 0xFF (omega (arith, flash_long size blocks base row written, far, split))
    ]

pub with_row_is_whole : WithRowIsWhole
with_row_is_whole size blocks base row written some is within fits at =
    let flash : List ℕ = with_row size blocks base row written in
    let n : ℕ = length_with size base row written in
    elim (cases_lt at n) [
      | inl less ↦ sym (get_or-take n flash at 0xFF less)
      | inr past ↦
          flash_past size blocks at base row written some is fits past
          ∙ sym (get_or_past (take n flash) at 0xFF (omega (arith, past, length-take n flash)))
    ]

pub image_with_row_is_left : ImageWithRowIsLeft
image_with_row_is_left e size blocks k base row out some within is fits =
    let written : List ℕ = take k out in
    let flash : List ℕ = with_row size blocks base row written in
    let n : ℕ = length_with size base row written in
    same_is_left_in_row e size blocks k base row out flash (image_with_row size blocks base row written)
    (omega (arith, length-take n flash, flash_long size blocks base row written))
    (with_row_is_whole size blocks base row written some (subst (IsRowOf blocks) (sym is) (blank_blocks_are_row e size blocks base)) within (omega (arith, fits, length-take k out)))
    (written_is_left_in_row e size blocks k base row out some within is)
