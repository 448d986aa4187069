-- What went out to openings, as it lies on the flash.
use Rattle.std.proofs.Common.{◌≡◌, ℕ, ◌+◌, ◌-◌, ◌*◌, ◌/◌, ◌%◌, ◌<◌, ◌≤◌, false, cond, List, [], ◌∷◌, ◌++◌, length, take, drop, get_or, refl, sym, ap, ap₂, subst, ◌∙◌, arith, inl, inr, length-take, length-drop}
use Rattle.std.specs.Prelude.{◌==◌, min}
use Rattle.std.specs.List.{AllByRecursion}
use Rattle.std.proofs.Math.ListN.{drop_of_length-le}
use Rattle.std.proofs.Math.Nat.{mul-le-mul_right}
use Rattle.std.proofs.Math.Seq.{take-append-add, take-append_seam, drop-append_seam}
use Rattle.std.proofs.lemmas.Bool.{cases_Bool, cases_lt, cond-true, cond-false, eqb-true}
use Rattle.std.proofs.lemmas.List.{ext_get_or, get_or-take, get_or_past, take-append-le, take_all}
use Rattle.flashbase.specs.Lists.{below}
use Rattle.flashbase.proofs.ListLemmas.{length-below, get_or-below}
use Rattle.jnode.specs.declared.order.Endian.{Endian}
use Rattle.jscan.specs.Image.{block_of}
use Rattle.jscan.proofs.PartLemmas.{block_length}
use Rattle.jscan.proofs.StreamCounts.{readable_some, readable_words}
use Rattle.jlog.specs.Left.{IsLeft, front_of}
use Rattle.jlog.specs.Laws.{FitsBlock}
use Rattle.jlog.specs.Places.{end_of_all}
use Rattle.jlog.proofs.ByteLemmas.{block_byte}
use Rattle.jlog.proofs.IntactLemmas.{output_is_long}
use Rattle.jlog.proofs.RoomLemmas.{end_is_within}
use Rattle.jrow.specs.Written.{HoldSame}
use Rattle.jrow.proofs.BlockLemmas.{same_for_each}
use Rattle.jrow.proofs.SideLemmas.{made_byte, made_long, div_parts, mod_small}
use Rattle.jrow.proofs.WithRowLemmas.{not_same}
use Rattle.jrests.specs.Left.{SharesAreLeft, IsLeftOfShares}
use Rattle.jrests.specs.Openings.{AreUpwards, IsOpeningOf}
use Rattle.jrests.specs.Shares.{taken_from, Share, shares, output_to}
use Rattle.jrests.specs.declared.opening.Opening.{Opening}
use Rattle.jrests.proofs.ShareLemmas.{taken_fits, all_first, all_behind}
use Rattle.jopenings.specs.After.{output_to_all}
use Rattle.jopenings.specs.Exist.{block_after, block_left}
use Rattle.jopenings.specs.Stretches.{AreStretches, share_stretch, stretches_of, block_behind, block_in, flash_with, end_in, end_of_last, length_after}
use Rattle.jopenings.specs.StretchLaws.{FlashWithSharesIsLeft, FlashWithIsWhole, SameIsLeftOfShares, ImageWithSharesIsLeft, SharesAreStretches}
use Rattle.jopenings.specs.declared.placing.Stretch.{Stretch}
use Rattle.jopenings.proofs.ExistLemmas.{opening_within, opening_aligned, front_byte, behind_byte, some_are_left}

-- ---- the flash with the first k bytes is the one that is left

-- of the first k bytes of two parts: those of the first part,
pub cut_first : (k : ℕ) (xs ys : List ℕ) → take (length xs) (take k (xs ++ ys)) ≡ take k xs
cut_first k xs ys = elim (cases_lt (length xs) k) [
  | inl past ↦
      let sum : k ≡ length xs + (k - length xs) = omega (arith, past) in
      ap (λ (n : ℕ). take (length xs) (take n (xs ++ ys))) sum
      ∙ (ap (take (length xs)) (take-append-add xs ys (k - length xs))
      ∙ (take-append_seam xs (take (k - length xs) ys) ∙ sym (take_all k xs (omega (arith, past)))))
  | inr within ↦ ap (take (length xs)) (take-append-le k xs ys within) ∙ take_all (length xs) (take k xs) (omega (arith, length-take k xs))
]

-- and those of the second
pub cut_others : (k : ℕ) (xs ys : List ℕ) → drop (length xs) (take k (xs ++ ys)) ≡ take (k - length xs) ys
cut_others k xs ys = elim (cases_lt (length xs) k) [
  | inl past ↦
      let sum : k ≡ length xs + (k - length xs) = omega (arith, past) in
      ap (λ (n : ℕ). drop (length xs) (take n (xs ++ ys))) sum
      ∙ (ap (drop (length xs)) (take-append-add xs ys (k - length xs)) ∙ drop-append_seam xs (take (k - length xs) ys))
  | inr within ↦
      let none : k - length xs ≡ 0 = omega (arith, within) in
      ap (drop (length xs)) (take-append-le k xs ys within)
      ∙ (drop_of_length-le (take k xs) (omega (arith, length-take k xs)) ∙ sym (ap (λ (n : ℕ). take n ys) none))
]

block_is_left : (e : Endian) (size k b : ℕ) (base : List ℕ) (ss : List Share)
    → block_in size base (stretches_of e size ss) (take k (output_to_all e size ss)) b ≡ block_left e size base ss k b
block_is_left e size k b base [] = refl
block_is_left e size k b base (s ∷ ss) =
    let out : List ℕ = output_to e size s in
    let others : List ℕ = output_to_all e size ss in
    let bytes : List ℕ = take k (out ++ others) in
    let first : take (length out) bytes ≡ take k out = cut_first k out others in
    let later : drop (length out) bytes ≡ take (k - length out) others = cut_others k out others in
    ap₂ (λ (l m : List ℕ). cond (s.0.block == b) (block_behind size base (share_stretch e size s) l) (block_in size base (stretches_of e size ss) m b)) first later
    ∙ ap (λ (l : List ℕ). cond (s.0.block == b) (block_after e size base s k) l) (block_is_left e size (k - length out) b base ss)

pub flash_with_shares_is_left : FlashWithSharesIsLeft
flash_with_shares_is_left e size blocks k base ss =
    same_for_each (block_in size base (stretches_of e size ss) (take k (output_to_all e size ss))) (block_left e size base ss k) (below blocks)
    (λ b. block_is_left e size k b base ss)

-- ---- its bytes

pub with_long : (size : ℕ) (base : List ℕ) (ss : List Stretch) (bytes : List ℕ) (b : ℕ) → length (block_in size base ss bytes b) ≡ size
with_long size base [] bytes b = block_length size base b
with_long size base (s ∷ ss) bytes b = elim (cases_Bool (s.block == b)) [
  | inl same ↦
      ap length (cond-true (s.block == b) (block_behind size base s (take s.len bytes)) (block_in size base ss (drop s.len bytes) b) same)
      ∙ block_length size (front_of (block_of size base s.block) s.place ++ take s.len bytes) 0
  | inr other ↦
      ap length (cond-false (s.block == b) (block_behind size base s (take s.len bytes)) (block_in size base ss (drop s.len bytes) b) other)
      ∙ with_long size base ss (drop s.len bytes) b
]

flash_with_long : (size blocks : ℕ) (base : List ℕ) (ss : List Stretch) (bytes : List ℕ) → length (flash_with size blocks base ss bytes) ≡ blocks * size
flash_with_long size blocks base ss bytes =
    made_long size (block_in size base ss bytes) (with_long size base ss bytes) (below blocks) ∙ ap (λ (n : ℕ). n * size) (length-below blocks)

-- so many bytes of a stretch end at or before an address
ends_before : (size count at : ℕ) (s : Stretch) → 0 < count → end_in size s count ≤ at → s.block * size + s.place + count ≤ at
ends_before size count at s some ends =
    let there : (count == 0) ≡ false = not_same count 0 (λ none. omega (arith, some, none)) in
    subst (λ (n : ℕ). n ≤ at) (cond-false (count == 0) 0 (s.block * size + s.place + count) there) ends

-- a byte of the block of a stretch
behind_past : (size i : ℕ) (base : List ℕ) (s : Stretch) (bytes : List ℕ) → i < size → length base ≤ s.block * size + i
    → end_in size s (length bytes) ≤ s.block * size + i → get_or (block_behind size base s bytes) i 0xFF ≡ 0xFF
behind_past size i base s bytes small past ends =
    let block : List ℕ = block_of size base s.block in
    let all : List ℕ = front_of block s.place ++ bytes in
    let first : ℕ = 0 in
    let here : first * size + i ≡ i = omega arith in
    block_byte size all 0 i small
    ∙ (ap (λ (n : ℕ). get_or all n 0xFF) here
    ∙ elim (cases_lt i s.place) [
      | inl low ↦ front_byte block bytes s.place i low ∙ (block_byte size base s.block i small ∙ get_or_past base (s.block * size + i) 0xFF past)
      | inr high ↦
          behind_byte block bytes s.place i high
          ∙ elim (cases_lt 0 (length bytes)) [
            | inl some ↦
                let end : s.block * size + s.place + length bytes ≤ s.block * size + i = ends_before size (length bytes) (s.block * size + i) s some ends in
                get_or_past bytes (i - s.place) 0xFF (omega (arith, end))
            | inr none ↦ get_or_past bytes (i - s.place) 0xFF (omega (arith, none))
          ]
    ])

block_past : (size b i : ℕ) (base : List ℕ) (ss : List Stretch) (bytes : List ℕ) → i < size → length base ≤ b * size + i
    → end_of_last size ss (length bytes) ≤ b * size + i → get_or (block_in size base ss bytes b) i 0xFF ≡ 0xFF
block_past size b i base [] bytes small past ends = block_byte size base b i small ∙ get_or_past base (b * size + i) 0xFF past
block_past size b i base (s ∷ ss) bytes small past ends =
    let n : ℕ = length bytes in
    let later : length (drop s.len bytes) ≡ n - s.len = length-drop s.len bytes in
    elim (cases_Bool (s.block == b)) [
      | inl same ↦
          let is : s.block ≡ b = eqb-true s.block b same in
          let at : s.block * size ≡ b * size = ap (λ (c : ℕ). c * size) is in
          let held : min n s.len ≡ length (take s.len bytes) = omega (arith, length-take s.len bytes) in
          let end : end_in size s (length (take s.len bytes)) ≤ b * size + i = subst (λ (m : ℕ). end_in size s m ≤ b * size + i) held (omega (arith, ends)) in
          ap (λ (l : List ℕ). get_or l i 0xFF) (cond-true (s.block == b) (block_behind size base s (take s.len bytes)) (block_in size base ss (drop s.len bytes) b) same)
          ∙ behind_past size i base s (take s.len bytes) small (omega (arith, past, at)) (omega (arith, end, at))
      | inr other ↦
          ap (λ (l : List ℕ). get_or l i 0xFF) (cond-false (s.block == b) (block_behind size base s (take s.len bytes)) (block_in size base ss (drop s.len bytes) b) other)
          ∙ block_past size b i base ss (drop s.len bytes) small past
          (subst (λ (m : ℕ). end_of_last size ss m ≤ b * size + i) (sym later) (omega (arith, ends)))
    ]

flash_past : (size blocks at : ℕ) (base : List ℕ) (ss : List Stretch) (bytes : List ℕ) → 0 < size → length_after size base ss bytes ≤ at
    → get_or (flash_with size blocks base ss bytes) at 0xFF ≡ 0xFF
flash_past size blocks at base ss bytes some past =
    let flash : List ℕ = flash_with size blocks base ss bytes in
    let f = block_in size base ss bytes in
    let d : ℕ = at / size in
    let i : ℕ = at % size in
    let small : i < size = mod_small at size some in
    let split : at ≡ d * size + i = div_parts at size some in
    elim (cases_lt d blocks) [
      | inl inside ↦
          ap (λ (a : ℕ). get_or flash a 0xFF) split
          ∙ (made_byte size f (with_long size base ss bytes) (below blocks) d i (omega (arith, inside, length-below blocks)) small
          ∙ (ap (λ (c : ℕ). get_or (f c) i 0xFF) (get_or-below blocks d inside)
          ∙ block_past size d i base ss bytes small (omega (arith, past, split)) (omega (arith, past, split))))
      | inr outside ↦
          let far : blocks * size ≤ d * size = mul-le-mul_right size outside in
          get_or_past flash at 0xFF (omega (arith, flash_with_long size blocks base ss bytes, far, split))
    ]

pub flash_with_is_whole : FlashWithIsWhole
flash_with_is_whole size blocks base ss bytes some at =
    let flash : List ℕ = flash_with size blocks base ss bytes in
    let n : ℕ = length_after size base ss bytes in
    elim (cases_lt at n) [
      | inl less ↦ sym (get_or-take n flash at 0xFF less)
      | inr past ↦ flash_past size blocks at base ss bytes some past ∙ sym (get_or_past (take n flash) at 0xFF (omega (arith, past, length-take n flash)))
    ]

-- ---- images that hold the same

pub same_block : (size : ℕ) (image other : List ℕ) → HoldSame image other → (b : ℕ) → block_of size image b ≡ block_of size other b
same_block size image other same b =
    ext_get_or 0xFF (block_of size image b) (block_of size other b) (block_length size image b ∙ sym (block_length size other b)) (λ i inside.
    let small : i < size = omega (arith, inside, block_length size image b) in
    block_byte size image b i small ∙ (same (b * size + i) ∙ sym (block_byte size other b i small)))

shares_same : (e : Endian) (size k : ℕ) (base : List ℕ) (ss : List Share) (image other : List ℕ) → ((b : ℕ) → block_of size image b ≡ block_of size other b)
    → SharesAreLeft e size base ss k image → SharesAreLeft e size base ss k other
shares_same e size k base [] image other same left = tt
shares_same e size k base (s ∷ ss) image other same left =
    let out : List ℕ = output_to e size s in (
      subst (IsLeft e size 1 (block_of size base s.0.block) s.0.place out k) (same s.0.block) left.0,
      shares_same e size (k - length out) base ss image other same left.1,
    )

pub same_is_left_of_shares : SameIsLeftOfShares
same_is_left_of_shares e size blocks k base ss image other within same left =
    let blocks_are = same_block size image other same in
    record {
      no_longer = within;
      stays = λ b out. sym (blocks_are b) ∙ left.stays b out;
      written = shares_same e size k base ss image other blocks_are left.written;
    }

pub image_with_shares_is_left : ImageWithSharesIsLeft
image_with_shares_is_left e size blocks k base row forms size_is within opens =
    let ss : List Share = shares size row forms in
    let stretches : List Stretch = stretches_of e size ss in
    let bytes : List ℕ = take k (output_to_all e size ss) in
    let flash : List ℕ = flash_with size blocks base stretches bytes in
    let n : ℕ = length_after size base stretches bytes in
    same_is_left_of_shares e size blocks k base ss flash (take n flash) (omega (arith, length-take n flash, flash_with_long size blocks base stretches bytes))
    (flash_with_is_whole size blocks base stretches bytes (omega (arith, readable_some size size_is)))
    (subst (λ (l : List ℕ). IsLeftOfShares e size blocks base ss k l) (sym (flash_with_shares_is_left e size blocks k base ss)) (some_are_left e size blocks k base row forms size_is within opens))

-- ---- the stretches of shares

upwards : (e : Endian) (size lo blocks : ℕ) (base : List ℕ) (row : List Opening) (forms : List (List ℕ)) → size % 4 ≡ 0 → AreUpwards lo blocks row
    → AllByRecursion (IsOpeningOf e size base) row → AllByRecursion (FitsBlock size) forms → AreStretches size lo blocks (stretches_of e size (shares size row forms))
upwards e size lo blocks base [] forms words up opens fits = tt
upwards e size lo blocks base (o ∷ row) forms words up opens fits =
    let n : ℕ = taken_from size o.place forms in
    let some = all_first (FitsBlock size) n forms fits in
    let block : List ℕ = block_of size base o.block in
    let within : o.place ≤ size = opening_within e size o.place block (block_length size base o.block) opens.0 in
    let aligned : o.place % 4 ≡ 0 = opening_aligned e size o.place block words (block_length size base o.block) opens.0 in
    let long : o.place + length (output_to e size (o, take n forms)) ≡ end_of_all size o.place (take n forms) = output_is_long e size o.place (take n forms) words some in
    let end = end_is_within size 1 o.place (take n forms) words some aligned (omega (arith, within)) (taken_fits size o.place forms) in
    (up.0, up.1, omega (arith, long, end.0), upwards e size (o.block + 1) blocks base row (drop n forms) words up.2 opens.1 (all_behind (FitsBlock size) n forms fits))

pub shares_are_stretches : SharesAreStretches
shares_are_stretches e size blocks base row forms size_is opens fits = upwards e size 0 blocks base row forms (readable_words size size_is) opens.upwards opens.each fits
