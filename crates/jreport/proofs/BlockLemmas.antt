-- The blocks of an image, one after the other.
use Rattle.std.proofs.Common.{◌≡◌, ◌≢◌, ℕ, zero, suc, ◌+◌, ◌-◌, ◌*◌, ◌/◌, ◌%◌, ◌^◌, ◌<◌, ◌≤◌, Bool, true, false, ◌&&◌, ◌==◌, nat_le, IsTrue, List, [], ◌∷◌, ◌++◌, length, min, refl, sym, ap, arith, ◌∙◌, subst, take, drop, append_assoc, append-nil, length-append, length-take, count_by, take_all}
use Rattle.std.proofs.Math.Nat.{mul-le-mul_right, mul-le-mul_left}
use Rattle.std.proofs.Math.Logic.{⊎_elim}
use Rattle.std.proofs.Math.Seq.{take-append-add}
use Rattle.std.proofs.lemmas.Bool.{cases_lt, leb-true}
use Rattle.std.specs.List.{flat_map}
use Rattle.std.proofs.lemmas.Grind.{flat_map-append, div_ceil_times}
use Rattle.std.proofs.lemmas.List.{take-append-le, take_rest, length-replicate}
use Rattle.flashbase.specs.Bytes.{erased}
use Rattle.flashbase.specs.Lists.{below}
use Rattle.jnode.specs.declared.order.Endian.{Endian}
use Rattle.jscan.specs.Image.{is_block_size, greatest_image, block_of, block_count}
use Rattle.jscan.specs.Extents.{extents}
use Rattle.jscan.specs.declared.extent.ExtentKind.{ExtentKind}
use Rattle.jscan.specs.declared.extent.Extent.{Extent}
use Rattle.jscan.specs.Counts.{is_entry_tile, is_inode_tile, is_found, count_in, extents_of_block, extents_below, counts_of, block_counted}
use Rattle.jscan.specs.declared.counts.Counts.{Counts}
use Rattle.jreport.specs.Report.{lines_of_block, lines_below, block_lines, CountsHaveRoom}
use Rattle.jreport.proofs.ExtentLemmas.{length_extents, count_in-le}
use Rattle.jreport.proofs.PutLemmas.{count_by-append}

-- ---- where a block lies

-- a block's bytes, as the code cuts them out of the image
pub whole_block_is : (size : ℕ) (image : List ℕ) (k : ℕ) → size ≤ length (take (length image - k * size) (drop (k * size) image))
    → take size (take (length image - k * size) (drop (k * size) image)) ≡ block_of size image k
whole_block_is size image k whole =
    let rest = take_rest image (k * size) in
    ap (take size) rest ∙ sym (take-append-le size (drop (k * size) image) (erased size) (rw rest at whole))

-- and those of the last, with what is missing
pub filled_block_is : (size : ℕ) (image : List ℕ) (k : ℕ)
    → take size (take (length image - k * size) (drop (k * size) image) ++ erased size) ≡ block_of size image k
filled_block_is size image k = ap (λ (l : List ℕ). take size (l ++ erased size)) (take_rest image (k * size))

pub one_more : (k size : ℕ) → (k + 1) * size ≡ k * size + size
one_more k size = grind arith

-- a block begins inside the image
pub block_begins : (size n k : ℕ) → 0 < size → k < n / size + min 1 (n % size) → k * size < n
block_begins size n k some next =
    let bounds = div_ceil_times n size some in
    let upto = mul-le-mul_right {m = k + 1} {n = n / size + min 1 (n % size)} size (omega (arith, next)) in
    let more = one_more k size in
    omega (arith, bounds.1, upto, more)

-- where a block's tail is missing, the image is not made of whole blocks
pub tail_is_missing : (size n k : ℕ) → 0 < size → k < n / size + min 1 (n % size) → n < k * size + size → n % size ≢ 0
tail_is_missing size n k some next short = λ whole.
    let upto = mul-le-mul_right {m = k + 1} {n = n / size} size (omega (arith, next, whole)) in
    let more = one_more k size in
    omega (arith, upto, more, whole, short)

take_erased : (n m : ℕ) → n ≤ m → take n (erased m) ≡ erased n
take_erased zero m within = refl
take_erased (suc n) zero within = absurd (omega arith)
take_erased (suc n) (suc m) within = ap (λ (l : List ℕ). 0xFF ∷ l) (take_erased n m (omega arith))

-- bytes that are cut at a size and filled up to it
pub take_filled : (size : ℕ) (present : List ℕ) → length present ≤ size → take size present ++ erased (size - length present) ≡ take size (present ++ erased size)
take_filled size present within =
    let more : length present + (size - length present) ≡ size = omega arith in
    ap (λ (l : List ℕ). l ++ erased (size - length present)) (take_all size present within)
    ∙ ap (λ (l : List ℕ). present ++ l) (sym (take_erased (size - length present) size (omega arith)))
    ∙ sym (take-append-add present (erased size) (size - length present))
    ∙ ap (λ (n : ℕ). take n (present ++ erased size)) more

pub length_block_of : (size : ℕ) (image : List ℕ) (k : ℕ) → length (block_of size image k) ≡ size
length_block_of size image k =
    let present = drop (k * size) image in
    omega (arith, length-take size (present ++ erased size), length-append present (erased size), length-replicate {A = ℕ} size 0xFF)

-- ---- one block more

flat_map_below : {X : Type 0} (f : ℕ → List X) (k : ℕ) → flat_map f (below (k + 1)) ≡ flat_map f (below k) ++ f k
flat_map_below f k =
    ap (λ (n : ℕ). flat_map f (below n)) {x = k + 1} {y = suc k} (omega arith)
    ∙ flat_map-append f (below k) (k ∷ [])
    ∙ ap (λ l. flat_map f (below k) ++ l) (append-nil (f k))

pub lines_below_more : (e : Endian) (size : ℕ) (image : List ℕ) (k : ℕ) → lines_below e size image (k + 1) ≡ lines_below e size image k ++ block_lines e size image k
lines_below_more e size image k = flat_map_below (block_lines e size image) k

pub extents_below_more : (e : Endian) (size : ℕ) (image : List ℕ) (k : ℕ)
    → extents_below e size image (k + 1) ≡ extents_below e size image k ++ extents_of_block e size image k
extents_below_more e size image k = flat_map_below (extents_of_block e size image) k

pub length_extents_below : (e : Endian) (size : ℕ) (image : List ℕ) (k : ℕ) → length (extents_below e size image k) ≤ k * size
length_extents_below e size image zero = omega arith
length_extents_below e size image (suc k) =
    let here = length_extents e (k * size) (block_of size image k) in
    let full = length_block_of size image k in
    let before = length_extents_below e size image k in
    let both = ap length (extents_below_more e size image k) ∙ length-append (extents_below e size image k) (extents_of_block e size image k) in
    let more = one_more k size in
    let within : length (extents_below e size image (k + 1)) ≤ (k + 1) * size = omega (arith, here, full, before, both, more) in
    subst (λ (n : ℕ). length (extents_below e size image n) ≤ n * size) {x = k + 1} {y = suc k} (omega arith) within

pub counts_of_more : (e : Endian) (size : ℕ) (image : List ℕ) (k : ℕ)
    → block_counted (counts_of e size image k) (extents_of_block e size image k) ≡ counts_of e size image (k + 1)
counts_of_more e size image k =
    λ i. record {
      blocks = k + 1;
      entries = rises (λ s. is_entry_tile s.kind) i;
      inodes = rises (λ s. is_inode_tile s.kind) i;
      findings = rises (λ s. is_found s.kind) i;
    }
  where
    rises : (test : Extent → Bool) → count_by test (extents_below e size image k) + count_by test (extents_of_block e size image k)
        ≡ count_by test (extents_below e size image (k + 1))
    rises test = sym (ap (count_by test) (extents_below_more e size image k) ∙ count_by-append test (extents_below e size image k) (extents_of_block e size image k))

all_true : (a b c : Bool) → (a && b && c) ≡ true → (a ≡ true) × (b ≡ true) × (c ≡ true)
all_true true true true e = (refl, refl, refl)
all_true true true false e = cc
all_true true false c e = cc
all_true false b c e = cc

pub block_size_is : (size : ℕ) → IsTrue (is_block_size size) → (4096 ≤ size) × (size ≤ 4194304)
block_size_is size fits =
    let parts = all_true (nat_le 4096 size) (nat_le size 4194304) (size % 4 == 0) fits in
    (leb-true 4096 size parts.0, leb-true size 4194304 parts.1)

-- what the blocks before count, and what this one can
pub room_for_block : (e : Endian) (size : ℕ) (image : List ℕ) (k n : ℕ) (c : Counts) → c ≡ counts_of e size image k
    → IsTrue (is_block_size size) → length image ≤ greatest_image → k < block_count size image → n ≤ size → CountsHaveRoom c (n + 1)
room_for_block e size image k n c is fits small next within = subst (λ (x : Counts). CountsHaveRoom x (n + 1)) (sym is) (record {
  blocks = omega (arith, few, first, within, sizes.1);
  entries = room is_entry_tile;
  inodes = room is_inode_tile;
  findings = room is_found;
})
  where
    sizes : (4096 ≤ size) × (size ≤ 4194304)
    sizes = block_size_is size fits

    few : k * size < 268435456
    few = omega (arith, block_begins size (length image) k (omega (arith, sizes.0)) next, small)

    first : k * 1 ≤ k * size
    first = mul-le-mul_left k (omega (arith, sizes.0))

    room : (test : ExtentKind → Bool) → count_in test (extents_below e size image k) + (n + 1) < 2 ^ 64
    room test = omega (arith, count_in-le test (extents_below e size image k), length_extents_below e size image k, few, within, sizes.1)

-- the lines of a block, as `put_block` says them
pub block_text : (e : Endian) (size : ℕ) (image : List ℕ) (k : ℕ) (c : Counts) (block : List ℕ) → c ≡ counts_of e size image k → block ≡ block_of size image k
    → lines_of_block c.blocks (extents e (k * size) block) ≡ block_lines e size image k
unfolding block_lines
block_text e size image k c block is same =
    ap (λ (n : Counts). lines_of_block n.blocks (extents e (k * size) block)) is ∙ ap (λ (l : List ℕ). lines_of_block k (extents e (k * size) l)) same

pub block_counts : (e : Endian) (size : ℕ) (image : List ℕ) (k : ℕ) (c : Counts) (block : List ℕ) → c ≡ counts_of e size image k → block ≡ block_of size image k
    → block_counted c (extents e (k * size) block) ≡ counts_of e size image (k + 1)
block_counts e size image k c block is same =
    ap (λ (n : Counts). block_counted n (extents e (k * size) block)) is
    ∙ ap (λ (l : List ℕ). block_counted (counts_of e size image k) (extents e (k * size) l)) same
    ∙ counts_of_more e size image k

-- the lines of the first blocks begin those of all
pub lines_begin : (e : Endian) (size : ℕ) (image : List ℕ) (k n : ℕ) → k < n
    → (rest : List ℕ) × (lines_below e size image n ≡ (lines_below e size image k ++ block_lines e size image k) ++ rest)
lines_begin e size image k zero less = absurd (omega arith)
lines_begin e size image k (suc n) less = ⊎_elim
    (λ before.
    let (rest, is) = lines_begin e size image k n before in (
      rest ++ block_lines e size image n,
      ap (λ (m : ℕ). lines_below e size image m) {x = suc n} {y = n + 1} (omega arith) ∙ lines_below_more e size image n
          ∙ ap (λ (l : List ℕ). l ++ block_lines e size image n) is
          ∙ append_assoc (lines_below e size image k ++ block_lines e size image k) rest (block_lines e size image n),
    ))
    (λ from.
    let same : suc n ≡ k + 1 = omega (arith, less, from) in (
      [],
      ap (λ (m : ℕ). lines_below e size image m) same ∙ lines_below_more e size image k
          ∙ sym (append-nil (lines_below e size image k ++ block_lines e size image k)),
    ))
    (cases_lt k n)
