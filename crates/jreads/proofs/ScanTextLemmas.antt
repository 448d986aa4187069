-- The lines of the blocks of a part of an image.
use Rattle.std.proofs.Common.{◌≡◌, ◌∙◌, ◌++◌, ◌+◌, ◌-◌, ◌*◌, ◌<◌, ◌≤◌, ℕ, zero, suc, List, [], Option, None, Some, ap, arith, drop, length, length-append, length-take, refl, subst, sym, take, take_all, append_assoc}
use Rattle.std.specs.Io.KnownBytes.{Appends}
use Rattle.std.proofs.Math.Logic.{⊎_elim}
use Rattle.std.proofs.Math.Nat.{mul-le-mul_right}
use Rattle.std.proofs.Math.Seq.{drop-append-add}
use Rattle.std.proofs.lemmas.Bool.{cases_lt}
use Rattle.std.proofs.lemmas.Grind.{div_ceil_times}
use Rattle.std.proofs.lemmas.List.{append_cancel_left, drop-append-le, drop-replicate, drop_all, length-replicate, replicate-append-replicate, take-append-drop, take-append-le}
use Rattle.flashbase.specs.Bytes.{erased}
use Rattle.jnode.specs.declared.order.Endian.{Endian}
use Rattle.jscan.specs.Counts.{counts_of}
use Rattle.jscan.specs.Extents.{extents}
use Rattle.jscan.specs.Image.{block_count, block_of}
use Rattle.jreport.specs.Report.{block_lines, lines_below, lines_of_block, scan_text, totals_line}
use Rattle.jreport.proofs.BlockLemmas.{lines_begin, lines_below_more, one_more}
use Rattle.jreport.proofs.GrowingLemmas.{lines_stay}
use Rattle.jedge.specs.Showing.{IsFrontOf}

-- ---- a beginning of an image

pub lines_part : (e : Endian) (size m n : ℕ) (image : List ℕ) → n * size ≤ m → lines_below e size (take m image) n ≡ lines_below e size image n
lines_part e size m n image within = ⊎_elim
    (λ short.
    let long : length (take m image) ≡ m = length-take m image ∙ omega (arith, short) in
    sym (lines_stay e size n (take m image) (drop m image) (omega (arith, within, long)))
    ∙ ap (λ (l : List ℕ). lines_below e size l n) (take-append-drop m image))
    (λ whole. ap (λ (l : List ℕ). lines_below e size l n) (take_all m image whole))
    (cases_lt m (length image))

-- there are no fewer blocks than whole ones
count_long : (size n m : ℕ) (bytes : List ℕ) → 0 < size → length bytes ≡ m → n * size ≤ m → n ≤ block_count size bytes
count_long size n m bytes some long within =
    let count = block_count size bytes in
    let bounds = div_ceil_times (length bytes) size some in
    ⊎_elim
    (λ fewer. let upto = mul-le-mul_right {m = count + 1} {n = n} size (omega (arith, fewer)) in
    absurd (omega (arith, upto, one_more count size, bounds.0, long, within)))
    (λ enough. enough)
    (cases_lt count n)

pub count_part : (size m n : ℕ) (image : List ℕ) → 0 < size → n ≤ block_count size image → n * size ≤ m → n ≤ block_count size (take m image)
count_part size m n image some upto within = ⊎_elim
    (λ short. count_long size n m (take m image) some (length-take m image ∙ omega (arith, short)) within)
    (λ whole. subst (λ (l : List ℕ). n ≤ block_count size l) (sym (take_all m image whole)) upto)
    (cases_lt m (length image))

pub part_length : (m : ℕ) (image : List ℕ) → length (take m image) ≤ m
part_length m image = omega (arith, length-take m image)

-- the first n blocks are n
blocks_short : (size n : ℕ) (bytes : List ℕ) → 0 < size → length bytes ≤ n * size → block_count size bytes ≤ n
blocks_short size n bytes some short =
    let count = block_count size bytes in
    let bounds = div_ceil_times (length bytes) size some in
    ⊎_elim
    (λ more. let upto = mul-le-mul_right {m = n + 1} {n = count} size (omega (arith, more)) in
    absurd (omega (arith, upto, one_more n size, bounds.1, short)))
    (λ within. within)
    (cases_lt n count)

pub first_blocks : (size n : ℕ) (image : List ℕ) → 0 < size → n ≤ block_count size image → block_count size (take (n * size) image) ≡ n
first_blocks size n image some upto =
    let least = count_part size (n * size) n image some upto (omega arith) in
    let most = blocks_short size n (take (n * size) image) some (part_length (n * size) image) in
    omega (arith, least, most)

pub no_blocks : (size : ℕ) → 0 < size → block_count size [] ≡ 0
no_blocks size some = let none = blocks_short size 0 [] some (omega arith) in omega (arith, none)

-- ---- an image with erased bytes behind it

erased_more : (xs : List ℕ) (m size : ℕ) → take size ((xs ++ erased m) ++ erased size) ≡ take size (xs ++ erased size)
erased_more xs m size =
    let both : erased m ++ erased size ≡ erased size ++ erased m =
    replicate-append-replicate m size 0xFF ∙ ap (λ (n : ℕ). erased n) {x = m + size} {y = size + m} (omega arith)
    ∙ sym (replicate-append-replicate size m 0xFF) in
    let long : size ≤ length (xs ++ erased size) = omega (arith, length-append xs (erased size), length-replicate {A = ℕ} size 0xFF) in
    ap (take size) (append_assoc xs (erased m) (erased size) ∙ ap (λ (l : List ℕ). xs ++ l) both ∙ sym (append_assoc xs (erased size) (erased m)))
    ∙ take-append-le size (xs ++ erased size) (erased m) long

-- what is behind a place in it
erased_behind : (d m : ℕ) (image : List ℕ) → (k : ℕ) × (drop d (image ++ erased m) ≡ drop d image ++ erased k)
erased_behind d m image = ⊎_elim
    (λ past.
    let more : ℕ = d - length image in
    let place : d ≡ length image + more = omega (arith, past) in (
      m - more,
      ap (λ (n : ℕ). drop n (image ++ erased m)) place ∙ drop-append-add image (erased m) more ∙ drop-replicate more m 0xFF
          ∙ sym (ap (λ (l : List ℕ). l ++ erased (m - more)) (drop_all d image (omega (arith, past)))),
    ))
    (λ within. (m, drop-append-le d image (erased m) within))
    (cases_lt (length image) d)

erased_block : (size m k : ℕ) (image : List ℕ) → block_of size (image ++ erased m) k ≡ block_of size image k
erased_block size m k image =
    let (more, is) = erased_behind (k * size) m image in
    ap (λ (l : List ℕ). take size (l ++ erased size)) is ∙ erased_more (drop (k * size) image) more size

pub lines_erased : (e : Endian) (size m n : ℕ) (image : List ℕ) → lines_below e size (image ++ erased m) n ≡ lines_below e size image n
unfolding block_lines
lines_erased e size m zero image = refl
lines_erased e size m (suc n) image =
    let here : suc n ≡ n + 1 = omega arith in
    let before = lines_erased e size m n image in
    let line : block_lines e size (image ++ erased m) n ≡ block_lines e size image n =
    ap (λ (l : List ℕ). lines_of_block n (extents e (n * size) l)) (erased_block size m n image) in
    ap (lines_below e size (image ++ erased m)) here ∙ lines_below_more e size (image ++ erased m) n
    ∙ ap (λ (l : List ℕ). l ++ block_lines e size (image ++ erased m) n) before
    ∙ ap (λ (l : List ℕ). lines_below e size image n ++ l) line
    ∙ sym (lines_below_more e size image n) ∙ ap (lines_below e size image) (sym here)

-- ---- a beginning of a report

-- the lines of the blocks before the n-th begin it
begins_by : (e : Endian) (size n : ℕ) (image : List ℕ) → n ≤ block_count size image → (more : List ℕ) × (scan_text e size image ≡ lines_below e size image (n - 1) ++ more)
unfolding scan_text
begins_by e size zero image upto = (scan_text e size image, refl)
begins_by e size (suc n) image upto =
    let blocks = block_count size image in
    let total = totals_line (counts_of e size image blocks) in
    let less : n ≡ suc n - 1 = omega arith in
    let (rest, is) = lines_begin e size image n blocks (omega (arith, upto)) in
    let more : List ℕ = (block_lines e size image n ++ rest) ++ total in (
      more,
      ap (λ (l : List ℕ). l ++ total) (is ∙ append_assoc (lines_below e size image n) (block_lines e size image n) rest)
          ∙ append_assoc (lines_below e size image n) (block_lines e size image n ++ rest) total
          ∙ ap (λ (k : ℕ). lines_below e size image k ++ more) less,
    )

-- a beginning of the report that went out has those lines, where the sink tells of them
pub record CutText (e : Endian) (size n : ℕ) (image : List ℕ) (old new : Option (List ℕ)) : Type 0 where
  pub text : List ℕ
  pub front : IsFrontOf (scan_text e size image) text
  pub lines : (more : List ℕ) × (text ≡ lines_below e size image (n - 1) ++ more)
  pub put : Appends old new text

pub cut_text : (e : Endian) (size n : ℕ) (image : List ℕ) (old new : Option (List ℕ)) (k : ℕ) (more : List ℕ) → n ≤ block_count size image
    → Appends old new (take k (scan_text e size image)) → Appends old new (lines_below e size image (n - 1) ++ more) → CutText e size n image old new
cut_text e size n image None new k more upto part lines = record {
  text = scan_text e size image;
  front = (length (scan_text e size image), sym (take_all (length (scan_text e size image)) (scan_text e size image) (omega arith)));
  lines = begins_by e size n image upto;
  put = tt;
}
cut_text e size n image (Some xs) None k more upto part lines = absurd part
cut_text e size n image (Some xs) (Some ys) k more upto part lines = record {
  text = take k (scan_text e size image);
  front = (k, refl);
  lines = (more, append_cancel_left xs (take k (scan_text e size image)) (lines_below e size image (n - 1) ++ more) (sym part ∙ lines));
  put = part;
}
