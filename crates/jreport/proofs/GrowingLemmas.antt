-- An image that grows by a block: the blocks before stay as they were.
use Rattle.std.proofs.Common.{◌≡◌, ℕ, zero, suc, ◌+◌, ◌*◌, ◌<◌, ◌≤◌, List, ◌++◌, length, refl, sym, ap, subst, ◌∙◌, arith, take, drop, length-append, length-drop, Option}
use Rattle.std.specs.Io.KnownBytes.{Appends}
use Rattle.std.proofs.KnownBytes.{Appends-trans}
use Rattle.std.proofs.Math.Nat.{mul-le-mul_right}
use Rattle.std.proofs.lemmas.Bool.{cases_lt}
use Rattle.std.proofs.lemmas.Grind.{div_ceil_times}
use Rattle.std.proofs.lemmas.List.{take_at, take-append-le, drop_at, drop-append-le}
use Rattle.std.proofs.Math.Logic.{⊎_elim}
use Rattle.flashbase.specs.Bytes.{erased}
use Rattle.flashbase.specs.Device.{PutsPart}
use Rattle.flashbase.proofs.DeviceLemmas.{part_before, part_behind}
use Rattle.jnode.specs.declared.order.Endian.{Endian}
use Rattle.jscan.specs.Counts.{counts_of, block_counted, extents_of_block}
use Rattle.jscan.specs.Image.{block_count, block_of}
use Rattle.jscan.specs.Extents.{extents}
use Rattle.jscan.specs.declared.counts.Counts.{Counts}
use Rattle.jreport.specs.Report.{block_lines, lines_below, lines_of_block, scan_text, totals_line}
use Rattle.jreport.proofs.BlockLemmas.{block_counts, block_text, counts_of_more, lines_below_more, one_more}

-- ---- a block more

pub earlier_block : (size k : ℕ) (image more : List ℕ) → k * size + size ≤ length image → block_of size (image ++ more) k ≡ block_of size image k
earlier_block size k image more within =
    let present = drop (k * size) image in
    let long : size ≤ length present = omega (arith, length-drop (k * size) image) in
    let cut : drop (k * size) (image ++ more) ≡ present ++ more = drop-append-le (k * size) image more (omega arith) in
    let longer : size ≤ length (present ++ more) = omega (arith, long, length-append present more) in
    ap (λ (l : List ℕ). take size (l ++ erased size)) cut
    ∙ take-append-le size (present ++ more) (erased size) longer
    ∙ take-append-le size present more long
    ∙ sym (take-append-le size present (erased size) long)

pub last_block : (size n : ℕ) (image block : List ℕ) → length image ≡ n * size → length block ≡ size → block_of size (image ++ block) n ≡ block
last_block size n image block whole long =
    ap (λ (l : List ℕ). take size (l ++ erased size)) (drop_at image block (n * size) whole)
    ∙ take_at block (erased size) size long

pub lines_stay : (e : Endian) (size n : ℕ) (image more : List ℕ) → n * size ≤ length image → lines_below e size (image ++ more) n ≡ lines_below e size image n
unfolding block_lines
lines_stay e size zero image more within = refl
lines_stay e size (suc n) image more within =
    let here : suc n ≡ n + 1 = omega arith in
    let fits : n * size + size ≤ length image = omega (arith, within, one_more n size, ap (λ (k : ℕ). k * size) here) in
    let before = lines_stay e size n image more (omega (arith, fits)) in
    let line : block_lines e size (image ++ more) n ≡ block_lines e size image n =
    ap (λ (l : List ℕ). lines_of_block n (extents e (n * size) l)) (earlier_block size n image more fits) in
    ap (lines_below e size (image ++ more)) here ∙ lines_below_more e size (image ++ more) n
    ∙ ap (λ (l : List ℕ). l ++ block_lines e size (image ++ more) n) before
    ∙ ap (λ (l : List ℕ). lines_below e size image n ++ l) line
    ∙ sym (lines_below_more e size image n) ∙ ap (lines_below e size image) (sym here)

pub counts_stay : (e : Endian) (size n : ℕ) (image more : List ℕ) → n * size ≤ length image → counts_of e size (image ++ more) n ≡ counts_of e size image n
counts_stay e size zero image more within = refl
counts_stay e size (suc n) image more within =
    let here : suc n ≡ n + 1 = omega arith in
    let fits : n * size + size ≤ length image = omega (arith, within, one_more n size, ap (λ (k : ℕ). k * size) here) in
    let before = counts_stay e size n image more (omega (arith, fits)) in
    let same : extents_of_block e size (image ++ more) n ≡ extents_of_block e size image n =
    ap (extents e (n * size)) (earlier_block size n image more fits) in
    ap (counts_of e size (image ++ more)) here ∙ sym (counts_of_more e size (image ++ more) n)
    ∙ ap (λ (c : Counts). block_counted c (extents_of_block e size (image ++ more) n)) before
    ∙ ap (block_counted (counts_of e size image n)) same
    ∙ counts_of_more e size image n ∙ ap (counts_of e size image) (sym here)

-- ---- whole blocks that were read of a source that does not tell its bytes

-- They make up an image, whose lines have gone out.
pub record Untold (e : Endian) (size : ℕ) (counts : Counts) (old new : Option (List ℕ)) : Type 0 where
  pub image : List ℕ
  pub whole : length image ≡ counts.blocks * size
  pub counted : counts ≡ counts_of e size image counts.blocks
  pub gone : Appends old new (lines_below e size image counts.blocks)

-- one block more was read: these bytes, with those of the blocks before in front of them
record Grown (e : Endian) (size start : ℕ) (counts : Counts) (block : List ℕ) (old new : Option (List ℕ)) : Type 0 where
  image : List ℕ
  whole : length image ≡ (counts.blocks + 1) * size
  counted : counts ≡ counts_of e size image counts.blocks
  same : block ≡ block_of size image counts.blocks
  gone : Appends old new (lines_below e size image counts.blocks)
  line : lines_of_block counts.blocks (extents e start block) ≡ block_lines e size image counts.blocks

grown : (e : Endian) (size start : ℕ) (counts : Counts) (block : List ℕ) (a b : Option (List ℕ)) → Untold e size counts a b → length block ≡ size
    → counts.blocks * size ≡ start → Grown e size start counts block a b
grown e size start counts block a b before long here = record {
  image = image;
  whole = length-append before.image block ∙ omega (arith, before.whole, long, one_more n size);
  counted = counted;
  same = same;
  gone = subst (Appends a b) (sym (lines_stay e size n before.image block within)) before.gone;
  line = ap (λ (s : ℕ). lines_of_block n (extents e s block)) (sym here) ∙ block_text e size image n counts block counted same;
}
  where
    n : ℕ
    n = counts.blocks

    image : List ℕ
    image = before.image ++ block

    within : n * size ≤ length before.image
    within = omega (arith, before.whole)

    same : block ≡ block_of size image n
    same = sym (last_block size n before.image block before.whole long)

    counted : counts ≡ counts_of e size image n
    counted = before.counted ∙ sym (counts_stay e size n before.image block within)

pub untold_next : (e : Endian) (size start : ℕ) (counts now : Counts) (block : List ℕ) (a b c : Option (List ℕ))
    → Untold e size counts a b → length block ≡ size → counts.blocks * size ≡ start
    → now ≡ block_counted counts (extents e start block) → Appends b c (lines_of_block counts.blocks (extents e start block))
    → Untold e size now a c
untold_next e size start counts now block a b c before long here is put =
    let n = counts.blocks in
    let more = grown e size start counts block a b before long here in
    let blocks : now.blocks ≡ n + 1 = ap (λ (x : Counts). x.blocks) is in
    let total : now ≡ counts_of e size more.image (n + 1) =
    is ∙ ap (λ (s : ℕ). block_counted counts (extents e s block)) (sym here) ∙ block_counts e size more.image n counts block more.counted more.same in
    record {
      image = more.image;
      whole = more.whole ∙ ap (λ (k : ℕ). k * size) (sym blocks);
      counted = total ∙ ap (counts_of e size more.image) (sym blocks);
      gone = subst (λ (k : ℕ). Appends a c (lines_below e size more.image k)) (sym blocks)
          (subst (Appends a c) (sym (lines_below_more e size more.image n))
          (Appends-trans a b c (lines_below e size more.image n) (block_lines e size more.image n) more.gone (subst (Appends b c) more.line put)));
    }

-- there are no more blocks in it
pub untold_count : (size n : ℕ) (image : List ℕ) → 0 < size → length image ≡ n * size → block_count size image ≡ n
untold_count size n image some whole =
    let count = block_count size image in
    let bounds = div_ceil_times (length image) size some in
    ⊎_elim
    (λ less. let upto = mul-le-mul_right {m = count + 1} {n = n} size (omega (arith, less)) in
    absurd (omega (arith, upto, one_more count size, bounds.0, whole, some)))
    (λ from. ⊎_elim
    (λ more. let upto = mul-le-mul_right {m = n + 1} {n = count} size (omega (arith, more)) in
    absurd (omega (arith, upto, one_more n size, bounds.1, whole)))
    (λ upto. omega (arith, from, upto))
    (cases_lt n count))
    (cases_lt count n)

-- a beginning of the next block's lines went out
pub untold_part : (e : Endian) (size start : ℕ) (counts : Counts) (block : List ℕ) (a b c : Option (List ℕ)) → 0 < size
    → Untold e size counts a b → length block ≡ size → counts.blocks * size ≡ start → PutsPart b c (lines_of_block counts.blocks (extents e start block))
    → (image : List ℕ) × PutsPart a c (scan_text e size image)
unfolding scan_text
untold_part e size start counts block a b c some before long here part =
    let n = counts.blocks in
    let more = grown e size start counts block a b before long here in
    let count = block_count size more.image in
    let upto = part_behind a b c (lines_below e size more.image n) (block_lines e size more.image n) more.gone (subst (PutsPart b c) more.line part) in
    let all : PutsPart a c (lines_below e size more.image count) =
    subst (λ (k : ℕ). PutsPart a c (lines_below e size more.image k)) (sym (untold_count size (n + 1) more.image some more.whole))
    (subst (PutsPart a c) (sym (lines_below_more e size more.image n)) upto) in
    (more.image, part_before a c (lines_below e size more.image count) (totals_line (counts_of e size more.image count)) all)
