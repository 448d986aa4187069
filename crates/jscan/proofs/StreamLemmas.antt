-- Blocks that are filled piece by piece, and the bytes of a source that they hold.
use Rattle.std.proofs.Common.{◌≡◌, ℕ, ◌+◌, ◌-◌, ◌*◌, ◌<◌, ◌≤◌, min, List, [], ◌++◌, length, take, drop, replicate, Option, None, Some, ⊎_elim, refl, sym, ap, subst, ◌∙◌, arith, append_assoc, append-nil, length-append, length-take, length-drop}
use Rattle.std.proofs.Math.Seq.{take-append-add}
use Rattle.std.proofs.Math.Nat.{zero-mul}
use Rattle.std.proofs.lemmas.Bool.{cases_lt}
use Rattle.std.proofs.lemmas.Grind.{div_ceil_times}
use Rattle.std.proofs.lemmas.List.{take-take, take_all, take_at, drop_at, drop_all, drop-drop, take-replicate}
use Rattle.std.proofs.lemmas.Slice.{take-put_mid}
use Rattle.std.specs.Io.KnownBytes.{Consumes, IsAtEnd}
use borrow.Rule.Slice.PartMut.{put_mid}
use Rattle.jscan.specs.Image.{block_of, block_count, greatest_image}
use Rattle.jscan.specs.Filling.{StopsPast}
use Rattle.jscan.specs.Stream.{IsNextBlock}

-- the first bytes of a block, and then those that were put after them
pub take_more : (i n : ℕ) (block ys : List ℕ) → i ≤ length block → length ys ≡ length block - i → n ≤ length ys
    → take (i + n) (put_mid i (length block - i) block ys) ≡ take i block ++ take n ys
take_more i n block ys within long few =
    let k = length block - i in
    let front : length (take i block) ≡ i = omega (arith, length-take i block) in
    sym (take-take (i + n) (i + length ys) (put_mid i k block ys) (omega arith))
    ∙ ap (take (i + n)) (take-put_mid i k block ys (i + length ys) refl within)
    ∙ ap (λ m. take (m + n) (take i block ++ ys)) (sym front)
    ∙ take-append-add (take i block) ys n

-- a whole block of the source
full_block : (size start : ℕ) (bytes ys block : List ℕ) → length block ≡ size → 0 < size → start + size ≤ greatest_image → bytes ≡ block ++ ys
    → IsNextBlock size start (Some bytes) (Some ys) block
full_block size start bytes ys block long some fits is =
    let count : length bytes ≡ length block + length ys = ap length is ∙ length-append block ys in
    let none : 0 * size ≡ 0 = zero-mul size in
    let first : block_of size bytes 0 ≡ block =
    ap (λ k. take size (drop k bytes ++ replicate size 0xFF)) none
    ∙ ap (λ l. take size (l ++ replicate size 0xFF)) is
    ∙ ap (take size) (append_assoc block ys (replicate size 0xFF))
    ∙ take_at block (ys ++ replicate size 0xFF) size long in
    (omega arith, omega arith, sym first, ap Some (sym (ap (drop size) is ∙ drop_at block ys size long)))

-- the last block, of which the source has a part
last_block : (size start n : ℕ) (bytes block : List ℕ) → length block ≡ size → 0 < n → n ≤ size → start + n ≤ greatest_image
    → bytes ≡ take n block → block ≡ take n block ++ replicate (size - n) 0xFF → IsNextBlock size start (Some bytes) (Some []) block
last_block size start n bytes block long some few fits is filled =
    let count : length bytes ≡ n = ap length is ∙ omega (arith, length-take n block) in
    let none : 0 * size ≡ 0 = zero-mul size in
    let first : block_of size bytes 0 ≡ block =
    ap (λ k. take size (drop k bytes ++ replicate size 0xFF)) none
    ∙ ap (λ m. take m (bytes ++ replicate size 0xFF)) {y = length bytes + (size - n)} (omega arith)
    ∙ take-append-add bytes (replicate size 0xFF) (size - n)
    ∙ ap (λ l. bytes ++ l) (take-replicate (size - n) size 0xFF (omega arith))
    ∙ ap (λ l. l ++ replicate (size - n) 0xFF) is ∙ sym filled in
    (omega arith, omega arith, sym first, ap Some (sym (drop_all size bytes (omega arith))))

-- what was read into a block is the block that comes next
pub next_block : (rest new : Option (List ℕ)) (size start n : ℕ) (block : List ℕ) → length block ≡ size → 0 < n → n ≤ size → start + n ≤ greatest_image
    → Consumes rest new (take n block) → (n < size → IsAtEnd new) → block ≡ take n block ++ replicate (size - n) 0xFF
    → IsNextBlock size start rest new block
next_block None new size start n block long some few fits bytes end filled = tt
next_block (Some bytes) None size start n block long some few fits is end filled = absurd is
next_block (Some bytes) (Some ys) size start n block long some few fits is end filled =
    ⊎_elim
    (λ part.
    let no_more : ys ≡ [] = end part in
    subst (λ (l : List ℕ). IsNextBlock size start (Some bytes) (Some l) block) (sym no_more)
    (last_block size start n bytes block long some few fits (is ∙ ap (λ l. take n block ++ l) no_more ∙ append-nil (take n block)) filled))
    (λ whole.
    let all : take n block ≡ block = take_all n block (omega arith) in
    full_block size start bytes ys block long (omega arith) (omega arith) (is ∙ ap (λ l. l ++ ys) all))
    (cases_lt n size)

-- what was taken of a block that holds more bytes than there is room for
pub stops_past : (rest left : Option (List ℕ)) (bs : List ℕ) (room size : ℕ) → Consumes rest left bs → room < length bs → length bs ≤ size → StopsPast rest left room size
stops_past None left bs room size taken past few = tt
stops_past (Some xs) None bs room size taken past few = absurd taken
stops_past (Some xs) (Some ys) bs room size taken past few =
    (length bs, past, few, ap Some (sym (ap (drop (length bs)) taken ∙ drop_at bs ys (length bs) refl)))

-- ---- block after block

-- The blocks before `start` were given: the other bytes are left, none of those given lies past the greatest image, and
-- the last block given holds at least one of them.
pub record IsAtBlock (size start : ℕ) (image : List ℕ) (rest : Option (List ℕ)) : Type 0 where
  pub left : rest ≡ Some (drop start image)
  pub fits : min (length image) start ≤ greatest_image
  pub tight : start < length image + size

-- the first block of what is left
next_left : (size start : ℕ) (image : List ℕ) (old new : Option (List ℕ)) (block : List ℕ) → IsAtBlock size start image old → IsNextBlock size start old new block
    → IsNextBlock size start (Some (drop start image)) new block
next_left size start image old new block at next = subst (λ (r : Option (List ℕ)). IsNextBlock size start r new block) at.left next

-- is the next block of the image,
pub block_here : (size start n : ℕ) (image : List ℕ) (old new : Option (List ℕ)) (block : List ℕ) → n * size ≡ start
    → IsAtBlock size start image old → IsNextBlock size start old new block → block ≡ block_of size image n
block_here size start n image old new block here at next =
    (next_left size start image old new block at next).2
    ∙ ap (λ (l : List ℕ). take size (l ++ replicate size 0xFF))
    (ap (λ (k : ℕ). drop k (drop start image)) (zero-mul size) ∙ ap (λ (k : ℕ). drop k image) (sym here))

-- and the one after it comes next.
pub at_next : (size start : ℕ) (image : List ℕ) (old new : Option (List ℕ)) (block : List ℕ)
    → IsAtBlock size start image old → IsNextBlock size start old new block → IsAtBlock size (start + size) image new
at_next size start image old new block at next =
    let step = next_left size start image old new block at next in
    let long = length-drop start image in
    record {
      left = step.3 ∙ ap Some (drop-drop size start image);
      fits = omega (arith, step.0, step.1, long);
      tight = omega (arith, step.0, long);
    }

-- all blocks of an image that is no longer than the greatest
pub record IsWhole (size n : ℕ) (image : List ℕ) : Type 0 where
  pub all : n ≡ block_count size image
  pub within : length image ≤ greatest_image

-- where no byte is left, all blocks were given
pub at_last : (size start n : ℕ) (image : List ℕ) (rest : Option (List ℕ)) → 0 < size → n * size ≡ start → IsAtBlock size start image rest → IsAtEnd rest
    → IsWhole size n image
at_last size start n image rest some here at end =
    let none : drop start image ≡ [] = subst IsAtEnd at.left end in
    let short : length image ≤ start = omega (arith, length-drop start image, ap length none) in
    record {
      all = grind (arith, div_ceil_times (length image) size some, short, at.tight, here);
      within = omega (arith, at.fits, short);
    }
