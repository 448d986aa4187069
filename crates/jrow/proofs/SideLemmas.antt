-- The blocks and bytes of a row.
use Rattle.std.proofs.Common.{◌≡◌, ℕ, zero, suc, ◌+◌, ◌*◌, ◌/◌, ◌%◌, ◌<◌, List, [], ◌∷◌, ◌++◌, length, map, get_or, refl, sym, ap, ◌∙◌, arith, length-append, ap₂, Contains}
use Rattle.std.specs.Prelude.{flat_map}
use Rattle.std.proofs.lemmas.List.{get_or-map, get_or-append-add, get_or_append_left, ext_get_or, length-map}
use Rattle.std.proofs.lemmas.List.Folds.{flat_map-map}
use Rattle.flashbase.specs.Lists.{below}
use Rattle.flashbase.proofs.MemberLemmas.{Contains-here, Contains-there, Contains-below_from}
use Rattle.flashbase.proofs.ListLemmas.{length-below, get_or-below}
use Rattle.jscan.specs.Image.{block_of}
use Rattle.jscan.proofs.PartLemmas.{block_length}
use Rattle.jlog.proofs.ByteLemmas.{block_byte}
use Rattle.jrow.specs.Row.{side_by_side}
use Rattle.jrow.specs.RowLaws.{RowIsSideBySide}

-- ---- an address, as a block and a place in it

pub div_within : (at n size : ℕ) → 0 < size → at < n * size → at / size < n
div_within at n size some less = grind (arith)

pub div_parts : (at size : ℕ) → 0 < size → at ≡ at / size * size + at % size
div_parts at size some = grind (arith)

pub mod_small : (at size : ℕ) → 0 < size → at % size < size
mod_small at size some = grind (arith)

-- ---- bytes

-- lists of one length, one after the other
pub made_long : (size : ℕ) (f : ℕ → List ℕ) → ((b : ℕ) → length (f b) ≡ size) → (bs : List ℕ) → length (flat_map f bs) ≡ length bs * size
made_long size f long [] = omega arith
made_long size f long (b ∷ bs) = omega (arith, length-append (f b) (flat_map f bs), long b, made_long size f long bs)

pub made_byte : (size : ℕ) (f : ℕ → List ℕ) → ((b : ℕ) → length (f b) ≡ size) → (bs : List ℕ) (index i : ℕ) → index < length bs → i < size
    → get_or (flat_map f bs) (index * size + i) 0xFF ≡ get_or (f (get_or bs index 0)) i 0xFF
made_byte size f long [] index i within inside = absurd (omega arith)
made_byte size f long (b ∷ bs) zero i within inside =
    let near : zero * size + i ≡ i = omega arith in
    ap (λ (n : ℕ). get_or (f b ++ flat_map f bs) n 0xFF) near ∙ get_or_append_left (f b) (flat_map f bs) 0xFF i (omega (arith, inside, long b))
made_byte size f long (b ∷ bs) (suc index) i within inside =
    let far : suc index * size + i ≡ length (f b) + (index * size + i) = omega (arith, long b) in
    ap (λ (n : ℕ). get_or (f b ++ flat_map f bs) n 0xFF) far
    ∙ (get_or-append-add (f b) (flat_map f bs) (index * size + i) 0xFF ∙ made_byte size f long bs index i (omega arith) inside)

pub side_long : (size : ℕ) (row image : List ℕ) → length (side_by_side size row image) ≡ length row * size
side_long size row image = made_long size (block_of size image) (block_length size image) row

pub side_byte : (size : ℕ) (row image : List ℕ) (index i : ℕ) → index < length row → i < size
    → get_or (side_by_side size row image) (index * size + i) 0xFF ≡ get_or (block_of size image (get_or row index 0)) i 0xFF
side_byte size row image index i within inside = made_byte size (block_of size image) (block_length size image) row index i within inside

pub side_block : (size : ℕ) (row image : List ℕ) (index : ℕ) → index < length row → block_of size (side_by_side size row image) index ≡ block_of size image (get_or row index 0)
side_block size row image index within =
    ext_get_or 0xFF (block_of size (side_by_side size row image) index) (block_of size image (get_or row index 0))
    (block_length size (side_by_side size row image) index ∙ sym (block_length size image (get_or row index 0))) (λ i inside.
    let small : i < size = omega (arith, inside, block_length size (side_by_side size row image) index) in
    block_byte size (side_by_side size row image) index i small ∙ side_byte size row image index i within small)

pub row_is_side_by_side : RowIsSideBySide
row_is_side_by_side size row image some = record {
  long = side_long size row image;
  each = λ index within. side_block size row image index within;
  bytes = λ at inside.
      let index : ℕ = at / size in
      let i : ℕ = at % size in
      let small : i < size = mod_small at size some in
      let split : at ≡ index * size + i = div_parts at size some in
      let within : index < length row = div_within at (length row) size some inside in
      ap (λ (n : ℕ). get_or (side_by_side size row image) n 0xFF) split
      ∙ (side_byte size row image index i within small ∙ block_byte size image (get_or row index 0) i small);
}

-- ---- what is made of each block of a row

indices_are : (row : List ℕ) → map (λ j. get_or row j 0) (below (length row)) ≡ row
indices_are row =
    let n : ℕ = length row in
    let long : length (map (λ j. get_or row j 0) (below n)) ≡ n = length-map (below n) (λ j. get_or row j 0) ∙ length-below n in
    ext_get_or 0 (map (λ j. get_or row j 0) (below n)) row long (λ i inside.
    let small : i < n = omega (arith, inside, long) in
    get_or-map (λ j. get_or row j 0) (below n) i 0 0 (omega (arith, small, length-below n)) ∙ ap (λ (j : ℕ). get_or row j 0) (get_or-below n i small))

flat_map_same : {X Y : Type 0} (f g : X → List Y) (xs : List X) → ((x : X) → Contains xs x → f x ≡ g x) → flat_map f xs ≡ flat_map g xs
flat_map_same f g [] same = refl
flat_map_same {Y = Y} f g (x ∷ xs) same =
    ap₂ (λ (a b : List Y). a ++ b) (same x (Contains-here x xs)) (flat_map_same f g xs (λ y has. same y (Contains-there x xs y has)))

pub side_blocks : {Y : Type 0} (f : List ℕ → List Y) (size : ℕ) (row image : List ℕ)
    → flat_map (λ j. f (block_of size (side_by_side size row image) j)) (below (length row)) ≡ flat_map (λ b. f (block_of size image b)) row
side_blocks {Y} f size row image =
    let n : ℕ = length row in
    flat_map_same (λ j. f (block_of size (side_by_side size row image) j)) (λ j. f (block_of size image (get_or row j 0))) (below n)
    (λ j has. ap f (side_block size row image j (Contains-below_from n j has)))
    ∙ (sym (flat_map-map (λ b. f (block_of size image b)) (λ j. get_or row j 0) (below n))
    ∙ ap (flat_map (λ b. f (block_of size image b))) (indices_are row))
