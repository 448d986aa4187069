-- The places of a file, block by block.
use Rattle.std.proofs.Common.{◌≡◌, ℕ, zero, suc, ◌+◌, ◌-◌, ◌*◌, ◌/◌, ◌<◌, ◌≤◌, ◌==◌, Bool, true, false, List, [], ◌∷◌, ◌++◌, length, get_or, take, drop, append_assoc, append-nil, refl, sym, ap, ◌∙◌, subst, arith, Option, Some, None, Result, Ok, Err, if◌then◌else◌}
use Rattle.std.proofs.lemmas.Bool.Decides.{nat_tests}
use Rattle.std.specs.Prelude.{min, sum, slice_index, unwrap_or}
use Rattle.std.proofs.lemmas.Grind.{common_steps, same_number_lists}
use Rattle.std.proofs.lemmas.List.{same_lists, length-take, length-drop, length-replicate, length-map, get_or-take, get_or-drop, get_or-map, get_or-replicate, map-append}
use Rattle.flashbase.specs.Lists.{below, each_below}
use Rattle.flashbase.proofs.ListLemmas.{length-each_below, get_or-each_below}
use Rattle.jextract.specs.Cells.{AddsCells, Cells, Extends, block_at, bytes_read, cell_at, cells_of, hole_block, is_zero, bytes_written, skipped}
use Rattle.jextract.specs.Laws.{HolesReadBack}
use Rattle.jextract.specs.declared.folder.FolderFault.{FolderFault}
use Rattle.jextract.specs.Filling.{HasBlocks, PutsBlock, block_cells}

-- ---- places that follow one another

pub Extends-nil : (cells : Option Cells) → Extends cells cells []
Extends-nil None = tt {0}
Extends-nil (Some cells) = sym (append-nil cells)

pub Extends-trans : (a b c : Option Cells) (xs ys : Cells) → Extends a b xs → Extends b c ys → Extends a c (xs ++ ys)
Extends-trans None b c xs ys p q = tt {0}
Extends-trans (Some x) None c xs ys p q = absurd p
Extends-trans (Some x) (Some y) None xs ys p q = absurd q
Extends-trans (Some x) (Some y) (Some z) xs ys p q = q ∙ ap (λ l. l ++ ys) p ∙ append_assoc x xs ys

each_below-more : {X : Type 0} (a n : ℕ) (f : ℕ → X) → each_below (a + n) f ≡ each_below a f ++ each_below n (λ k. f (a + k))
each_below-more a zero f = let e : a + 0 ≡ a = omega arith in ap (λ (k : ℕ). each_below k f) e ∙ sym (append-nil (each_below a f))
each_below-more a (suc n) f =
    let e : a + suc n ≡ suc (a + n) = omega arith in
    ap (λ (k : ℕ). each_below k f) e
    ∙ map-append f (below (a + n)) ((a + n) ∷ [])
    ∙ ap (λ l. l ++ f (a + n) ∷ []) (each_below-more a n f)
    ∙ append_assoc (each_below a f) (each_below n (λ k. f (a + k))) (f (a + n) ∷ [])
    ∙ ap (λ l. each_below a f ++ l) (sym (map-append (λ k. f (a + k)) (below n) (n ∷ [])))

-- ---- a block

-- bytes are zero where their sum is
pub zero_sum : (bytes : List ℕ) → is_zero bytes ≡ (sum bytes == 0)
zero_sum [] = refl
zero_sum (b ∷ bytes) = let rest : is_zero bytes ≡ (sum bytes == 0) = zero_sum bytes in grind (arith, common_steps, nat_tests)

-- the cells of a block are those of the whole from the block's first place on
block_placed : (bytes : List ℕ) (j : ℕ) → hole_block * j < length bytes
    → each_below (min hole_block (length bytes - hole_block * j)) (λ k. cell_at bytes (hole_block * j + k)) ≡ block_cells (block_at bytes j)
block_placed bytes j within = by (is_zero (block_at bytes j)) refl
  where
    count : ℕ
    count = min 4096 (length bytes - 4096 * j)

    has : length (block_at bytes j) ≡ count
    has = length-take 4096 (drop (4096 * j) bytes) ∙ ap (min 4096) (length-drop (4096 * j) bytes)

    number : (k : ℕ) → k < count → (4096 * j + k) / 4096 ≡ j
    number k h = omega arith

    cell_as : (k : ℕ) → k < count → cell_at bytes (4096 * j + k) ≡ (if is_zero (block_at bytes j) then None else Some (slice_index bytes (4096 * j + k)))
    cell_as k h = ap (λ (n : ℕ). if is_zero (block_at bytes n) then None else Some (slice_index bytes (4096 * j + k))) (number k h)

    read : (k : ℕ) → k < count → slice_index bytes (4096 * j + k) ≡ get_or (block_at bytes j) k 0
    read k h =
        sym (get_or-take 4096 (drop (4096 * j) bytes) k 0 (omega arith) ∙ get_or-drop (4096 * j) bytes k 0)

    by : (b : Bool) → is_zero (block_at bytes j) ≡ b
        → each_below count (λ k. cell_at bytes (4096 * j + k)) ≡ (if b then skipped (length (block_at bytes j)) else bytes_written (block_at bytes j))
    by true z =
        same_lists (each_below count (λ k. cell_at bytes (4096 * j + k))) (skipped (length (block_at bytes j)))
        (length-each_below count (λ k. cell_at bytes (4096 * j + k)) ∙ sym has ∙ sym (length-replicate (length (block_at bytes j)) None))
        (λ k d h.
        let within : k < count = omega (arith, length-each_below count (λ k. cell_at bytes (4096 * j + k))) in
        let inside : k < length (block_at bytes j) = omega (arith, has) in
        get_or-each_below count k (λ i. cell_at bytes (4096 * j + i)) d within
        ∙ cell_as k within
        ∙ ap (λ (x : Bool). if x then None else Some (slice_index bytes (4096 * j + k))) z
        ∙ sym (get_or-replicate (length (block_at bytes j)) k None d inside))
    by false z =
        same_lists (each_below count (λ k. cell_at bytes (4096 * j + k))) (bytes_written (block_at bytes j))
        (length-each_below count (λ k. cell_at bytes (4096 * j + k)) ∙ sym has ∙ sym (length-map (block_at bytes j) (λ (b : ℕ). Some b)))
        (λ k d h.
        let within : k < count = omega (arith, length-each_below count (λ k. cell_at bytes (4096 * j + k))) in
        let inside : k < length (block_at bytes j) = omega (arith, has) in
        get_or-each_below count k (λ i. cell_at bytes (4096 * j + i)) d within
        ∙ cell_as k within
        ∙ ap (λ (x : Bool). if x then None else Some (slice_index bytes (4096 * j + k))) z
        ∙ ap Some (read k within)
        ∙ sym (get_or-map (λ (b : ℕ). Some b) (block_at bytes j) k 0 d inside))

skipped-more : (a b : ℕ) → skipped (a + b) ≡ skipped a ++ skipped b
skipped-more zero b = let e : 0 + b ≡ b = omega arith in ap skipped e
skipped-more (suc a) b = let e : suc a + b ≡ suc (a + b) = omega arith in ap skipped e ∙ ap (λ l. None ∷ l) (skipped-more a b)

-- a block of zeros makes the hole longer
pub zeros_put : (cells : Option Cells) (hole : ℕ) (block : List ℕ) → is_zero block ≡ true → PutsBlock cells cells hole block (Ok (hole + length block))
zeros_put cells hole block none = (
  [],
  Extends-nil cells,
  skipped-more hole (length block) ∙ ap (λ (b : Bool). skipped hole ++ (if b then skipped (length block) else bytes_written block)) (sym none),
  omega arith,
)

-- another is written after the hole
pub block_put : (old mid new : Option Cells) (hole : ℕ) (block : List ℕ) → is_zero block ≡ false → Extends old mid (skipped hole) → Extends mid new (bytes_written block)
    → PutsBlock old new hole block (Ok 0)
block_put old mid new hole block some left put = (
  skipped hole ++ bytes_written block,
  Extends-trans old mid new (skipped hole) (bytes_written block) left put,
  append-nil (skipped hole ++ bytes_written block) ∙ ap (λ (b : Bool). skipped hole ++ (if b then skipped (length block) else bytes_written block)) (sym some),
  omega arith,
)

-- ---- the blocks of a file

pub no_blocks : (cells : Option Cells) (bytes : List ℕ) → HasBlocks cells cells bytes 0 0
no_blocks cells bytes = (
  [],
  Extends-nil cells,
  let none : 0 ≡ min (4096 * 0) (length bytes) = omega arith in ap (λ (n : ℕ). each_below n (cell_at bytes)) none,
  omega arith,
)

pub blocks_more : (old mid new : Option Cells) (bytes block : List ℕ) (j hole left : ℕ) → hole_block * j < length bytes → block ≡ block_at bytes j
    → HasBlocks old mid bytes j hole → PutsBlock mid new hole block (Ok left) → HasBlocks old new bytes (j + 1) left
blocks_more old mid new bytes block j hole left within is has puts =
    let count : ℕ = min 4096 (length bytes - 4096 * j) in
    let before : 4096 * j ≡ min (4096 * j) (length bytes) = omega arith in
    let after : 4096 * j + count ≡ min (4096 * (j + 1)) (length bytes) = omega arith in
    let size : length block ≡ count = ap length is ∙ length-take 4096 (drop (4096 * j) bytes) ∙ ap (min 4096) (length-drop (4096 * j) bytes) in (
      has.0 ++ puts.0,
      Extends-trans old mid new has.0 puts.0 has.1 puts.1,
      append_assoc has.0 puts.0 (skipped left)
          ∙ ap (λ l. has.0 ++ l) puts.2
          ∙ sym (append_assoc has.0 (skipped hole) (block_cells block))
          ∙ ap (λ l. l ++ block_cells block) has.2
          ∙ ap (λ (n : ℕ). each_below n (cell_at bytes) ++ block_cells block) (sym before)
          ∙ ap (λ (b : List ℕ). each_below (4096 * j) (cell_at bytes) ++ block_cells b) is
          ∙ ap (λ l. each_below (4096 * j) (cell_at bytes) ++ l) (sym (block_placed bytes j within))
          ∙ sym (each_below-more (4096 * j) count (cell_at bytes))
          ∙ ap (λ (n : ℕ). each_below n (cell_at bytes)) after,
      omega (arith, has.3, puts.3, size),
    )

all_zero : (bytes : List ℕ) → ((i : ℕ) → i < length bytes → slice_index bytes i ≡ 0) → is_zero bytes ≡ true
all_zero [] zeros = refl
all_zero (b ∷ bytes) zeros =
    let first = zeros 0 (omega arith) in
    let rest : is_zero bytes ≡ true = all_zero bytes (λ i h. zeros (suc i) (omega arith)) in
    grind (arith, common_steps, nat_tests)

-- places are zeros, from a block on
abbrev pub BlankFrom : List ℕ → ℕ → ℕ → Type 0
BlankFrom bytes j k = (i : ℕ) → hole_block * j ≤ i → i < hole_block * (j + k) → slice_index bytes i ≡ 0

blank_block : (bytes : List ℕ) (j : ℕ) → hole_block * (j + 1) ≤ length bytes → BlankFrom bytes j 1 → is_zero (block_at bytes j) ≡ true
blank_block bytes j within zeros =
    let size : length (block_at bytes j) ≡ min 4096 (length bytes - 4096 * j) = length-take 4096 (drop (4096 * j) bytes) ∙ ap (min 4096) (length-drop (4096 * j) bytes) in
    all_zero (block_at bytes j)
    (λ i h. get_or-take 4096 (drop (4096 * j) bytes) i 0 (omega (arith, size)) ∙ get_or-drop (4096 * j) bytes i 0 ∙ zeros (4096 * j + i) (omega arith) (omega (arith, size)))

-- blocks of zeros make the hole longer
pub blank_more : (old mid : Option Cells) (bytes : List ℕ) (j k hole : ℕ) → hole_block * (j + k) ≤ length bytes → BlankFrom bytes j k
    → HasBlocks old mid bytes j hole → HasBlocks old mid bytes (j + k) (hole + k * 4096)
blank_more old mid bytes j zero hole within zeros has =
    let same : j ≡ j + 0 = omega arith in
    let long : hole ≡ hole + 0 * 4096 = omega arith in
    subst (λ (h : ℕ). HasBlocks old mid bytes (j + 0) h) long (subst (λ (n : ℕ). HasBlocks old mid bytes n hole) same has)
blank_more old mid bytes j (suc k) hole within zeros has =
    let before = blank_more old mid bytes j k hole (omega arith) (λ i from to. zeros i from (omega arith)) has in
    let block : List ℕ = block_at bytes (j + k) in
    let size : length block ≡ 4096 = length-take 4096 (drop (4096 * (j + k)) bytes) ∙ ap (min 4096) (length-drop (4096 * (j + k)) bytes) ∙ omega arith in
    let blank = blank_block bytes (j + k) (omega arith) (λ i from to. zeros i (omega arith) (omega arith)) in
    let more = blocks_more old mid mid bytes block (j + k) (hole + k * 4096) (hole + k * 4096 + length block) (omega arith) refl before
    (zeros_put mid (hole + k * 4096) block blank) in
    let same : j + k + 1 ≡ j + suc k = omega arith in
    let long : hole + k * 4096 + length block ≡ hole + suc k * 4096 = omega (arith, size) in
    subst (λ (h : ℕ). HasBlocks old mid bytes (j + suc k) h) long (subst (λ (n : ℕ). HasBlocks old mid bytes n (hole + k * 4096 + length block)) same more)

-- all blocks, and the hole at the end
all_blocks : (old mid new : Option Cells) (bytes : List ℕ) (j hole : ℕ) → length bytes ≤ hole_block * j → HasBlocks old mid bytes j hole → Extends mid new (skipped hole)
    → Extends old new (cells_of bytes)
unfolding cells_of
all_blocks old mid new bytes j hole all has left =
    let whole : min (4096 * j) (length bytes) ≡ length bytes = omega arith in
    subst (Extends old new) (has.2 ∙ ap (λ (n : ℕ). each_below n (cell_at bytes)) whole) (Extends-trans old mid new has.0 (skipped hole) has.1 left)

pub all_added : {T : Type 0} (old mid new : Option Cells) (bytes : List ℕ) (j hole : ℕ) (r : Result T FolderFault) → length bytes ≤ hole_block * j → HasBlocks old mid bytes j hole
    → AddsCells mid new (skipped hole) r → AddsCells old new (cells_of bytes) r
all_added old mid new bytes j hole (Ok x) all has left = all_blocks old mid new bytes j hole all has left
all_added old mid new bytes j hole (Err e) all has left = tt {0}

-- the block that was read
pub block_read : (bytes out : List ℕ) (j count : ℕ) → count ≡ min 4096 (length bytes - j * 4096) → out ≡ take count (drop (j * 4096) bytes) → out ≡ block_at bytes j
block_read bytes out j count is read =
    let turned : j * 4096 ≡ 4096 * j = omega arith in
    let left : length (drop (4096 * j) bytes) ≡ length bytes - 4096 * j = length-drop (4096 * j) bytes in
    read ∙ ap (λ (n : ℕ). take count (drop n bytes)) turned
    ∙ ap (λ (n : ℕ). take n (drop (4096 * j) bytes)) {x = count} {y = min 4096 (length (drop (4096 * j) bytes))} (omega arith)
    ∙ take_least 4096 (drop (4096 * j) bytes)
  where
    take_least : (n : ℕ) (xs : List ℕ) → take (min n (length xs)) xs ≡ take n xs
    take_least n xs = grind (arith, common_steps)

-- ---- what a file reads as

zero_at : (bytes : List ℕ) (k : ℕ) → is_zero bytes ≡ true → get_or bytes k 0 ≡ 0
zero_at [] k zeros = refl
zero_at (b ∷ bytes) zero zeros = grind (arith, common_steps, nat_tests)
zero_at (b ∷ bytes) (suc k) zeros = zero_at bytes k (grind (arith, common_steps, nat_tests))

-- a byte of a block of zeros
zero_in : (bytes : List ℕ) (k : ℕ) → is_zero (block_at bytes (k / 4096)) ≡ true → get_or bytes k 0 ≡ 0
zero_in bytes k zeros =
    let within : k - 4096 * (k / 4096) < 4096 = omega arith in
    let same : 4096 * (k / 4096) + (k - 4096 * (k / 4096)) ≡ k = omega arith in
    ap (λ (n : ℕ). get_or bytes n 0) (sym same)
    ∙ sym (get_or-take 4096 (drop (4096 * (k / 4096)) bytes) (k - 4096 * (k / 4096)) 0 within ∙ get_or-drop (4096 * (k / 4096)) bytes (k - 4096 * (k / 4096)) 0)
    ∙ zero_at (block_at bytes (k / 4096)) (k - 4096 * (k / 4096)) zeros

cell_reads : (bytes : List ℕ) (k : ℕ) → unwrap_or (cell_at bytes k) 0 ≡ get_or bytes k 0
cell_reads bytes k = by (is_zero (block_at bytes (k / 4096))) refl
  where
    by : (b : Bool) → is_zero (block_at bytes (k / 4096)) ≡ b → unwrap_or (if b then None else Some (slice_index bytes k)) 0 ≡ get_or bytes k 0
    by true zeros = sym (zero_in bytes k zeros)
    by false some = refl

pub holes_read_back : HolesReadBack
unfolding cells_of
holes_read_back bytes =
    let cells = each_below (length bytes) (cell_at bytes) in
    let whole : length (bytes_read cells) ≡ length bytes = length-map cells (λ (cell : Option ℕ). unwrap_or cell 0) ∙ length-each_below (length bytes) (cell_at bytes) in
    same_number_lists (bytes_read cells) bytes whole
    (λ k h.
    let within : k < length cells = omega (arith, whole, length-each_below (length bytes) (cell_at bytes)) in
    get_or-map (λ (cell : Option ℕ). unwrap_or cell 0) cells k None 0 within
    ∙ ap (λ (cell : Option ℕ). unwrap_or cell 0) (get_or-each_below (length bytes) k (cell_at bytes) None (omega (arith, whole)))
    ∙ cell_reads bytes k)
