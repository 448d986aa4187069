-- The tile at the front of the rest of a block, as the code finds it.
use Rattle.std.proofs.Common.{◌≡◌, ℕ, ◌+◌, ◌-◌, ◌%◌, ◌<◌, ◌≤◌, true, false, leb, List, [], ◌∷◌, length, drop, take, arith, ap, ap₂, sym, ◌∙◌, subst, ⊎_elim, length-drop, length-take-le, drop_of_length-le}
use Rattle.std.proofs.lemmas.Bool.{cases_Bool, le-leb, leb-true}
use Rattle.std.proofs.lemmas.List.{take_all, take_rest, drop-drop}
use Rattle.flashbase.specs.Bytes.{pad4_of}
use Rattle.jnode.specs.declared.order.Endian.{Endian}
use Rattle.jnode.specs.Header.{IsGood, is_good, header_of, totlen_of}
use Rattle.jnode.specs.Reading.{tile_of}
use Rattle.jnode.specs.declared.header.Header.{Header}
use Rattle.jnode.proofs.TileLemmas.{tile_headed}
use Rattle.jscan.specs.Tiling.{Tile, tile_at, tiling_from}
use Rattle.jscan.specs.declared.tiles.TileKind.{TileKind}
use Rattle.jscan.specs.declared.tiles.TileKind.TheVariants.{Node, Word, Rest}
use Rattle.jnode.proofs.HeaderLemmas.{good_found, good_again}
use Rattle.jscan.proofs.PaddingLemmas.{pad4_fits}
use Rattle.jscan.proofs.TileLemmas.{tile_good, tile_word, tile_rest, tile_then_rest}

-- where the test fails a good header would be a contradiction
pub not_good : (e : Endian) (rest : List ℕ) → ¬ IsGood e rest → is_good e rest ≡ false
not_good e rest bad = ⊎_elim (λ good. absurd (bad (good_found e rest good))) (λ fails. fails) (cases_Bool (is_good e rest))

-- the whole tile of a good header has that header
pub tile_is_good : (e : Endian) (rest : List ℕ) → IsGood e rest → length rest % 4 ≡ 0 → IsGood e (tile_of e rest)
tile_is_good e rest good words =
    let headed = tile_headed e rest good words in
    record {
      room = omega (arith, headed.whole.least, headed.whole.within);
      right_magic = headed.right_magic;
      checksum = headed.checksum;
      least = headed.whole.least;
      within = headed.whole.within;
    }

-- the tile of kind k, of n bytes
abbrev pub IsFront : Endian → List ℕ → TileKind → ℕ → Type 0
IsFront e rest kind n = (place : ℕ) → tile_at e place rest ≡ record { place = place; kind = kind; bytes = take n rest }

pub record NodeFront (e : Endian) (rest : List ℕ) (header : Header) (n : ℕ) : Type 0 where
  pub tile : IsFront e rest (Node header) n
  pub nonempty : 0 < n
  pub within : n ≤ length rest
  pub words : n % 4 ≡ 0
  pub good : IsGood e (take n rest)

pub node_front : (e : Endian) (rest : List ℕ) (header : Header) (n : ℕ) → IsGood e rest → length rest % 4 ≡ 0 → header ≡ header_of e rest
    → n ≡ pad4_of header.totlen → NodeFront e rest header n
node_front e rest header n good words fields pad =
    let total : header.totlen ≡ totlen_of e rest = ap (λ (h : Header). h.totlen) fields in
    let size : n ≡ pad4_of (totlen_of e rest) = pad ∙ ap pad4_of total in
    let fits = pad4_fits (totlen_of e rest) (length rest) words good.within in
    record {
      tile = λ place. tile_good e place rest (good_again e rest good)
          ∙ ap₂ (λ (h : Header) (m : ℕ). let t : Tile = record { place = place; kind = Node h; bytes = take m rest } in t) (sym fields) (sym size);
      nonempty = omega (arith, good.least, fits.1);
      within = omega (arith, fits.0);
      words = omega (arith, fits.2);
      good = subst (λ (m : ℕ). IsGood e (take m rest)) (sym size) (tile_is_good e rest good words);
    }

pub word_front : (e : Endian) (rest : List ℕ) → ¬ IsGood e rest → 12 ≤ length rest → IsFront e rest Word 4
word_front e rest bad long place = tile_word e place rest (not_good e rest bad) (le-leb 12 (length rest) long)

pub short_test : (n : ℕ) → n < 12 → leb 12 n ≡ false
short_test n h = ⊎_elim (λ long. absurd (omega (arith, leb-true 12 n long))) (λ fails. fails) (cases_Bool (leb 12 n))

-- what would make a search find something, where it found nothing
pub unless_found : {A : Type 0} → (A → false ≡ true) → ¬ A
unless_found h a = let bad : false ≡ true = h a in cc

pub rest_front : (e : Endian) (rest : List ℕ) → ¬ IsGood e rest → length rest < 12 → IsFront e rest Rest (length rest)
rest_front e rest bad short place =
    tile_rest e place rest (not_good e rest bad) (short_test (length rest) short)
    ∙ ap (λ (bytes : List ℕ). let t : Tile = record { place = place; kind = Rest; bytes = bytes } in t) (sym (take_all (length rest) rest (omega arith)))

-- the tiles from a place on, where the first has n bytes
pub tiling_front : (e : Endian) (rest : List ℕ) (place n : ℕ) (kind : TileKind) → IsFront e rest kind n → 0 < length rest → n ≤ length rest
    → tiling_from e place 0 rest ≡ record { place = place; kind = kind; bytes = take n rest } ∷ tiling_from e (place + n) 0 (drop n rest)
tiling_front e rest place n kind front some within =
    let tile : tile_at e place rest ≡ record { place = place; kind = kind; bytes = take n rest } = front place in
    let size : length (tile_at e place rest).bytes ≡ n = ap (λ (t : Tile). length t.bytes) tile ∙ length-take-le n rest within in
    tile_then_rest e place rest some
    ∙ ap₂ (λ (t : Tile) (m : ℕ). t ∷ tiling_from e (place + m) 0 (drop m rest)) tile size

-- one step of the iterator at a place, which gives the tile of the next n bytes
pub tiling_step : (e : Endian) (block : List ℕ) (place n : ℕ) (kind : TileKind)
    → IsFront e (take (length block - place) (drop place block)) kind n → 0 < n → n ≤ length (take (length block - place) (drop place block))
    → tiling_from e place 0 (drop place block)
    ≡ record { place = place; kind = kind; bytes = take n (take (length block - place) (drop place block)) }
    ∷ tiling_from e (place + n) 0 (drop (place + n) block)
tiling_step e block place n kind front some within =
    let rest = take (length block - place) (drop place block) in
    let is : rest ≡ drop place block = take_rest block place in
    let left : drop n rest ≡ drop (place + n) block = ap (drop n) is ∙ drop-drop n place block in
    ap (tiling_from e place 0) (sym is) ∙ tiling_front e rest place n kind front (omega arith) within
    ∙ ap (λ (l : List ℕ). record { place = place; kind = kind; bytes = take n rest } ∷ tiling_from e (place + n) 0 l) left

pub tiling_end : (e : Endian) (block : List ℕ) (place : ℕ) → length (take (length block - place) (drop place block)) ≡ 0
    → tiling_from e place 0 (drop place block) ≡ []
tiling_end e block place empty =
    let is = take_rest block place in
    let none : drop place block ≡ [] = drop_of_length-le block {i = place} (omega (arith, ap length (sym is) ∙ empty, length-drop place block)) in
    ap (tiling_from e place 0) none
