-- A block has exactly one tiling.
use Rattle.std.proofs.Common.{◌≡◌, ℕ, zero, suc, ◌+◌, ◌%◌, ◌<◌, ◌≤◌, true, false, List, [], ◌∷◌, ◌++◌, length, drop, take, arith, refl, ap, ap₂, sym, ◌∙◌, subst, length-drop, length-take-le, length-append, append_assoc, append-nil, drop_of_length-le, zero-add}
use Rattle.std.proofs.Math.Seq.{take-append_seam, drop-append_seam}
use Rattle.std.proofs.lemmas.Bool.{le-leb, leb-true, leb-false}
use Rattle.std.proofs.lemmas.List.{drop-drop, take_all}
use Rattle.std.proofs.lemmas.Grind.{flat_map-append}
use Rattle.flashbase.specs.Bytes.{pad4_of}
use Rattle.jnode.specs.declared.order.Endian.{Endian}
use Rattle.jnode.specs.Header.{IsGoodAt, is_good, header_of, totlen_of}
use Rattle.jnode.specs.Reading.{tile_of}
use Rattle.jnode.specs.declared.header.Header.{Header}
use Rattle.jnode.proofs.HeaderLemmas.{good_found, good_again}
use Rattle.jscan.specs.Tiling.{Tile, bytes_of, IsByRule, IsTileAt, IsTiling, tile_at, tiling_from, tiling}
use Rattle.jscan.specs.declared.tiles.TileKind.{TileKind}
use Rattle.jscan.specs.declared.tiles.TileKind.TheVariants.{Node, Word, Rest}
use Rattle.jscan.proofs.PaddingLemmas.{pad4_fits, pad4_up}
use Rattle.jscan.proofs.TileLemmas.{tile_good, tile_word, tile_rest, tile_cases, tile_some, tile_place, tile_splits, tile_then_rest}
use Rattle.jscan.proofs.FrontLemmas.{not_good, short_test}

-- ---- there is no other

not_here : (e : Endian) (block : List ℕ) (p : ℕ) → p % 4 ≡ 0 → ¬ IsGoodAt e block p → is_good e (drop p block) ≡ false
not_here e block p words bad = not_good e (drop p block) (λ good. bad (record { aligned = words; good = good }))

tile_ext : (kind : TileKind) (p q : ℕ) (a b : List ℕ) → p ≡ q → a ≡ b
    → (let t : Tile = record { place = p; kind = kind; bytes = a } in t) ≡ record { place = q; kind = kind; bytes = b }
tile_ext kind p q a b e f = ap₂ (λ (n : ℕ) (l : List ℕ). let t : Tile = record { place = n; kind = kind; bytes = l } in t) e f

-- A tile by the rule is the one computed, and if any is left after it that begins at a multiple of 4.
record Agrees (e : Endian) (block : List ℕ) (p : ℕ) (tile : Tile) : Type 0 where
  same : tile ≡ tile_at e p (drop p block)
  words : p + length tile.bytes < length block → (p + length tile.bytes) % 4 ≡ 0

by_rule : (e : Endian) (block : List ℕ) (p q : ℕ) (kind : TileKind) (bytes left : List ℕ) → p % 4 ≡ 0 → q ≡ p
    → drop p block ≡ bytes ++ left → p + (length bytes + length left) ≡ length block → IsByRule e block p kind bytes
    → Agrees e block p (record { place = q; kind = kind; bytes = bytes })
by_rule e block p q (Node header) bytes left words here split total rule =
    let rest = drop p block in
    let cut : take (length bytes) rest ≡ bytes = ap (take (length bytes)) split ∙ take-append_seam bytes left in
    let size : length bytes ≡ pad4_of (totlen_of e rest) = rule.2 ∙ ap (λ (h : Header). pad4_of h.totlen) rule.1 in
    record {
      same = ap (λ (h : Header). let t : Tile = record { place = q; kind = Node h; bytes = bytes } in t) rule.1
          ∙ tile_ext (Node (header_of e rest)) q p bytes (tile_of e rest) here (sym cut ∙ ap (λ (n : ℕ). take n rest) size)
          ∙ sym (tile_good e p rest (good_again e rest rule.0.good));
      words = λ h. omega (arith, rule.2, (pad4_up header.totlen).1);
    }
by_rule e block p q Word bytes left words here split total rule =
    let rest = drop p block in
    let cut : take (length bytes) rest ≡ bytes = ap (take (length bytes)) split ∙ take-append_seam bytes left in
    let long : 12 ≤ length rest = omega (arith, length-drop p block, rule.1) in
    record {
      same = tile_ext Word q p bytes (take 4 rest) here (sym cut ∙ ap (λ (n : ℕ). take n rest) rule.2)
          ∙ sym (tile_word e p rest (not_here e block p words rule.0) (le-leb 12 (length rest) long));
      words = λ h. omega (arith, rule.2);
    }
by_rule e block p q Rest bytes left words here split total rule =
    let rest = drop p block in
    let cut : take (length bytes) rest ≡ bytes = ap (take (length bytes)) split ∙ take-append_seam bytes left in
    let short : length rest < 12 = omega (arith, length-drop p block, rule.1) in
    let all : rest ≡ bytes = sym (take_all (length bytes) rest (omega (arith, length-drop p block, rule.2))) ∙ cut in
    record {
      same = tile_ext Rest q p bytes rest here (sym all)
          ∙ sym (tile_rest e p rest (not_here e block p words rule.0) (short_test (length rest) short));
      words = λ h. absurd (omega (arith, rule.2));
    }

pub left_behind : (block : List ℕ) (before tiles : List Tile) (tile : Tile) → bytes_of (before ++ tile ∷ tiles) ≡ block
    → drop (length (bytes_of before)) block ≡ tile.bytes ++ bytes_of tiles
left_behind block before tiles tile whole =
    ap (drop (length (bytes_of before))) (sym whole ∙ flat_map-append (λ (x : Tile). x.bytes) before (tile ∷ tiles))
    ∙ drop-append_seam (bytes_of before) (bytes_of (tile ∷ tiles))

one_more : (before : List Tile) (tile : Tile) → length (bytes_of (before ++ tile ∷ [])) ≡ length (bytes_of before) + length tile.bytes
one_more before tile = ap length (flat_map-append (λ (x : Tile). x.bytes) before (tile ∷ []))
    ∙ length-append (bytes_of before) (bytes_of (tile ∷ [])) ∙ ap (λ l. length (bytes_of before) + length l) (append-nil tile.bytes)

-- after a first part that is by the rule come the tiles computed
only_from : (e : Endian) (block : List ℕ) (before after : List Tile) → bytes_of (before ++ after) ≡ block
    → ((b a : List Tile) (t : Tile) → before ++ after ≡ b ++ t ∷ a → IsTileAt e block (length (bytes_of b)) t)
    → (length (bytes_of before) < length block → length (bytes_of before) % 4 ≡ 0)
    → after ≡ tiling_from e (length (bytes_of before)) 0 (drop (length (bytes_of before)) block)
only_from e block before [] whole each place =
    let all : bytes_of before ≡ block = ap bytes_of (sym (append-nil before)) ∙ whole in
    let none : drop (length (bytes_of before)) block ≡ [] = drop_of_length-le block {i = length (bytes_of before)} (omega (arith, ap length all)) in
    sym (ap (tiling_from e (length (bytes_of before)) 0) none)
only_from e block before (tile ∷ tiles) whole each place =
    let p = length (bytes_of before) in
    let rest = drop p block in
    let is_at = each before tiles tile refl in
    let split = left_behind block before tiles tile whole in
    let total : p + (length tile.bytes + length (bytes_of tiles)) ≡ length block =
    ap (λ n. p + n) (sym (length-append tile.bytes (bytes_of tiles))) ∙ sym (length-append (bytes_of before) (bytes_of (tile ∷ tiles)))
    ∙ ap length (sym (flat_map-append (λ (x : Tile). x.bytes) before (tile ∷ tiles)) ∙ whole) in
    let some : 0 < length rest = omega (arith, ap length split, length-append tile.bytes (bytes_of tiles), is_at.nonempty) in
    let words : p % 4 ≡ 0 = place (omega (arith, total, is_at.nonempty)) in
    let agrees = by_rule e block p tile.place tile.kind tile.bytes (bytes_of tiles) words is_at.here split total is_at.rule in
    let joined : (before ++ tile ∷ []) ++ tiles ≡ before ++ tile ∷ tiles = append_assoc before (tile ∷ []) tiles in
    let far = one_more before tile in
    let next = only_from e block (before ++ tile ∷ []) tiles (ap bytes_of joined ∙ whole) (λ b a t same. each b a t (sym joined ∙ same))
    (λ h. ap (λ n. n % 4) far ∙ agrees.words (omega (arith, far, h))) in
    let size : length tile.bytes ≡ length (tile_at e p rest).bytes = ap (λ (t : Tile). length t.bytes) agrees.same in
    let behind : drop (length (bytes_of (before ++ tile ∷ []))) block ≡ drop (length (tile_at e p rest).bytes) rest =
    ap (λ n. drop n block) far ∙ sym (drop-drop (length tile.bytes) p block) ∙ ap (λ n. drop n rest) size in
    ap₂ (λ (t : Tile) (l : List Tile). t ∷ l) agrees.same
    (next ∙ ap₂ (λ (n : ℕ) (l : List ℕ). tiling_from e n 0 l) (far ∙ ap (λ n. p + n) size) behind)
    ∙ sym (tile_then_rest e p rest some)

pub only : (e : Endian) (block : List ℕ) (tiles : List Tile) → IsTiling e block tiles → tiles ≡ tiling e block
only e block tiles is = only_from e block [] tiles is.whole is.each (λ h. refl)

-- ---- what is computed is one

pub whole_of : (n : ℕ) (e : Endian) (place : ℕ) (rest : List ℕ) → length rest ≤ n → bytes_of (tiling_from e place 0 rest) ≡ rest
whole_of n e place [] h = refl
whole_of zero e place (b ∷ bs) h = absurd (omega arith)
whole_of (suc n) e place (b ∷ bs) h =
    let rest : List ℕ = b ∷ bs in
    let tile = tile_at e place rest in
    let more : 0 < length tile.bytes = tile_some e place rest (omega arith) in
    ap bytes_of (tile_then_rest e place rest (omega arith))
    ∙ ap (λ l. tile.bytes ++ l) (whole_of n e (place + length tile.bytes) (drop (length tile.bytes) rest) (omega (arith, length-drop (length tile.bytes) rest)))
    ∙ tile_splits e place rest

nowhere : (e : Endian) (block : List ℕ) (p : ℕ) → is_good e (drop p block) ≡ false → ¬ IsGoodAt e block p
nowhere e block p bad here = let both : false ≡ true = sym bad ∙ good_again e (drop p block) here.good in cc

-- the rule for the front, which ends at a multiple of 4
front_rule : (e : Endian) (block : List ℕ) (p : ℕ) → length block % 4 ≡ 0 → p % 4 ≡ 0 → 0 < length (drop p block)
    → IsByRule e block p (tile_at e p (drop p block)).kind (tile_at e p (drop p block)).bytes
    × ((p + length (tile_at e p (drop p block)).bytes) % 4 ≡ 0)
front_rule e block p size words some =
    tile_cases e p (drop p block) (λ tile. IsByRule e block p tile.kind tile.bytes × ((p + length tile.bytes) % 4 ≡ 0))
    (λ good.
    let is = good_found e (drop p block) good in
    let pad = pad4_fits (totlen_of e (drop p block)) (length (drop p block)) (omega (arith, length-drop p block)) is.within in
    let taken = length-take-le (pad4_of (totlen_of e (drop p block))) (drop p block) pad.0 in
    ((record { aligned = words; good = is }, refl, taken), omega (arith, taken, pad.2)))
    (λ bad long.
    let least : 12 ≤ length (drop p block) = leb-true _ _ long in
    let taken = length-take-le 4 (drop p block) (omega arith) in
    ((nowhere e block p bad, omega (arith, length-drop p block), taken), omega (arith, taken)))
    (λ bad short.
    let most : length (drop p block) < 12 = leb-false _ _ short in
    ((nowhere e block p bad, omega (arith, length-drop p block), omega (arith, length-drop p block)), omega (arith, length-drop p block)))

heads : (x y : Tile) (xs ys : List Tile) → (x ∷ xs) ≡ (y ∷ ys) → (x ≡ y) × (xs ≡ ys)
heads x y xs ys e = (cc, cc)

some_left : (e : Endian) (place : ℕ) (rest : List ℕ) (tile : Tile) (tiles : List Tile) → tiling_from e place 0 rest ≡ tile ∷ tiles → 0 < length rest
some_left e place [] tile tiles same = cc
some_left e place (b ∷ bs) tile tiles same = omega arith

each_from : (e : Endian) (block : List ℕ) → length block % 4 ≡ 0 → (p : ℕ) → p % 4 ≡ 0 → (before after : List Tile) (tile : Tile)
    → tiling_from e p 0 (drop p block) ≡ before ++ tile ∷ after → IsTileAt e block (p + length (bytes_of before)) tile
each_from e block size p words [] after tile same =
    let rest = drop p block in
    let some = some_left e p rest tile after same in
    let parts = heads _ _ _ _ (sym (tile_then_rest e p rest some) ∙ same) in
    let is_at : IsTileAt e block p (tile_at e p rest) = record {
      nonempty = tile_some e p rest some;
      here = tile_place e p rest;
      rule = (front_rule e block p size words some).0;
    } in
    subst (λ n. IsTileAt e block n tile) (omega arith) (subst (IsTileAt e block p) parts.0 is_at)
each_from e block size p words (b ∷ bs) after tile same =
    let rest = drop p block in
    let some = some_left e p rest b (bs ++ tile ∷ after) same in
    let parts = heads _ _ _ _ (sym (tile_then_rest e p rest some) ∙ same) in
    let len = length (tile_at e p rest).bytes in
    let on : tiling_from e (p + len) 0 (drop (p + len) block) ≡ bs ++ tile ∷ after =
    ap (tiling_from e (p + len) 0) (sym (drop-drop len p block)) ∙ parts.1 in
    let next = each_from e block size (p + len) (front_rule e block p size words some).1 bs after tile on in
    let far : (p + len) + length (bytes_of bs) ≡ p + length (bytes_of (b ∷ bs)) =
    omega (arith, length-append b.bytes (bytes_of bs), ap (λ (x : Tile). length x.bytes) parts.0) in
    subst (λ n. IsTileAt e block n tile) far next

pub exists : (e : Endian) (block : List ℕ) → length block % 4 ≡ 0 → IsTiling e block (tiling e block)
exists e block size = record {
  whole = whole_of (length block) e 0 block (omega arith);
  each = λ before after tile same.
      subst (λ n. IsTileAt e block n tile) (zero-add (length (bytes_of before))) (each_from e block size 0 refl before after tile same);
}
