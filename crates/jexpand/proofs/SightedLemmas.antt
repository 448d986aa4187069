-- Where a node is sighted, the rest of its block begins with a good header, and the node is what its tile is seen as.
use Rattle.std.proofs.Common.{◌≡◌, ℕ, ◌+◌, ◌-◌, ◌*◌, ◌/◌, ◌%◌, ◌<◌, ◌≤◌, IsTrue, List, ◌++◌, length, take, drop, refl, sym, ap, subst, ◌∙◌, arith, length-drop, None, Some, Contains, ◌==◌}
use Rattle.std.proofs.lemmas.Nat.{div-mul-add, mod-mul-add}
use Rattle.std.proofs.lemmas.List.{take_all}
use Rattle.std.proofs.lemmas.Bool.{leb-true, eqb-true, and_parts}
use Rattle.std.proofs.Math.Seq.{take-append_seam}
use Rattle.flashbase.specs.Bytes.{pad4_of}
use Rattle.flashbase.specs.Lists.{below}
use Rattle.flashbase.proofs.MemberLemmas.{split_around, Contains-below_from, Contains-filter_map_from, Contains-flat_map_from}
use Rattle.jnode.specs.declared.order.Endian.{Endian}
use Rattle.jnode.specs.declared.header.Header.{Header}
use Rattle.jnode.specs.declared.node.Seen.{Seen}
use Rattle.jnode.specs.Header.{IsGood, totlen_of}
use Rattle.jnode.specs.Reading.{seen_of, tile_of}
use Rattle.jscan.specs.Image.{is_block_size, block_of, block_count, sighting, sightings_in, sightings}
use Rattle.jscan.specs.Tiling.{Tile, bytes_of, IsByRule, tiling}
use Rattle.jscan.specs.declared.tiles.TileKind.{TileKind}
use Rattle.jscan.specs.declared.tiles.TileKind.TheVariants.{Node, Word, Rest}
use Rattle.jscan.proofs.BlankCalls.{begins_in}
use Rattle.jscan.proofs.PartLemmas.{block_length}
use Rattle.jscan.proofs.TilingLaws.{exists, left_behind}
use Rattle.jexpand.specs.Expanded.{rest_at}

-- a node's tile in a block is the tile of a good header that is at its place
record IsTileHere (e : Endian) (block : List ℕ) (tile : Tile) : Type 0 where
  good : IsGood e (drop tile.place block)
  aligned : tile.place % 4 ≡ 0
  is : tile.bytes ≡ tile_of e (drop tile.place block)

tile_here : (e : Endian) (block : List ℕ) (tile : Tile) (header : Header) → length block % 4 ≡ 0 → Contains (tiling e block) tile → tile.kind ≡ Node header
    → IsTileHere e block tile
tile_here e block tile header words has kind =
    let found = split_around (tiling e block) tile has in
    let before = found.0 in
    let after = found.1 in
    let p : ℕ = length (bytes_of before) in
    let rest : List ℕ = drop p block in
    let is_at = (exists e block words).each before after tile found.2 in
    let rule : IsByRule e block p (Node header) tile.bytes = subst (λ (k : TileKind). IsByRule e block p k tile.bytes) kind is_at.rule in
    let split : rest ≡ tile.bytes ++ bytes_of after =
    left_behind block before after tile (ap bytes_of (sym found.2) ∙ (exists e block words).whole) in
    let size : length tile.bytes ≡ pad4_of (totlen_of e rest) = rule.2 ∙ ap (λ (h : Header). pad4_of h.totlen) rule.1 in
    let is : tile.bytes ≡ tile_of e rest =
    sym (ap (take (length tile.bytes)) split ∙ take-append_seam tile.bytes (bytes_of after)) ∙ ap (λ (n : ℕ). take n rest) size in
    let here : p ≡ tile.place = sym is_at.here in
    record {
      good = subst (λ (q : ℕ). IsGood e (drop q block)) here rule.0.good;
      aligned = subst (λ (q : ℕ). q % 4 ≡ 0) here rule.0.aligned;
      is = subst (λ (q : ℕ). tile.bytes ≡ tile_of e (drop q block)) here is;
    }

-- a sighting is of a node's tile
sighted_tile : (e : Endian) (addr : ℕ) (bytes : List ℕ) (kind : TileKind) (s : ℕ × Seen) → sighting e addr bytes kind ≡ Some s
    → (header : Header) × (kind ≡ Node header) × (s.0 ≡ addr) × (s.1 ≡ seen_of e bytes)
sighted_tile e addr bytes (Node header) s is = (header, refl, cc, cc)
sighted_tile e addr bytes Word s is = let no : None ≡ Some s = is in absurd (cc)
sighted_tile e addr bytes Rest s is = let no : None ≡ Some s = is in absurd (cc)

-- what is at the address of a sighting
pub record IsSightedAt (e : Endian) (size : ℕ) (image : List ℕ) (addr : ℕ) (s : Seen) : Type 0 where
  pub begins : addr / size < block_count size image
  pub within : addr % size ≤ size
  pub good : IsGood e (rest_at size image addr)
  pub words : length (rest_at size image addr) % 4 ≡ 0
  pub seen : s ≡ seen_of e (tile_of e (rest_at size image addr))

pub sighted_at : (e : Endian) (size : ℕ) (image : List ℕ) (addr : ℕ) (s : Seen) → size % 4 ≡ 0 → Contains (sightings e size image) (addr, s)
    → IsSightedAt e size image addr s
sighted_at e size image addr s words has =
    let block = Contains-flat_map_from (λ k. sightings_in e (k * size) (block_of size image k)) (below (block_count size image)) (addr, s) has in
    let k : ℕ = block.0 in
    let bytes : List ℕ = block_of size image k in
    let found = Contains-filter_map_from (λ (tile : Tile). sighting e (k * size + tile.place) tile.bytes tile.kind) (tiling e bytes) (addr, s) block.2 in
    let tile : Tile = found.0 in
    let kind = sighted_tile e (k * size + tile.place) tile.bytes tile.kind (addr, s) found.2 in
    let long : length bytes ≡ size = block_length size image k in
    let whole : length bytes % 4 ≡ 0 = omega (arith, long, words) in
    let there = tile_here e bytes tile kind.0 whole found.1 kind.1 in
    let room : 12 ≤ length (drop tile.place bytes) = there.good.room in
    let inside : tile.place < size = omega (arith, room, long, length-drop tile.place bytes) in
    let at : addr ≡ k * size + tile.place = kind.2 in
    let which : addr / size ≡ k = ap (λ (n : ℕ). n / size) at ∙ div-mul-add k size tile.place inside in
    let place : addr % size ≡ tile.place = ap (λ (n : ℕ). n % size) at ∙ mod-mul-add k size tile.place inside in
    let rest : drop tile.place bytes ≡ rest_at size image addr =
    ap (λ (q : ℕ). drop q bytes) (sym place) ∙ ap (λ (j : ℕ). drop (addr % size) (block_of size image j)) (sym which) in
    record {
      begins = subst (λ (j : ℕ). j < block_count size image) (sym which) (Contains-below_from (block_count size image) k block.1);
      within = omega (arith, place, inside);
      good = subst (IsGood e) rest there.good;
      words = ap (λ (xs : List ℕ). length xs % 4) (sym rest) ∙ omega (arith, length-drop tile.place bytes, long, words, there.aligned, inside);
      seen = kind.3 ∙ ap (seen_of e) (there.is ∙ ap (tile_of e) rest);
    }

-- a block size is made of words
pub size_words : (size : ℕ) → IsTrue (is_block_size size) → size % 4 ≡ 0
size_words size is = eqb-true _ _ (and_parts _ _ is).1

pub size_some : (size : ℕ) → IsTrue (is_block_size size) → 4096 ≤ size
size_some size is = leb-true _ _ (and_parts _ _ (and_parts _ _ is).0).0

-- a block that the image has begins in it
pub block_begins : (size k : ℕ) (image : List ℕ) → 0 < size → k < block_count size image → k * size ≤ length image
block_begins size k image some below =
    let same : k + 1 - 1 ≡ k = omega arith in
    subst (λ (n : ℕ). n * size ≤ length image) same (begins_in size (k + 1) image some (omega arith) (omega arith))

pub rest_is : (size : ℕ) (image block : List ℕ) (addr place : ℕ) → block ≡ block_of size image (addr / size) → place ≡ addr % size
    → take (length block - place) (drop place block) ≡ rest_at size image addr
rest_is size image block addr place is here =
    take_all (length block - place) (drop place block) (omega (arith, length-drop place block))
    ∙ (ap (λ (n : ℕ). drop n block) here ∙ ap (drop (addr % size)) is)
