-- The nodes of an image are what the node tiles of its blocks read as.
use Rattle.std.proofs.Common.{◌≡◌, ◌↔◌, ℕ, ◌+◌, ◌*◌, ◌%◌, ◌<◌, List, ◌++◌, length, take, drop, refl, sym, ap, subst, ◌∙◌, arith, length-drop, Option, None, Some}
use Rattle.std.specs.Prelude.{Contains, option_map}
use Rattle.std.proofs.Math.Seq.{take-append_seam}
use Rattle.flashbase.specs.Bytes.{pad4_of}
use Rattle.flashbase.specs.Lists.{below}
use Rattle.jnode.specs.declared.order.Endian.{Endian}
use Rattle.jnode.specs.declared.header.Header.{Header}
use Rattle.jnode.specs.declared.node.NodeRef.{NodeRef}
use Rattle.jnode.specs.declared.node.Seen.{Seen}
use Rattle.jnode.specs.Header.{IsGood, totlen_of}
use Rattle.jnode.specs.Reading.{Reads, seen_of, node_in, tile_of}
use Rattle.jnode.proofs.FitsLemmas.{seen_is_read}
use Rattle.jscan.specs.Image.{block_of, block_count, sighting, sightings_in, sightings, node_sighted, nodes}
use Rattle.jscan.specs.ImageLaws.{HoldsNode}
use Rattle.jscan.specs.Tiling.{Tile, bytes_of, IsByRule, tiling}
use Rattle.jscan.specs.declared.tiles.TileKind.{TileKind}
use Rattle.jscan.specs.declared.tiles.TileKind.TheVariants.{Node, Word, Rest}
use Rattle.flashbase.proofs.MemberLemmas.{split_around, Contains-below, Contains-below_from, Contains-filter_map, Contains-filter_map_from, Contains-flat_map, Contains-flat_map_from}
use Rattle.jscan.proofs.PartLemmas.{block_length}
use Rattle.jscan.proofs.TilingLaws.{exists, only, left_behind}

-- a node's tile in a block is the tile of a good header that is at its place
record IsTileOf (e : Endian) (rest : List ℕ) (tile : Tile) : Type 0 where
  good : IsGood e rest
  words : length rest % 4 ≡ 0
  is : tile.bytes ≡ tile_of e rest

tile_in : (e : Endian) (block : List ℕ) (tile : Tile) (header : Header) → length block % 4 ≡ 0 → Contains (tiling e block) tile → tile.kind ≡ Node header
    → (p : ℕ) × IsTileOf e (drop p block) tile
tile_in e block tile header words has kind =
    let found = split_around (tiling e block) tile has in
    let before = found.0 in
    let after = found.1 in
    let p = length (bytes_of before) in
    let rest = drop p block in
    let is_at = (exists e block words).each before after tile found.2 in
    let rule : IsByRule e block p (Node header) tile.bytes = subst (λ (k : TileKind). IsByRule e block p k tile.bytes) kind is_at.rule in
    let split : rest ≡ tile.bytes ++ bytes_of after =
    left_behind block before after tile (ap bytes_of (sym found.2) ∙ (exists e block words).whole) in
    let size : length tile.bytes ≡ pad4_of (totlen_of e rest) = rule.2 ∙ ap (λ (h : Header). pad4_of h.totlen) rule.1 in (
      p,
      record {
        good = rule.0.good;
        words = omega (arith, length-drop p block, words, rule.0.aligned);
        is = sym (ap (take (length tile.bytes)) split ∙ take-append_seam tile.bytes (bytes_of after)) ∙ ap (λ (n : ℕ). take n rest) size;
      },
    )

-- what such a tile is seen as has a node exactly where it reads as that
read_of_seen : (e : Endian) (rest : List ℕ) (tile : Tile) (node : NodeRef) → IsTileOf e rest tile → node_in (seen_of e tile.bytes) ≡ Some node → Reads e tile.bytes node
read_of_seen e rest tile node there seen =
    subst (λ (bytes : List ℕ). Reads e bytes node) (sym there.is)
    ((seen_is_read e rest node there.good there.words).0 (ap (λ (bytes : List ℕ). node_in (seen_of e bytes)) (sym there.is) ∙ seen))

seen_of_read : (e : Endian) (rest : List ℕ) (tile : Tile) (node : NodeRef) → IsTileOf e rest tile → Reads e tile.bytes node → node_in (seen_of e tile.bytes) ≡ Some node
seen_of_read e rest tile node there reads =
    ap (λ (bytes : List ℕ). node_in (seen_of e bytes)) there.is
    ∙ (seen_is_read e rest node there.good there.words).1 (subst (λ (bytes : List ℕ). Reads e bytes node) there.is reads)

-- ---- from the nodes to the tiles

-- a sighting is of a node's tile
sighted_node : (e : Endian) (addr : ℕ) (bytes : List ℕ) (kind : TileKind) (s : ℕ × Seen) → sighting e addr bytes kind ≡ Some s
    → (header : Header) × (kind ≡ Node header) × (s.0 ≡ addr) × (s.1 ≡ seen_of e bytes)
sighted_node e addr bytes (Node header) s is = (header, refl, cc, cc)
sighted_node e addr bytes Word s is = let no : None ≡ Some s = is in absurd (cc)
sighted_node e addr bytes Rest s is = let no : None ≡ Some s = is in absurd (cc)

node_of : (at : ℕ) (o : Option NodeRef) (addr : ℕ) (node : NodeRef) → option_map {U = ℕ × NodeRef} (λ x. (at, x)) o ≡ Some (addr, node)
    → (at ≡ addr) × (o ≡ Some node)
node_of at None addr node is = (cc, cc)
node_of at (Some x) addr node is =
    let same : (at, x) ≡ (addr, node) = cc in
    (ap (λ (m : ℕ × NodeRef). m.0) same, ap (λ (m : ℕ × NodeRef). Some m.1) same)

from_node : (e : Endian) (size : ℕ) (image : List ℕ) (addr : ℕ) (node : NodeRef) → size % 4 ≡ 0 → Contains (nodes e size image) (addr, node)
    → (k place : ℕ) × (k < block_count size image) × (addr ≡ k * size + place) × HoldsNode e (block_of size image k) place node
from_node e size image addr node words has =
    let seen = Contains-filter_map_from node_sighted (sightings e size image) (addr, node) has in
    let s = seen.0 in
    let block = Contains-flat_map_from (λ k. sightings_in e (k * size) (block_of size image k)) (below (block_count size image)) s seen.1 in
    let k = block.0 in
    let bytes = block_of size image k in
    let found = Contains-filter_map_from (λ (tile : Tile). sighting e (k * size + tile.place) tile.bytes tile.kind) (tiling e bytes) s block.2 in
    let tile = found.0 in
    let kind = sighted_node e (k * size + tile.place) tile.bytes tile.kind s found.2 in
    let is = node_of s.0 (node_in s.1) addr node seen.2 in
    let whole : length bytes % 4 ≡ 0 = omega (arith, block_length size image k, words) in
    let there = tile_in e bytes tile kind.0 whole found.1 kind.1 in (
      k,
      tile.place,
      Contains-below_from (block_count size image) k block.1,
      sym is.0 ∙ kind.2,
      record {
        tiles = tiling e bytes;
        tile = tile;
        header = kind.0;
        tiling = exists e bytes whole;
        among = found.1;
        here = refl;
        is_node = kind.1;
        reads = read_of_seen e (drop there.0 bytes) tile node there.1 (ap node_in (sym kind.3) ∙ is.1);
      },
    )

-- ---- and back

to_node : (e : Endian) (size : ℕ) (image : List ℕ) (addr : ℕ) (node : NodeRef) (k place : ℕ) → size % 4 ≡ 0 → k < block_count size image → addr ≡ k * size + place
    → HoldsNode e (block_of size image k) place node → Contains (nodes e size image) (addr, node)
to_node e size image addr node k place words few here holds =
    let bytes = block_of size image k in
    let tile = holds.tile in
    let whole : length bytes % 4 ≡ 0 = omega (arith, block_length size image k, words) in
    let among : Contains (tiling e bytes) tile = subst (λ (tiles : List Tile). Contains tiles tile) (only e bytes holds.tiles holds.tiling) holds.among in
    let there = tile_in e bytes tile holds.header whole among holds.is_node in
    let at : k * size + tile.place ≡ addr = ap (λ (p : ℕ). k * size + p) holds.here ∙ sym here in
    let seen : sighting e (k * size + tile.place) tile.bytes tile.kind ≡ Some (addr, seen_of e tile.bytes) =
    ap (sighting e (k * size + tile.place) tile.bytes) holds.is_node ∙ ap (λ (a : ℕ). Some (a, seen_of e tile.bytes)) at in
    let is : node_sighted (addr, seen_of e tile.bytes) ≡ Some (addr, node) =
    ap (λ (o : Option NodeRef). option_map {U = ℕ × NodeRef} (λ x. (addr, x)) o) (seen_of_read e (drop there.0 bytes) tile node there.1 holds.reads) in
    Contains-filter_map node_sighted (sightings e size image) (addr, seen_of e tile.bytes) (addr, node)
    (Contains-flat_map (λ j. sightings_in e (j * size) (block_of size image j)) (below (block_count size image)) k (addr, seen_of e tile.bytes)
    (Contains-below (block_count size image) k few)
    (Contains-filter_map (λ (t : Tile). sighting e (k * size + t.place) t.bytes t.kind) (tiling e bytes) tile (addr, seen_of e tile.bytes) among seen))
    is

pub nodes_are_contained : (e : Endian) (size : ℕ) (image : List ℕ) (addr : ℕ) (node : NodeRef) → size % 4 ≡ 0
    → Contains (nodes e size image) (addr, node)
    ↔ ((k place : ℕ) × (k < block_count size image) × (addr ≡ k * size + place) × HoldsNode e (block_of size image k) place node)
nodes_are_contained e size image addr node words =
    (from_node e size image addr node words, λ present. to_node e size image addr node present.0 present.1 words present.2 present.3 present.4)
