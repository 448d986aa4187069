-- What is seen of an image through its compression, block by block and without addresses.
use Rattle.std.proofs.Common.{◌≡◌, ℕ, ◌+◌, ◌*◌, ◌%◌, ◌<◌, Bool, true, false, cond, List, [], ◌∷◌, ◌++◌, length, filter_map, drop, refl, sym, ap, ap₂, ◌∙◌, arith, inl, inr, Option, None, Some, Contains, is_some, is_none, length-append}
use Rattle.std.specs.Prelude.{filter, flat_map, ◌||◌, nat_le}
use Rattle.std.specs.List.{cons_option, list_any}
use Rattle.std.specs.Option.{option_or}
use Rattle.std.proofs.lemmas.Bool.{cases_Bool}
use Rattle.std.proofs.lemmas.Nat.{div-mul-add, mod-mul-add}
use Rattle.flashbase.proofs.MemberLemmas.{Contains-here, Contains-there, split_around}
use Rattle.jnode.specs.Compressed.{compressed_of}
use Rattle.jnode.specs.Reading.{seen_of, tile_of, inode_len}
use Rattle.jnode.specs.declared.node.CompressedNode.{CompressedNode}
use Rattle.jnode.specs.declared.node.NodeRef.{NodeRef}
use Rattle.jnode.specs.declared.node.Seen.{Seen}
use Rattle.jnode.specs.declared.node.Seen.TheVariants as seen
use Rattle.jnode.specs.declared.order.Endian.{Endian}
use Rattle.jscan.specs.Image.{block_of, sighting, sightings_in}
use Rattle.jscan.specs.Scans.{forbids_writing}
use Rattle.jscan.specs.Tiling.{Tile, bytes_of, tiling}
use Rattle.jscan.specs.declared.tiles.TileKind.{TileKind}
use Rattle.jscan.specs.declared.tiles.TileKind.TheVariants.{Node, Word, Rest}
use Rattle.jscan.proofs.TilingLaws.{exists}
use Rattle.jcompr.specs.Content.{method_of}
use Rattle.jexpand.specs.Expanded.{compressed_node_at, node_content, expanded_node, tile_content}
use Rattle.jexpand.specs.declared.fault.ConvertFault.{ConvertFault}
use Rattle.jexpand.specs.declared.fault.ConvertFault.TheVariants as fault
use Rattle.jview.specs.Through.{node_by, content_by, fault_by, through_fault_among}

-- ---- a glimpse: what a node's tile is seen as, and the compressed node that it then is

abbrev pub Glimpse : Type 0
Glimpse = Seen × CompressedNode

abbrev pub glimpse_of : Endian → List ℕ → ℕ → List ℕ → TileKind → Option Glimpse
glimpse_of e block place bytes (Node header) = Some (seen_of e bytes, compressed_of e (tile_of e (drop place block)))
glimpse_of e block place bytes Word = None
glimpse_of e block place bytes Rest = None

-- those of the tiles of a block
abbrev pub glimpses_among : Endian → List ℕ → List Tile → List Glimpse
glimpses_among e block tiles = filter_map (λ tile. glimpse_of e block tile.place tile.bytes tile.kind) tiles

-- all but markers
abbrev pub is_told : Seen → Bool
is_told seen.Marker = false
is_told _ = true

abbrev pub told_of : List Glimpse → List Glimpse
told_of gs = filter (λ g. is_told g.0) gs

-- what is told of a block
unfoldable pub block_glimpses : Endian → List ℕ → List Glimpse
block_glimpses e block = told_of (glimpses_among e block (tiling e block))

-- ---- what a glimpse gives

abbrev pub node_glimpsed : Glimpse → Option NodeRef
node_glimpsed g = node_by g.1 g.0

abbrev pub content_glimpsed : Glimpse → List ℕ
content_glimpsed g = content_by g.1 g.0

abbrev pub is_refused : ℕ → Glimpse → Bool
is_refused size g = is_some (fault_by size 0 g.1 g.0)

abbrev pub is_ban : Glimpse → Bool
is_ban g = forbids_writing g.0

-- what is seen in sightings is seen in glimpses
pub record AreGlimpsed (e : Endian) (size : ℕ) (image : List ℕ) (ss : List (ℕ × Seen)) (gs : List Glimpse) : Type 0 where
  pub nodes : filter_map (expanded_node e size image) ss ≡ filter_map node_glimpsed gs
  pub contents : flat_map (tile_content e size image) ss ≡ flat_map content_glimpsed gs
  pub refused : is_some (through_fault_among e size image ss) ≡ list_any (is_refused size) gs
  pub bans : list_any (λ s. forbids_writing s.1) ss ≡ list_any is_ban gs

-- ---- one sighting

node_is : (e : Endian) (size : ℕ) (image : List ℕ) (s : ℕ × Seen) → expanded_node e size image s ≡ node_by (compressed_node_at e size image s.0) s.1
node_is e size image (addr, seen.Entry entry) = refl
node_is e size image (addr, seen.Inode inode) = refl
node_is e size image (addr, seen.Compressed compr) = refl
node_is e size image (addr, _) = refl

content_is : (e : Endian) (size : ℕ) (image : List ℕ) (s : ℕ × Seen) → tile_content e size image s ≡ content_by (compressed_node_at e size image s.0) s.1
content_is e size image (addr, seen.Compressed compr) = refl
content_is e size image (addr, _) = refl

-- whether a node is refused does not depend on its address
any_address : (a b c : Bool) (x y z u v w : ConvertFault)
    → is_some (cond a (Some x) (option_or (cond b None (Some y)) (cond c (Some z) None))) ≡ is_some (cond a (Some u) (option_or (cond b None (Some v)) (cond c (Some w) None)))
any_address true b c x y z u v w = refl
any_address false true true x y z u v w = refl
any_address false true false x y z u v w = refl
any_address false false c x y z u v w = refl

refused_anywhere : (size addr : ℕ) (packed : CompressedNode) (s : Seen) → is_some (fault_by size addr packed s) ≡ is_some (fault_by size 0 packed s)
refused_anywhere size addr packed (seen.Incompatible t) = refl
refused_anywhere size addr packed (seen.Compressed compr) =
    any_address (is_none (method_of packed.compr)) (nat_le (12 + (inode_len + packed.dsize)) size) (is_none (node_content packed)) (fault.Compressed addr packed.compr) (fault.TooLong addr)
    (fault.Data addr) (fault.Compressed 0 packed.compr) (fault.TooLong 0) (fault.Data 0)
refused_anywhere size addr packed _ = refl

either_some : (o p : Option ConvertFault) → is_some (option_or o p) ≡ (is_some o || is_some p)
either_some None p = refl
either_some (Some f) p = refl

-- what is not told gives nothing
record IsNothing (size : ℕ) (g : Glimpse) : Type 0 where
  node : node_glimpsed g ≡ None
  content : content_glimpsed g ≡ []
  refused : is_refused size g ≡ false
  ban : is_ban g ≡ false

nothing : (size : ℕ) (s : Seen) (packed : CompressedNode) → is_told s ≡ false → IsNothing size (s, packed)
nothing size seen.Marker packed none = record { node = refl; content = refl; refused = refl; ban = refl }
nothing size _ packed none = absurd (cc)

one_more : (e : Endian) (size : ℕ) (image : List ℕ) (addr : ℕ) (s : Seen) (packed : CompressedNode) (ss : List (ℕ × Seen)) (gs : List Glimpse)
    → compressed_node_at e size image addr ≡ packed → AreGlimpsed e size image ss (told_of gs)
    → AreGlimpsed e size image ((addr, s) ∷ ss) (told_of ((s, packed) ∷ gs))
one_more e size image addr s packed ss gs is rest =
    let node : expanded_node e size image (addr, s) ≡ node_by packed s = node_is e size image (addr, s) ∙ ap (λ (p : CompressedNode). node_by p s) is in
    let content : tile_content e size image (addr, s) ≡ content_by packed s = content_is e size image (addr, s) ∙ ap (λ (p : CompressedNode). content_by p s) is in
    let refused : is_some (fault_by size addr (compressed_node_at e size image addr) s) ≡ is_refused size (s, packed) =
    refused_anywhere size addr (compressed_node_at e size image addr) s ∙ ap (λ (p : CompressedNode). is_some (fault_by size 0 p s)) is in
    let either : is_some (through_fault_among e size image ((addr, s) ∷ ss)) ≡ (is_refused size (s, packed) || list_any (is_refused size) (told_of gs)) =
    either_some (fault_by size addr (compressed_node_at e size image addr) s) (through_fault_among e size image ss) ∙ ap₂ (λ (a b : Bool). a || b) refused rest.refused in
    elim (cases_Bool (is_told s)) [
      | inl told ↦ rw told (record {
        nodes = ap₂ (λ (o : Option NodeRef) (l : List NodeRef). cons_option o l) node rest.nodes;
        contents = ap₂ (λ (xs ys : List ℕ). xs ++ ys) content rest.contents;
        refused = either;
        bans = ap (λ (b : Bool). forbids_writing s || b) rest.bans;
      })
      | inr none ↦
          let no = nothing size s packed none in
          rw none (record {
            nodes = ap₂ (λ (o : Option NodeRef) (l : List NodeRef). cons_option o l) (node ∙ no.node) rest.nodes;
            contents = ap₂ (λ (xs ys : List ℕ). xs ++ ys) (content ∙ no.content) rest.contents;
            refused = either ∙ ap (λ (b : Bool). b || list_any (is_refused size) (told_of gs)) no.refused;
            bans = ap₂ (λ (a b : Bool). a || b) no.ban rest.bans;
          })
    ]

-- ---- the tiles of a block

-- the compressed node at an address of a block is that of its place in the block
there : (e : Endian) (size : ℕ) (image block : List ℕ) (b place : ℕ) → block_of size image b ≡ block → place < size
    → compressed_node_at e size image (b * size + place) ≡ compressed_of e (tile_of e (drop place block))
there e size image block b place is inside =
    ap₂ (λ (d p : ℕ). compressed_of e (tile_of e (drop p (block_of size image d)))) (div-mul-add b size place inside) (mod-mul-add b size place inside)
    ∙ ap (λ (l : List ℕ). compressed_of e (tile_of e (drop place l))) is

tiles_glimpsed : (e : Endian) (size : ℕ) (image block : List ℕ) (b : ℕ) → block_of size image b ≡ block → (tiles : List Tile) → ((tile : Tile) → Contains tiles tile → tile.place < size)
    → AreGlimpsed e size image (filter_map (λ tile. sighting e (b * size + tile.place) tile.bytes tile.kind) tiles) (told_of (glimpses_among e block tiles))
tiles_glimpsed e size image block b is [] inside = record { nodes = refl; contents = refl; refused = refl; bans = refl }
tiles_glimpsed e size image block b is (tile ∷ tiles) inside =
    by_kind tile.kind (tiles_glimpsed e size image block b is tiles (λ t has. inside t (Contains-there tile tiles t has)))
  where
    by_kind : (kind : TileKind) → AreGlimpsed e size image (filter_map (λ tile. sighting e (b * size + tile.place) tile.bytes tile.kind) tiles) (told_of (glimpses_among e block tiles))
        → AreGlimpsed e size image (cons_option (sighting e (b * size + tile.place) tile.bytes kind) (filter_map (λ tile. sighting e (b * size + tile.place) tile.bytes tile.kind) tiles))
        (told_of (cons_option (glimpse_of e block tile.place tile.bytes kind) (glimpses_among e block tiles)))
    by_kind Word rest = rest
    by_kind Rest rest = rest
    by_kind (Node header) rest =
        one_more e size image (b * size + tile.place) (seen_of e tile.bytes) (compressed_of e (tile_of e (drop tile.place block)))
        (filter_map (λ tile. sighting e (b * size + tile.place) tile.bytes tile.kind) tiles) (glimpses_among e block tiles)
        (there e size image block b tile.place is (inside tile (Contains-here tile tiles))) rest

-- a tile's place is within its block
flat_behind : (before after : List Tile) (tile : Tile) → length (bytes_of (before ++ tile ∷ after)) ≡ length (bytes_of before) + (length tile.bytes + length (bytes_of after))
flat_behind [] after tile = omega (arith, length-append tile.bytes (bytes_of after))
flat_behind (t ∷ ts) after tile =
    omega (arith, length-append t.bytes (bytes_of (ts ++ tile ∷ after)), length-append t.bytes (bytes_of ts), flat_behind ts after tile)

place_within : (e : Endian) (size : ℕ) (block : List ℕ) → size % 4 ≡ 0 → length block ≡ size → (tile : Tile) → Contains (tiling e block) tile → tile.place < size
place_within e size block words long tile has =
    let found = split_around (tiling e block) tile has in
    let all = exists e block (omega (arith, long, words)) in
    let at = all.each found.0 found.1 tile found.2 in
    let whole : length (bytes_of (found.0 ++ tile ∷ found.1)) ≡ size = ap (λ (ts : List Tile). length (bytes_of ts)) (sym found.2) ∙ (ap length all.whole ∙ long) in
    omega (arith, whole, flat_behind found.0 found.1 tile, at.nonempty, at.here)

pub block_glimpsed : (e : Endian) (size : ℕ) (image block : List ℕ) (b : ℕ) → size % 4 ≡ 0 → block_of size image b ≡ block → length block ≡ size
    → AreGlimpsed e size image (sightings_in e (b * size) block) (block_glimpses e block)
unfolding block_glimpses
block_glimpsed e size image block b words is long = tiles_glimpsed e size image block b is (tiling e block) (λ tile has. place_within e size block words long tile has)
