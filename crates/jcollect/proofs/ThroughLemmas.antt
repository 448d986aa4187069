-- The image of copied nodes, seen through its compression.
use Rattle.std.proofs.Common.{◌≡◌, ℕ, Bool, true, false, List, [], ◌∷◌, ◌++◌, length, map, refl, ap, ap₂, ◌∙◌, inl, inr, Option, None}
use Rattle.std.specs.Prelude.{filter, filter_map, ◌||◌}
use Rattle.std.specs.List.{AllByRecursion, cons_option, flat_map, list_any}
use Rattle.std.specs.Option.{option_or}
use Rattle.std.proofs.lemmas.Bool.{cases_Bool, true≢false, false≢true}
use Rattle.jnode.specs.Compressed.{compressed_of}
use Rattle.jnode.specs.Reading.{seen_of}
use Rattle.jnode.specs.Weak.{is_sound}
use Rattle.jnode.specs.declared.node.CompressedNode.{CompressedNode}
use Rattle.jnode.specs.declared.node.NodeRef.{NodeRef}
use Rattle.jnode.specs.declared.node.Seen.{Seen}
use Rattle.jnode.specs.declared.node.Seen.TheVariants as seen
use Rattle.jnode.specs.declared.order.Endian.{Endian}
use Rattle.jscan.specs.Image.{sightings}
use Rattle.jscan.specs.Scans.{forbids_writing}
use Rattle.jexpand.specs.Expanded.{compressed_node_at, expanded_node, expanded_nodes, node_content, with_content, unpacked_bytes, rest_at}
use Rattle.jexpand.specs.Expanded as expanded
use Rattle.jexpand.specs.declared.fault.ConvertFault.{ConvertFault}
use Rattle.jview.specs.Through.{node_by, content_by, fault_by, through_fault, through_fault_among}
use Rattle.jlog.specs.LeftLaws.{tells}
use Rattle.jlog.specs.Forms.{placed_forms}
use Rattle.jlog.specs.Places.{place_after, end_after}
use Rattle.jcollect.specs.Tiles.{tile_in, tiles_at, copied_image, IsStorableTile, tile_sighted}
use Rattle.jcollect.specs.Through.{tile_node, content_of_tile, IsReadTile, CopiedExpands}
use Rattle.jcollect.proofs.ImageLemmas.{output_has_tiles}
use Rattle.jcollect.proofs.NodeLemmas.{nodes_storable}

-- ---- what a sighting gives, by the tile that stands there

pub node_is : (e : Endian) (size : ℕ) (image : List ℕ) (s : ℕ × Seen) → expanded_node e size image s ≡ node_by (compressed_node_at e size image s.0) s.1
node_is e size image (addr, seen.Entry entry) = refl
node_is e size image (addr, seen.Inode inode) = refl
node_is e size image (addr, seen.Compressed compr) = refl
node_is e size image (addr, _) = refl

pub content_is : (e : Endian) (size : ℕ) (image : List ℕ) (s : ℕ × Seen) → expanded.tile_content e size image s ≡ content_by (compressed_node_at e size image s.0) s.1
content_is e size image (addr, seen.Compressed compr) = refl
content_is e size image (addr, _) = refl

-- ---- what is not told gives nothing

record IsNothing (size addr : ℕ) (packed : CompressedNode) (s : Seen) : Type 0 where
  node : node_by packed s ≡ None
  content : content_by packed s ≡ []
  fault : fault_by size addr packed s ≡ None
  ban : forbids_writing s ≡ false

nothing : (size addr : ℕ) (packed : CompressedNode) (s : Seen) → tells (addr, s) ≡ false → IsNothing size addr packed s
nothing size addr packed seen.Marker none = record { node = refl; content = refl; fault = refl; ban = refl }
nothing size addr packed (seen.Damaged which) none = record { node = refl; content = refl; fault = refl; ban = refl }
nothing size addr packed _ none = absurd (true≢false none)

record AreTold (e : Endian) (size : ℕ) (image : List ℕ) (ss told : List (ℕ × Seen)) : Type 0 where
  nodes : filter_map (expanded_node e size image) ss ≡ filter_map (expanded_node e size image) told
  contents : flat_map (expanded.tile_content e size image) ss ≡ flat_map (expanded.tile_content e size image) told
  fault : through_fault_among e size image ss ≡ through_fault_among e size image told
  bans : list_any (λ s. forbids_writing s.1) ss ≡ list_any (λ s. forbids_writing s.1) told

all_told : (e : Endian) (size : ℕ) (image : List ℕ) (ss : List (ℕ × Seen)) → AreTold e size image ss (filter tells ss)
all_told e size image [] = record { nodes = refl; contents = refl; fault = refl; bans = refl }
all_told e size image (s ∷ ss) =
    let rest = all_told e size image ss in
    elim (cases_Bool (tells s)) [
      | inl told ↦ rw told (record {
        nodes = ap (λ (l : List NodeRef). cons_option (expanded_node e size image s) l) rest.nodes;
        contents = ap (λ (l : List ℕ). expanded.tile_content e size image s ++ l) rest.contents;
        fault = ap (option_or (through_fault e size image s)) rest.fault;
        bans = ap (λ (b : Bool). forbids_writing s.1 || b) rest.bans;
      })
      | inr none ↦
          let no = nothing size s.0 (compressed_node_at e size image s.0) s.1 none in
          rw none (record {
            nodes = ap₂ (λ (o : Option NodeRef) (l : List NodeRef). cons_option o l) (node_is e size image s ∙ no.node) rest.nodes;
            contents = ap₂ (λ (xs ys : List ℕ). xs ++ ys) (content_is e size image s ∙ no.content) rest.contents;
            fault = ap₂ (λ (o p : Option ConvertFault). option_or o p) no.fault rest.fault;
            bans = ap₂ (λ (a b : Bool). a || b) no.ban rest.bans;
          })
    ]

-- ---- of tiles that stand

sound_writes : (s : Seen) → is_sound s ≡ true → forbids_writing s ≡ false
sound_writes (seen.Entry entry) sound = refl
sound_writes (seen.Inode inode) sound = refl
sound_writes (seen.Compressed compr) sound = refl
sound_writes _ sound = absurd (false≢true sound)

record TilesGive (e : Endian) (size : ℕ) (image : List ℕ) (told : List (ℕ × Seen)) (tiles : List (List ℕ)) : Type 0 where
  nodes : filter_map (expanded_node e size image) told ≡ filter_map (tile_node e) tiles
  contents : flat_map (expanded.tile_content e size image) told ≡ flat_map (content_of_tile e) tiles
  fault : through_fault_among e size image told ≡ None
  bans : list_any (λ s. forbids_writing s.1) told ≡ false

tiles_give : (e : Endian) (size : ℕ) (image : List ℕ) (from : ℕ) (tiles : List (List ℕ)) → AllByRecursion (IsStorableTile e size) tiles → AllByRecursion (IsReadTile e size) tiles
    → AllByRecursion (λ (p : ℕ × List ℕ). tile_in e size image p.0 ≡ p.1) (placed_forms size from tiles)
    → TilesGive e size image (map (tile_sighted e) (placed_forms size from tiles)) tiles
tiles_give e size image from [] ok read stand = record { nodes = refl; contents = refl; fault = refl; bans = refl }
tiles_give e size image from (t ∷ ts) ok read stand =
    let addr : ℕ = place_after size from (length t) in
    let s : ℕ × Seen = (addr, seen_of e t) in
    let rest = tiles_give e size image (end_after size from (length t)) ts ok.1 read.1 stand.1 in
    let packed : compressed_node_at e size image addr ≡ compressed_of e t = ap (compressed_of e) stand.0 in
    record {
      nodes = ap₂ (λ (o : Option NodeRef) (l : List NodeRef). cons_option o l) (node_is e size image s ∙ ap (λ (p : CompressedNode). node_by p (seen_of e t)) packed) rest.nodes;
      contents = ap₂ (λ (xs ys : List ℕ). xs ++ ys) (content_is e size image s ∙ ap (λ (p : CompressedNode). content_by p (seen_of e t)) packed) rest.contents;
      fault = ap₂ (λ (o p : Option ConvertFault). option_or o p) (ap (λ (p : CompressedNode). fault_by size addr p (seen_of e t)) packed ∙ read.0 addr) rest.fault;
      bans = ap₂ (λ (a b : Bool). a || b) (sound_writes (seen_of e t) ok.0.is.sound) rest.bans;
    }

pub copied_expands : CopiedExpands
copied_expands e size blocks image addresses size_is nodes room read =
    let tiles : List (List ℕ) = tiles_at e size image addresses in
    let out : List ℕ = copied_image e size image addresses in
    let ok : AllByRecursion (IsStorableTile e size) tiles = nodes_storable e size image addresses size_is nodes room.each in
    let has = (output_has_tiles e size blocks tiles size_is ok room.room).has in
    let told = all_told e size out (sightings e size out) in
    let give = tiles_give e size out 0 tiles ok read has.stand in
    record {
      nodes = told.nodes ∙ (ap (filter_map (expanded_node e size out)) has.sighted ∙ give.nodes);
      contents = told.contents ∙ (ap (flat_map (expanded.tile_content e size out)) has.sighted ∙ give.contents);
      fault = told.fault ∙ (ap (through_fault_among e size out) has.sighted ∙ give.fault);
      read_only = told.bans ∙ (ap (list_any (λ (s : ℕ × Seen). forbids_writing s.1)) has.sighted ∙ give.bans);
      clean = has.clean;
    }
