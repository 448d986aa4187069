-- What nodes make a revision.
use Rattle.std.proofs.Common.{◌≡◌, ℕ, ◌≤◌, Bool, true, false, cond, List, [], ◌∷◌, None, Some, Option, refl, sym, ap, ◌∙◌, arith, filter_map}
use Rattle.std.specs.Prelude.{◌==◌, ◌&&◌, ◌||◌, nat_le, filter, option_map}
use Rattle.std.specs.List.{cons_option}
use Rattle.std.proofs.lemmas.Bool.{eqb-true}
use Rattle.std.proofs.lemmas.Option.{same_Some, none-some}
use Rattle.flashbase.proofs.MemberLemmas.{Contains-here, Contains-there}
use Rattle.jnode.specs.declared.node.CompressedNode.{CompressedNode}
use Rattle.jnode.specs.declared.node.InodeNode.{InodeNode}
use Rattle.jnode.specs.declared.node.NodeRef.{NodeRef}
use Rattle.jnode.specs.declared.node.NodeRef.TheVariants as node
use Rattle.jnode.specs.declared.node.Seen.{Seen}
use Rattle.jnode.specs.declared.node.Seen.TheVariants as seen
use Rattle.jnode.specs.declared.order.Endian.{Endian}
use Rattle.jscan.specs.Image.{sightings}
use Rattle.jexpand.specs.Expanded.{compressed_node_at, expanded_node, node_content, with_content}
use Rattle.jmount.specs.Shown.{bytes_if}
use Rattle.jmount.specs.StateOf.{inodes, object_from, versions_of}
use Rattle.jmount.specs.Tree.{ObjectOf, has_bits, regular_bits, symlink_bits}
use Rattle.jmount.proofs.NumbersLemmas.{eqb_symm, object-state_of}
use Rattle.jversions.specs.Laws as law
use Rattle.jversions.specs.Laws.{IsLast}
use Rattle.jversions.specs.Revisions.{content_if, is_node_of, is_upto, nodes_upto, object_upto}
use Rattle.jversions.specs.Tiles.{takes_tile}
use Rattle.jversions.specs.declared.revision.Revision.{Revision}

-- ---- all versions of a number

-- a node of the number is within a last revision, and no other is
within_last : (r : Revision) (n : InodeNode) → (n.ino ≡ r.ino → n.version ≤ r.version) → (b : Bool) → (r.ino == n.ino) ≡ b → is_upto r n.ino n.version ≡ b
within_last r n last true at =
    let same : r.ino ≡ n.ino = eqb-true r.ino n.ino at in
    let low : n.version ≤ r.version = last (sym same) in
    let le : nat_le n.version r.version ≡ true = grind (arith, low) in
    ap (λ (c : Bool). c && nat_le n.version r.version) (eqb_symm n.ino r.ino ∙ at) ∙ le
within_last r n last false at = ap (λ (c : Bool). c && nat_le n.version r.version) (eqb_symm n.ino r.ino ∙ at)

one_version : (i : ℕ) (n : InodeNode) (kept : List NodeRef) (others : List InodeNode) (b c : Bool) → (i == n.ino) ≡ c → b ≡ c → versions_of (inodes kept) i ≡ others
    → versions_of (inodes (cond b (node.Inode n ∷ kept) kept)) i ≡ cond c (n ∷ others) others
one_version i n kept others true true at same rest =
    ap (λ (d : Bool). cond d (n ∷ versions_of (inodes kept) i) (versions_of (inodes kept) i)) at ∙ ap (λ (ns : List InodeNode). n ∷ ns) rest
one_version i n kept others false false at same rest = rest
one_version i n kept others true false at same rest = absurd (cc)
one_version i n kept others false true at same rest = absurd (cc)

last_versions : (r : Revision) (ns : List NodeRef) → IsLast r ns → versions_of (inodes (nodes_upto r ns)) r.ino ≡ versions_of (inodes ns) r.ino
last_versions r [] last = refl
last_versions r (node.Entry entry ∷ ns) last = last_versions r ns last
last_versions r (node.Inode n ∷ ns) last =
    one_version r.ino n (nodes_upto r ns) (versions_of (inodes ns) r.ino) (is_upto r n.ino n.version) (r.ino == n.ino) refl
    (within_last r n (last n (Contains-here n (inodes ns))) (r.ino == n.ino) refl)
    (last_versions r ns (λ m has. last m (Contains-there n (inodes ns) m has)))

pub last_is_shown : law.LastIsShown
last_is_shown r ns last = object-state_of (nodes_upto r ns) r.ino ∙ ap (object_from r.ino) (last_versions r ns last) ∙ sym (object-state_of ns r.ino)

-- ---- its bytes

some_of : (b : Bool) (bytes held : List ℕ) → cond b (Some held) None ≡ Some bytes → bytes ≡ held
some_of true bytes held is = sym (same_Some held bytes is)
some_of false bytes held is = absurd (none-some bytes is)

pub content_is : (o : Option (ObjectOf (List ℕ))) (bytes : List ℕ) → content_if o ≡ Some bytes → bytes ≡ bytes_if o
content_is o bytes is = some_of (has_bits regular_bits o || has_bits symlink_bits o) bytes (bytes_if o) is

pub last_is_readable : law.LastIsReadable
last_is_readable r ns bytes last is = content_is (object_upto r ns) bytes is ∙ ap bytes_if (last_is_shown r ns last)

-- ---- the nodes of tiles

module _ (r : Revision) (e : Endian) (size : ℕ) (image : List ℕ) where
  unpacked_within : (packed : CompressedNode) (o : Option (List ℕ)) (n : NodeRef) → option_map (with_content packed) o ≡ Some n → is_node_of r n ≡ is_upto r packed.ino packed.version
  unpacked_within packed None n is = absurd (none-some n is)
  unpacked_within packed (Some bytes) n is = ap (is_node_of r) (sym (same_Some (with_content packed bytes) n is))

  tile_within : (s : ℕ × Seen) (n : NodeRef) → expanded_node e size image s ≡ Some n → is_node_of r n ≡ takes_tile r e size image s
  tile_within (addr, seen.Entry entry) n is = ap (is_node_of r) (sym (same_Some (node.Entry entry) n is))
  tile_within (addr, seen.Inode inode) n is = ap (is_node_of r) (sym (same_Some (node.Inode inode) n is))
  tile_within (addr, seen.Compressed compr) n is =
      let packed : CompressedNode = compressed_node_at e size image addr in
      unpacked_within packed (node_content packed) n is
  tile_within (addr, seen.Marker) n is = absurd (none-some n is)
  tile_within (addr, seen.Padding) n is = absurd (none-some n is)
  tile_within (addr, seen.Obsolete) n is = absurd (none-some n is)
  tile_within (addr, seen.Attribute) n is = absurd (none-some n is)
  tile_within (addr, seen.Skippable nodetype) n is = absurd (none-some n is)
  tile_within (addr, seen.ReadOnly nodetype) n is = absurd (none-some n is)
  tile_within (addr, seen.Incompatible nodetype) n is = absurd (none-some n is)
  tile_within (addr, seen.Damaged which) n is = absurd (none-some n is)

  -- the nodes of tiles that are taken, and those of their nodes that are
  one_tile : (s : ℕ × Seen) (kept : List (ℕ × Seen)) (others : List NodeRef) (b : Bool) (o : Option NodeRef) → expanded_node e size image s ≡ o
      → ((n : NodeRef) → o ≡ Some n → is_node_of r n ≡ b) → filter_map (expanded_node e size image) kept ≡ filter (is_node_of r) others
      → filter_map (expanded_node e size image) (cond b (s ∷ kept) kept) ≡ filter (is_node_of r) (cons_option o others)
  one_tile s kept others true None gives within rest =
      ap (λ (o : Option NodeRef). cons_option o (filter_map (expanded_node e size image) kept)) gives ∙ rest
  one_tile s kept others false None gives within rest = rest
  one_tile s kept others true (Some n) gives within rest =
      ap (λ (o : Option NodeRef). cons_option o (filter_map (expanded_node e size image) kept)) gives
      ∙ ap (λ (ns : List NodeRef). n ∷ ns) rest
      ∙ sym (ap (λ (c : Bool). cond c (n ∷ filter (is_node_of r) others) (filter (is_node_of r) others)) (within n refl))
  one_tile s kept others false (Some n) gives within rest =
      rest ∙ sym (ap (λ (c : Bool). cond c (n ∷ filter (is_node_of r) others) (filter (is_node_of r) others)) (within n refl))

  filtered_nodes : (ss : List (ℕ × Seen)) → filter_map (expanded_node e size image) (filter (takes_tile r e size image) ss) ≡ filter (is_node_of r) (filter_map (expanded_node e size image) ss)
  filtered_nodes [] = refl
  filtered_nodes (s ∷ ss) =
      one_tile s (filter (takes_tile r e size image) ss) (filter_map (expanded_node e size image) ss) (takes_tile r e size image s) (expanded_node e size image s) refl (tile_within s) (filtered_nodes ss)

pub tiles_give_nodes : law.TilesGiveNodes
tiles_give_nodes r e size image = filtered_nodes r e size image (sightings e size image)
