-- Why an image is mounted through its compression as the same file system after nodes that hide
-- nothing were damaged.
use Rattle.std.proofs.Common.{◌≡◌, ℕ, ◌+◌, List, [], length, map, Option, Some, None, refl, ap, sym, ◌∙◌, subst, arith}
use Rattle.std.specs.Prelude.{Contains, filter, not, option_map, unwrap_or, IsTrue, ⊤}
use Rattle.std.proofs.lemmas.Option.{same_Some, none-some}
use Rattle.flashbase.proofs.MemberLemmas.{Contains-filter_map, Contains-filter_map_from}
use Rattle.jnode.specs.Compressed.{inode_with}
use Rattle.jnode.specs.Writing.{HoldsRange}
use Rattle.jnode.specs.declared.order.Endian.{Endian}
use Rattle.jnode.specs.declared.node.CompressedNode.{CompressedNode}
use Rattle.jnode.specs.declared.node.Fill.TheVariants as fill
use Rattle.jnode.specs.declared.node.InodeNode.{InodeNode}
use Rattle.jnode.specs.declared.node.NodeRef.{NodeRef}
use Rattle.jnode.specs.declared.node.NodeRef.TheVariants.{Entry, Inode}
use Rattle.jnode.specs.declared.node.Seen.{Seen}
use Rattle.jnode.specs.declared.node.Seen.TheVariants as seen
use Rattle.jscan.specs.Image.{is_block_size, node_sighted, sightings}
use Rattle.jscan.proofs.FitLaws.{nodes_writable}
use Rattle.jexpand.specs.Expanded.{compressed_node_at, expanded_node, expanded_nodes, node_content, with_content}
use Rattle.jexpand.proofs.NodeLemmas.{accepted_content, content_long}
use Rattle.jmount.specs.Clash.{NoInodesClash, NoneClash}
use Rattle.jmount.specs.StateOf.{inodes, state_of, tops_of}
use Rattle.jmount.specs.Tree.{State, is_directory}
use Rattle.jmount.proofs.ClashLemmas.{from_inodes}
use Rattle.jview.specs.Through.{IsSoundThrough, through_fault}
use Rattle.jthrough.specs.Addressed.{addressed_nodes}
use Rattle.jthrough.specs.View.{placed_node}
use Rattle.jthrough.proofs.AddressedLemmas.{addressed_are_expanded, none_among}
use Rattle.jthrough.proofs.PlacedLemmas.{placed_is}
use Rattle.jgaps.specs.Fields.{stretch_at, stretch_of, stretch_sighted, stretches}
use Rattle.jdamage.specs.Laws.{HoldRanges, ThroughIsSameWithout}
use Rattle.jgaps.specs.declared.fields.Stretch.{Stretch}
use Rattle.jdamage.proofs.FrontLemmas.{same_fields}
use Rattle.jdamage.proofs.ImageWithoutLemmas.{AreFine, missed_nowhere, plain, plain_inodes, stretch_given, stretches_given, with_address, without_lost}

module _ (e : Endian) (size : ℕ) (image : List ℕ) where
  -- ---- the stretches of an image are those of its inode nodes, once they are expanded

  -- a compressed node has its range by its fields
  fields_of : (addr compr : ℕ) (bytes : List ℕ) → IsTrue (is_block_size size) → Contains (sightings e size image) (addr, seen.Compressed compr)
      → stretch_at e image addr ≡ stretch_of (inode_with (compressed_node_at e size image addr) (fill.Data bytes))
  fields_of addr compr bytes readable has =
      let same = same_fields e size image addr compr readable has in
      λ j. record {
        ino = same 12 (omega arith) j;
        version = same 16 (omega arith) j;
        from = same 44 (omega arith) j;
        to = same 44 (omega arith) j + same 52 (omega arith) j;
      }

  compressed_given : (addr compr : ℕ) → IsTrue (is_block_size size) → Contains (sightings e size image) (addr, seen.Compressed compr)
      → through_fault e size image (addr, seen.Compressed compr) ≡ None
      → stretch_sighted e image (addr, seen.Compressed compr) ≡ stretch_given (placed_node e size image (addr, seen.Compressed compr))
  compressed_given addr compr readable has none =
      let packed : CompressedNode = compressed_node_at e size image addr in
      let bytes : List ℕ = unwrap_or (node_content packed) [] in
      let content : node_content packed ≡ Some bytes = accepted_content size addr packed none in
      ap Some (fields_of addr compr bytes readable has)
      ∙ sym (ap (λ (o : Option (List ℕ)). stretch_given (option_map {U = ℕ × NodeRef} (λ (n : NodeRef). (addr, n)) (option_map (with_content packed) o))) content)

  tile_given : (s : ℕ × Seen) → IsTrue (is_block_size size) → Contains (sightings e size image) s → through_fault e size image s ≡ None
      → stretch_sighted e image s ≡ stretch_given (placed_node e size image s)
  tile_given (addr, seen.Entry entry) readable has none = refl
  tile_given (addr, seen.Inode node) readable has none = refl
  tile_given (addr, seen.Marker) readable has none = refl
  tile_given (addr, seen.Padding) readable has none = refl
  tile_given (addr, seen.Obsolete) readable has none = refl
  tile_given (addr, seen.Attribute) readable has none = refl
  tile_given (addr, seen.Skippable nodetype) readable has none = refl
  tile_given (addr, seen.ReadOnly nodetype) readable has none = refl
  tile_given (addr, seen.Incompatible nodetype) readable has none = refl
  tile_given (addr, seen.Compressed compr) readable has none = compressed_given addr compr readable has none
  tile_given (addr, seen.Damaged which) readable has none = refl

  stretches_through : IsSoundThrough e size image → stretches e size image ≡ map stretch_of (plain_inodes (addressed_nodes e size image))
  stretches_through sound =
      stretches_given e image (placed_node e size image) (sightings e size image)
      (λ s has. tile_given s sound.scannable.0 has (none_among e size image (sightings e size image) s sound.none has))

  -- ---- their data have the length of their ranges

  abbrev HoldsIf : NodeRef → Type 0
  HoldsIf (Entry entry) = ⊤
  HoldsIf (Inode node) = HoldsRange node.fill node.dsize

  plain_holds : (addr : ℕ) (what : Seen) (node : InodeNode) → IsTrue (is_block_size size) → Contains (sightings e size image) (addr, what)
      → node_sighted (addr, what) ≡ Some (addr, Inode node) → HoldsRange node.fill node.dsize
  plain_holds addr what node readable has is =
      (nodes_writable e size image (addr, Inode node) readable (Contains-filter_map node_sighted (sightings e size image) (addr, what) (addr, Inode node) has is)).stored

  content_holds : (packed : CompressedNode) (o : Option (List ℕ)) (n : NodeRef) → node_content packed ≡ o → option_map (with_content packed) o ≡ Some n → HoldsIf n
  content_holds packed None n is gives = absurd (none-some n gives)
  content_holds packed (Some bytes) n is gives = subst HoldsIf (same_Some (with_content packed bytes) n gives) (content_long packed bytes is)

  tile_holds : (s : ℕ × Seen) (n : NodeRef) → IsTrue (is_block_size size) → Contains (sightings e size image) s → expanded_node e size image s ≡ Some n → HoldsIf n
  tile_holds (addr, seen.Entry entry) n readable has gives = subst HoldsIf (same_Some (Entry entry) n gives) tt
  tile_holds (addr, seen.Inode inode) n readable has gives =
      subst HoldsIf (same_Some (Inode inode) n gives) (plain_holds addr (seen.Inode inode) inode readable has refl)
  tile_holds (addr, seen.Compressed compr) n readable has gives =
      let packed : CompressedNode = compressed_node_at e size image addr in
      content_holds packed (node_content packed) n refl gives
  tile_holds (addr, seen.Marker) n readable has gives = absurd (none-some n gives)
  tile_holds (addr, seen.Padding) n readable has gives = absurd (none-some n gives)
  tile_holds (addr, seen.Obsolete) n readable has gives = absurd (none-some n gives)
  tile_holds (addr, seen.Attribute) n readable has gives = absurd (none-some n gives)
  tile_holds (addr, seen.Skippable nodetype) n readable has gives = absurd (none-some n gives)
  tile_holds (addr, seen.ReadOnly nodetype) n readable has gives = absurd (none-some n gives)
  tile_holds (addr, seen.Incompatible nodetype) n readable has gives = absurd (none-some n gives)
  tile_holds (addr, seen.Damaged which) n readable has gives = absurd (none-some n gives)

  through_holds : IsTrue (is_block_size size) → HoldRanges (plain_inodes (addressed_nodes e size image))
  through_holds readable node there =
      let (addr, has) = with_address (addressed_nodes e size image) node there in
      let (s, sighted, gives) = Contains-filter_map_from (placed_node e size image) (sightings e size image) (addr, Inode node) has in
      tile_holds s (Inode node) readable sighted (placed_is e size image s (addr, Inode node) gives).1

  -- ---- and no two of them clash

  inodes_apart : (ns : List NodeRef) → NoneClash ns → NoInodesClash (inodes ns)
  inodes_apart ns none node there other too clash = none (Inode other) (Inode node) (from_inodes ns other too) (from_inodes ns node there) clash

  through_apart : NoneClash (expanded_nodes e size image) → NoInodesClash (plain_inodes (addressed_nodes e size image))
  through_apart none = inodes_apart (plain (addressed_nodes e size image)) (subst NoneClash (sym (addressed_are_expanded e size image)) none)

-- ---- the image

pub through_is_same_without : ThroughIsSameWithout
through_is_same_without e size m whole lost mount sound was hidden =
    let ns = addressed_nodes e size whole in
    let others = stretches e size m.image in
    let nodes_are : plain ns ≡ expanded_nodes e size whole = addressed_are_expanded e size whole in
    let kept : expanded_nodes e size m.image ≡ plain (filter (λ n. not (lost n.0)) ns) =
    sym (addressed_are_expanded e size m.image) ∙ ap (λ (l : List (ℕ × NodeRef)). plain l) was.kept in
    let fine : AreFine lost m.state m.tops others ns = record {
      each = λ n there is. missed_nowhere m.state others (stretch_at e m.image n.0) n.1 (was.fields n.0 n.1 there is) (hidden n.0 is);
      apart = through_apart e size whole sound.apart;
      ranges = through_holds e size whole sound.scannable.0;
    } in
    let same = without_lost lost m.state m.tops others [] ns fine
    (stretches_through e size m.image mount.mounts.sound ∙ ap (λ (l : List (ℕ × NodeRef)). map stretch_of (plain_inodes l)) was.kept)
    (sym (ap state_of kept) ∙ mount.mounts.same, sym (ap tops_of kept) ∙ sym mount.tops) in
    let state_is : state_of (expanded_nodes e size whole) ≡ m.state = sym (ap state_of nodes_are) ∙ same.0 in (
      record {
        sound = sound;
        root = subst (λ (s : State). IsTrue (is_directory s 1)) (mount.mounts.same ∙ sym state_is) mount.mounts.root;
        same = state_is;
      },
      sym (ap tops_of nodes_are) ∙ same.1,
    )
