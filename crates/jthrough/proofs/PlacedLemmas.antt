-- The nodes that the tiles of a view give, with their addresses.
use Rattle.std.proofs.Common.{◌≡◌, ℕ, ◌+◌, ◌≤◌, List, [], ◌∷◌, ◌++◌, length, drop, map, None, Some, Option, refl, sym, ap, subst, ◌∙◌, arith, append_assoc, IsTrue, Contains}
use Rattle.std.specs.Prelude.{option_map, option_to_list}
use Rattle.std.specs.List.{cons_option}
use Rattle.std.proofs.Math.Seq.{drop-append_seam}
use Rattle.std.proofs.lemmas.List.{append-nil}
use Rattle.std.proofs.lemmas.List.Elements.{Contains-append_left}
use Rattle.std.proofs.lemmas.Option.{same_Some, none-some}
use Rattle.flashbase.proofs.MemberLemmas.{Contains-here, Contains-there, Contains-filter_map, Contains-filter_map_from}
use Rattle.jnode.specs.declared.node.CompressedNode.{CompressedNode}
use Rattle.jnode.specs.declared.node.NodeRef.{NodeRef}
use Rattle.jnode.specs.declared.node.NodeRef.TheVariants as node
use Rattle.jnode.specs.declared.node.Seen.{Seen}
use Rattle.jnode.specs.declared.node.Seen.TheVariants as seen
use Rattle.jnode.specs.declared.order.Endian.{Endian}
use Rattle.jnode.specs.Reading.{ReadsCompressed, tile_of}
use Rattle.jnode.proofs.ReadingLemmas.{read_compressed}
use Rattle.jscan.specs.Image.{is_block_size, sightings, node_sighted}
use Rattle.jscan.specs.Scans.{IsScannable}
use Rattle.jscan.proofs.PartialScanLemmas.{cons_append}
use Rattle.jexpand.specs.Expanded.{compressed_node_at, node_content, with_content, expanded_node, tile_content, contents_of_tiles, rest_at}
use Rattle.jexpand.proofs.NodeLemmas.{content_long}
use Rattle.jexpand.proofs.SightedLemmas.{sighted_at, size_words}
use Rattle.jmount.specs.Collected.{without_addresses}
use Rattle.jmount.specs.MountsNodes.{IsMountable, AreMountable}
use Rattle.jmount.proofs.MountLemmas.{nodes_mountable}
use Rattle.jview.specs.Through.{through_fault}
use Rattle.jthrough.specs.Refusals.{nodes_of_tiles}
use Rattle.jthrough.specs.View.{AreSeen, BeginWith, IsViewOf, placed_node, placed_nodes}
use Rattle.jthrough.specs.declared.view.View.{View}

module _ (e : Endian) (size : ℕ) (image : List ℕ) where
  -- ---- while tiles are gone through

  -- the nodes so far, and the tiles that are left
  pub record Placing (all left : List (ℕ × Seen)) (held : List ℕ) (nodes : List (ℕ × NodeRef)) : Type 0 where
    pub seen : AreSeen e size image left held
    pub whole : placed_nodes e size image all ≡ nodes ++ placed_nodes e size image left

  pub placing_start : (all left : List (ℕ × Seen)) (held : List ℕ) (nodes : List (ℕ × NodeRef)) → left ≡ all → nodes ≡ [] → AreSeen e size image all held → Placing all left held nodes
  placing_start all left held nodes is empty seen = record {
    seen = subst (λ (l : List (ℕ × Seen)). AreSeen e size image l held) (sym is) seen;
    whole = ap (placed_nodes e size image) (sym is) ∙ ap (λ (ns : List (ℕ × NodeRef)). ns ++ placed_nodes e size image left) (sym empty);
  }

  head_there : (left rest : List (ℕ × Seen)) (s : ℕ × Seen) → left ≡ s ∷ rest → Contains left s
  head_there left rest s is = subst (λ (l : List (ℕ × Seen)). Contains l s) (sym is) (Contains-here s rest)

  pub placing_sighted : (all left rest : List (ℕ × Seen)) (s : ℕ × Seen) (held : List ℕ) (nodes : List (ℕ × NodeRef)) → Placing all left held nodes → left ≡ s ∷ rest
      → Contains (sightings e size image) s
  placing_sighted all left rest s held nodes p is = p.seen.sighted s (head_there left rest s is)

  pub placing_none : (all left rest : List (ℕ × Seen)) (s : ℕ × Seen) (held : List ℕ) (nodes : List (ℕ × NodeRef)) → Placing all left held nodes → left ≡ s ∷ rest
      → through_fault e size image s ≡ None
  placing_none all left rest s held nodes p is = p.seen.none s (head_there left rest s is)

  -- the contents begin with that of the next tile
  parted : (left rest : List (ℕ × Seen)) (s : ℕ × Seen) (held : List ℕ) → AreSeen e size image left held → left ≡ s ∷ rest
      → (more : List ℕ) × (held ≡ tile_content e size image s ++ (contents_of_tiles e size image rest ++ more))
  parted left rest s held seen is =
      let more = seen.contents.0 in (
        more,
        seen.contents.1 ∙ ap (λ (l : List (ℕ × Seen)). contents_of_tiles e size image l ++ more) is
            ∙ append_assoc (tile_content e size image s) (contents_of_tiles e size image rest) more,
      )

  pub placing_contents : (all left rest : List (ℕ × Seen)) (s : ℕ × Seen) (held : List ℕ) (nodes : List (ℕ × NodeRef)) → Placing all left held nodes → left ≡ s ∷ rest
      → BeginWith (tile_content e size image s) held
  placing_contents all left rest s held nodes p is =
      let parts = parted left rest s held p.seen is in
      (contents_of_tiles e size image rest ++ parts.0, parts.1)

  pub placing_next : (all left rest : List (ℕ × Seen)) (addr : ℕ) (what : Seen) (held behind : List ℕ) (nodes more : List (ℕ × NodeRef)) (node : Option NodeRef)
      → Placing all left held nodes → left ≡ (addr, what) ∷ rest → behind ≡ drop (length (tile_content e size image (addr, what))) held
      → node ≡ expanded_node e size image (addr, what) → more ≡ nodes ++ option_to_list (option_map (λ n. (addr, n)) node)
      → Placing all rest behind more
  placing_next all left rest addr what held behind nodes more node p is behind_is node_is more_is =
      let s : ℕ × Seen = (addr, what) in
      let content : List ℕ = tile_content e size image s in
      let parts = parted left rest s held p.seen is in
      let others : List ℕ = contents_of_tiles e size image rest ++ parts.0 in
      let gives : option_map {U = ℕ × NodeRef} (λ (n : NodeRef). (addr, n)) node ≡ placed_node e size image s = ap (option_map {U = ℕ × NodeRef} (λ (n : NodeRef). (addr, n))) node_is in
      record {
        seen = record {
          sighted = λ t has. p.seen.sighted t (subst (λ (l : List (ℕ × Seen)). Contains l t) (sym is) (Contains-there s rest t has));
          none = λ t has. p.seen.none t (subst (λ (l : List (ℕ × Seen)). Contains l t) (sym is) (Contains-there s rest t has));
          contents = (parts.0, behind_is ∙ ap (drop (length content)) parts.1 ∙ drop-append_seam content others);
        };
        whole = p.whole
            ∙ ap (λ (l : List (ℕ × Seen)). nodes ++ placed_nodes e size image l) is
            ∙ cons_append nodes (placed_node e size image s) (placed_nodes e size image rest)
            ∙ ap (λ (o : Option (ℕ × NodeRef)). (nodes ++ option_to_list o) ++ placed_nodes e size image rest) (sym gives)
            ∙ ap (λ (ns : List (ℕ × NodeRef)). ns ++ placed_nodes e size image rest) (sym more_is);
      }

  pub placing_end : (all left : List (ℕ × Seen)) (held : List ℕ) (nodes : List (ℕ × NodeRef)) → Placing all left held nodes → left ≡ [] → nodes ≡ placed_nodes e size image all
  placing_end all left held nodes p is =
      sym (p.whole ∙ ap (λ (l : List (ℕ × Seen)). nodes ++ placed_nodes e size image l) is ∙ append-nil nodes)

  -- ---- the tiles of a view

  pub view_seen : (contents : List ℕ) (view : View) → IsViewOf e size image contents view → AreSeen e size image view.tiles.items contents
  view_seen contents view v = record {
    sighted = λ s has. subst (λ (l : List (ℕ × Seen)). Contains l s) (sym v.all) (Contains-append_left v.done v.rest s (v.has.among s has));
    none = λ s has. v.has.none s (v.has.among s has);
    contents = (v.has.contents.0, v.has.contents.1 ∙ ap (λ (l : List ℕ). l ++ v.has.contents.0) (sym v.has.tiles));
  }

  -- ---- their nodes are as a mount wants them

  mapped_some : (addr : ℕ) (o : Option NodeRef) (n : ℕ × NodeRef) → option_map {U = ℕ × NodeRef} (λ x. (addr, x)) o ≡ Some n → (addr ≡ n.0) × (o ≡ Some n.1)
  mapped_some addr None n is = absurd (none-some n is)
  mapped_some addr (Some x) n is =
      let same : ◌≡◌ {A = ℕ × NodeRef} (addr, x) n = same_Some (addr, x) n is in
      (ap (λ (m : ℕ × NodeRef). m.0) same, ap (λ (m : ℕ × NodeRef). Some m.1) same)

  pub placed_is : (s : ℕ × Seen) (n : ℕ × NodeRef) → placed_node e size image s ≡ Some n → (s.0 ≡ n.0) × (expanded_node e size image s ≡ Some n.1)
  placed_is s n is = mapped_some s.0 (expanded_node e size image s) n is

  content_some : (packed : CompressedNode) (o : Option (List ℕ)) (n : NodeRef) → node_content packed ≡ o → option_map (with_content packed) o ≡ Some n
      → (bytes : List ℕ) × (node_content packed ≡ Some bytes) × (with_content packed bytes ≡ n)
  content_some packed None n is gives = absurd (none-some n gives)
  content_some packed (Some bytes) n is gives = (bytes, is, same_Some (with_content packed bytes) n gives)

  with_content_mountable : (packed : CompressedNode) (bytes : List ℕ) → length bytes ≡ packed.dsize → packed.offset + packed.dsize ≤ 0xFFFF_FFFF → IsMountable (with_content packed bytes)
  with_content_mountable packed bytes long end = omega (arith, long, end)

  compressed_mountable : (addr compr : ℕ) (n : NodeRef) → IsTrue (is_block_size size) → Contains (sightings e size image) (addr, seen.Compressed compr)
      → expanded_node e size image (addr, seen.Compressed compr) ≡ Some n → IsMountable n
  compressed_mountable addr compr n readable has gives =
      let packed : CompressedNode = compressed_node_at e size image addr in
      let at = sighted_at e size image addr (seen.Compressed compr) (size_words size readable) has in
      let reads : ReadsCompressed e (tile_of e (rest_at size image addr)) compr = (read_compressed e (rest_at size image addr) (seen.Compressed compr) at.good at.words at.seen compr).0 refl in
      let end : packed.offset + packed.dsize ≤ 0xFFFF_FFFF = reads.sound.end in
      let (bytes, content, is) = content_some packed (node_content packed) n refl gives in
      subst IsMountable is (with_content_mountable packed bytes (content_long packed bytes content) end)

  plain_mountable : (addr : ℕ) (what : Seen) (n : NodeRef) → IsScannable size image → Contains (sightings e size image) (addr, what) → node_sighted (addr, what) ≡ Some (addr, n) → IsMountable n
  plain_mountable addr what n scannable has is =
      nodes_mountable e size image scannable (addr, n) (Contains-filter_map node_sighted (sightings e size image) (addr, what) (addr, n) has is)

  tile_mountable : (s : ℕ × Seen) (n : NodeRef) → IsScannable size image → Contains (sightings e size image) s → expanded_node e size image s ≡ Some n → IsMountable n
  tile_mountable (addr, seen.Entry entry) n scannable has gives =
      subst IsMountable (same_Some (node.Entry entry) n gives) (plain_mountable addr (seen.Entry entry) (node.Entry entry) scannable has refl)
  tile_mountable (addr, seen.Inode inode) n scannable has gives =
      subst IsMountable (same_Some (node.Inode inode) n gives) (plain_mountable addr (seen.Inode inode) (node.Inode inode) scannable has refl)
  tile_mountable (addr, seen.Compressed compr) n scannable has gives = compressed_mountable addr compr n scannable.0 has gives
  tile_mountable (addr, seen.Marker) n scannable has gives = absurd (none-some n gives)
  tile_mountable (addr, seen.Padding) n scannable has gives = absurd (none-some n gives)
  tile_mountable (addr, seen.Obsolete) n scannable has gives = absurd (none-some n gives)
  tile_mountable (addr, seen.Attribute) n scannable has gives = absurd (none-some n gives)
  tile_mountable (addr, seen.Skippable nodetype) n scannable has gives = absurd (none-some n gives)
  tile_mountable (addr, seen.ReadOnly nodetype) n scannable has gives = absurd (none-some n gives)
  tile_mountable (addr, seen.Incompatible nodetype) n scannable has gives = absurd (none-some n gives)
  tile_mountable (addr, seen.Damaged which) n scannable has gives = absurd (none-some n gives)

  pub placed_mountable : (tiles : List (ℕ × Seen)) → IsScannable size image → ((s : ℕ × Seen) → Contains tiles s → Contains (sightings e size image) s) → AreMountable (placed_nodes e size image tiles)
  placed_mountable tiles scannable sighted n has =
      let (s, there, gives) = Contains-filter_map_from (placed_node e size image) tiles n has in
      tile_mountable s n.1 scannable (sighted s there) (placed_is s n gives).1

  -- ---- without their addresses

  one_without : (addr : ℕ) (o : Option NodeRef) (ns : List (ℕ × NodeRef)) → map (λ n. n.1) (cons_option (option_map {U = ℕ × NodeRef} (λ x. (addr, x)) o) ns) ≡ cons_option o (map (λ n. n.1) ns)
  one_without addr None ns = refl
  one_without addr (Some x) ns = refl

  pub placed_without : (tiles : List (ℕ × Seen)) → without_addresses (placed_nodes e size image tiles) ≡ nodes_of_tiles e size image tiles
  placed_without [] = refl
  placed_without (s ∷ tiles) =
      one_without s.0 (expanded_node e size image s) (placed_nodes e size image tiles)
      ∙ ap (cons_option (expanded_node e size image s)) (placed_without tiles)
