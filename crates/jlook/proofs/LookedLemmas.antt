-- What the tiles of an image are looked at as.
use Rattle.std.proofs.Common.{◌≡◌, ℕ, ◌+◌, ◌<◌, ◌≤◌, Bool, true, false, cond, List, [], ◌∷◌, map, Some, refl, sym, ap, subst, arith, Contains}
use Rattle.std.specs.Prelude.{option_map}
use Rattle.std.proofs.lemmas.Option.{same_Some, none-some}
use Rattle.flashbase.proofs.MemberLemmas.{Contains-map_from, Contains-filter_map, Contains-filter_map_from}
use Rattle.jnode.specs.Compressed.{inode_with}
use Rattle.jnode.specs.Reading.{ReadsCompressed, tile_of}
use Rattle.jnode.specs.declared.node.CompressedNode.{CompressedNode}
use Rattle.jnode.specs.declared.node.Fill.TheVariants.{Zero}
use Rattle.jnode.specs.declared.node.InodeNode.{InodeNode}
use Rattle.jnode.specs.declared.node.NodeRef.{NodeRef}
use Rattle.jnode.specs.declared.node.NodeRef.TheVariants as node
use Rattle.jnode.specs.declared.node.Seen.{Seen}
use Rattle.jnode.specs.declared.node.Seen.TheVariants as seen
use Rattle.jnode.specs.declared.order.Endian.{Endian}
use Rattle.jnode.proofs.ReadingLemmas.{read_compressed}
use Rattle.jscan.specs.Image.{sightings, node_sighted}
use Rattle.jscan.specs.Scans.{IsScannable, forbids_writing}
use Rattle.jscan.proofs.AddressLaws.{sightings_ascend}
use Rattle.jscan.proofs.FitLaws.{nodes_writable}
use Rattle.jexpand.specs.Expanded.{compressed_node_at, expanded_node, rest_at}
use Rattle.jexpand.proofs.SightedLemmas.{sighted_at, size_words}
use Rattle.jmount.specs.MountsNodes.{IsMountable, AreMountable}
use Rattle.jmount.proofs.FaultLemmas.{Rises, rises, ascends_from_splits}
use Rattle.jthrough.specs.View.{placed_node, placed_nodes}
use Rattle.jthrough.proofs.PlacedLemmas.{placed_is, placed_mountable}
use Rattle.jlook.specs.Look.{IsSightedIfPacked}
use Rattle.jlook.specs.Looked.{Wants, zeroed, looked_inode, looked_by, looked_tile, looked_tiles}

-- ---- one tile

pub looked_forbids : (wants : Wants) (packed : CompressedNode) (what : Seen) → forbids_writing (looked_by wants packed what) ≡ forbids_writing what
looked_forbids wants packed (seen.Inode inode) = refl
looked_forbids wants packed (seen.Compressed compr) = by (wants packed.ino)
  where
    by : (b : Bool) → forbids_writing (cond b (seen.Compressed compr) (seen.Inode (inode_with packed Zero))) ≡ forbids_writing (seen.Compressed compr)
    by true = refl
    by false = refl
looked_forbids wants packed _ = refl

-- what is looked at as compressed is sighted so
was_packed : (wants : Wants) (packed : CompressedNode) (what : Seen) (compr : ℕ) → looked_by wants packed what ≡ seen.Compressed compr → what ≡ seen.Compressed compr
was_packed wants packed (seen.Compressed c) compr is = by (wants packed.ino) is
  where
    by : (b : Bool) → cond b (seen.Compressed c) (seen.Inode (inode_with packed Zero)) ≡ seen.Compressed compr → seen.Compressed c ≡ seen.Compressed compr
    by true same = same
    by false same = absurd (cc)
was_packed wants packed (seen.Inode inode) compr is = absurd (cc)
was_packed wants packed (seen.Entry entry) compr is = absurd (cc)
was_packed wants packed (seen.Marker) compr is = absurd (cc)
was_packed wants packed (seen.Padding) compr is = absurd (cc)
was_packed wants packed (seen.Obsolete) compr is = absurd (cc)
was_packed wants packed (seen.Attribute) compr is = absurd (cc)
was_packed wants packed (seen.Skippable nodetype) compr is = absurd (cc)
was_packed wants packed (seen.ReadOnly nodetype) compr is = absurd (cc)
was_packed wants packed (seen.Incompatible nodetype) compr is = absurd (cc)
was_packed wants packed (seen.Damaged which) compr is = absurd (cc)

module _ (wants : Wants) (e : Endian) (size : ℕ) (image : List ℕ) where
  pub packed_sighted : (s : ℕ × Seen) → Contains (sightings e size image) s → IsSightedIfPacked e size image (looked_tile wants e size image s)
  packed_sighted (addr, what) has compr is =
      subst (λ (w : Seen). Contains (sightings e size image) (addr, w)) (was_packed wants (compressed_node_at e size image addr) what compr is) has

  pub looked_packed : (s : ℕ × Seen) → Contains (looked_tiles wants e size image) s → IsSightedIfPacked e size image s
  looked_packed s has =
      let (t, there, same) = Contains-map_from (looked_tile wants e size image) (sightings e size image) s has in
      subst (IsSightedIfPacked e size image) same (packed_sighted t there)

  -- ---- their addresses ascend

  rise_looked : (xs : List (ℕ × Seen)) → Rises xs → Rises (map (looked_tile wants e size image) xs)
  rise_looked [] up = tt
  rise_looked (x ∷ xs) up = (
    λ y has.
        let (z, there, same) = Contains-map_from (looked_tile wants e size image) xs y has in
        subst (λ (a : ℕ). x.0 < a) (ap (λ (t : ℕ × Seen). t.0) same) (up.0 z there),
    rise_looked xs up.1,
  )

  pub looked_rise : Rises (looked_tiles wants e size image)
  looked_rise = rise_looked (sightings e size image) (rises (sightings e size image) (ascends_from_splits (sightings e size image) (sightings_ascend e size image)))

  -- ---- their nodes are as a mount wants them

  -- the node of a tile that is looked at as it is
  sighted_mountable : (s : ℕ × Seen) (n : NodeRef) → IsScannable size image → Contains (sightings e size image) s → expanded_node e size image s ≡ Some n → IsMountable n
  sighted_mountable s n scannable has gives =
      placed_mountable e size image (sightings e size image) scannable (λ t there. there) (s.0, n)
      (Contains-filter_map (placed_node e size image) (sightings e size image) s (s.0, n) has (ap (option_map {U = ℕ × NodeRef} (λ (x : NodeRef). (s.0, x))) gives))

  range_sighted : (addr : ℕ) (inode : InodeNode) → IsScannable size image → Contains (sightings e size image) (addr, seen.Inode inode) → inode.offset + inode.dsize ≤ 0xFFFF_FFFF
  range_sighted addr inode scannable has =
      (nodes_writable e size image (addr, node.Inode inode) scannable.0
      (Contains-filter_map node_sighted (sightings e size image) (addr, seen.Inode inode) (addr, node.Inode inode) has refl)).end

  zeros_mountable : (inode : InodeNode) → inode.offset + inode.dsize ≤ 0xFFFF_FFFF → IsMountable (node.Inode (zeroed inode))
  zeros_mountable inode end = omega (arith, end)

  range_packed : (addr compr : ℕ) → IsScannable size image → Contains (sightings e size image) (addr, seen.Compressed compr)
      → (compressed_node_at e size image addr).offset + (compressed_node_at e size image addr).dsize ≤ 0xFFFF_FFFF
  range_packed addr compr scannable has =
      let at = sighted_at e size image addr (seen.Compressed compr) (size_words size scannable.0) has in
      let reads : ReadsCompressed e (tile_of e (rest_at size image addr)) compr = (read_compressed e (rest_at size image addr) (seen.Compressed compr) at.good at.words at.seen compr).0 refl in
      reads.sound.end

  packed_mountable : (packed : CompressedNode) → packed.offset + packed.dsize ≤ 0xFFFF_FFFF → IsMountable (node.Inode (inode_with packed Zero))
  packed_mountable packed end = omega (arith, end)

  tile_mountable : (s : ℕ × Seen) (n : NodeRef) → IsScannable size image → Contains (sightings e size image) s
      → expanded_node e size image (looked_tile wants e size image s) ≡ Some n → IsMountable n
  tile_mountable (addr, seen.Inode inode) n scannable has gives = subst IsMountable (same_Some (node.Inode (looked_inode wants inode)) n gives) (by (wants inode.ino))
    where
      by : (b : Bool) → IsMountable (node.Inode (cond b inode (zeroed inode)))
      by true = sighted_mountable (addr, seen.Inode inode) (node.Inode inode) scannable has refl
      by false = zeros_mountable inode (range_sighted addr inode scannable has)
  tile_mountable (addr, seen.Compressed compr) n scannable has gives = by (wants packed.ino) gives
    where
      packed : CompressedNode
      packed = compressed_node_at e size image addr

      by : (b : Bool) → expanded_node e size image (addr, cond b (seen.Compressed compr) (seen.Inode (inode_with packed Zero))) ≡ Some n → IsMountable n
      by true is = sighted_mountable (addr, seen.Compressed compr) n scannable has is
      by false is = subst IsMountable (same_Some (node.Inode (inode_with packed Zero)) n is) (packed_mountable packed (range_packed addr compr scannable has))
  tile_mountable (addr, seen.Entry entry) n scannable has gives = sighted_mountable (addr, seen.Entry entry) n scannable has gives
  tile_mountable (addr, seen.Marker) n scannable has gives = absurd (none-some n gives)
  tile_mountable (addr, seen.Padding) n scannable has gives = absurd (none-some n gives)
  tile_mountable (addr, seen.Obsolete) n scannable has gives = absurd (none-some n gives)
  tile_mountable (addr, seen.Attribute) n scannable has gives = absurd (none-some n gives)
  tile_mountable (addr, seen.Skippable nodetype) n scannable has gives = absurd (none-some n gives)
  tile_mountable (addr, seen.ReadOnly nodetype) n scannable has gives = absurd (none-some n gives)
  tile_mountable (addr, seen.Incompatible nodetype) n scannable has gives = absurd (none-some n gives)
  tile_mountable (addr, seen.Damaged which) n scannable has gives = absurd (none-some n gives)

  pub looked_mountable : (tiles : List (ℕ × Seen)) → IsScannable size image → ((s : ℕ × Seen) → Contains tiles s → Contains (looked_tiles wants e size image) s)
      → AreMountable (placed_nodes e size image tiles)
  looked_mountable tiles scannable among n has =
      let (s, there, gives) = Contains-filter_map_from (placed_node e size image) tiles n has in
      let (t, here, same) = Contains-map_from (looked_tile wants e size image) (sightings e size image) s (among s there) in
      tile_mountable t n.1 scannable here (subst (λ (u : ℕ × Seen). expanded_node e size image u ≡ Some n.1) (sym same) (placed_is e size image s n gives).1)
