-- The image of the nodes that matter has just these.
use Rattle.std.proofs.Common.{◌≡◌, ℕ, ◌+◌, ◌*◌, ◌<◌, ◌≤◌, true, List, [], ◌∷◌, ◌++◌, length, map, refl, sym, ap, ap₂, subst, ◌∙◌, arith, inl, inr, None, Some, Contains}
use Rattle.std.specs.Prelude.{IsTrue, filter, filter_map}
use Rattle.std.specs.List.{AllByRecursion, list_any}
use Rattle.std.proofs.lemmas.List.Elements.{Contains-append_left, Contains-append_right, Contains-push}
use Rattle.flashbase.proofs.MemberLemmas.{Contains-filter_from, Contains-filter_map_from}
use Rattle.flashbase.specs.Lists.{below}
use Rattle.jnode.specs.Reading.{seen_of}
use Rattle.jnode.specs.Weak.{is_sound}
use Rattle.jnode.specs.declared.node.NodeRef.{NodeRef}
use Rattle.jnode.specs.declared.node.NodeRef.TheVariants as node
use Rattle.jnode.specs.declared.node.Seen.{Seen}
use Rattle.jnode.specs.declared.node.Seen.TheVariants as seen
use Rattle.jnode.specs.declared.order.Endian.{Endian}
use Rattle.jscan.specs.Image.{is_block_size, sightings, nodes, node_sighted}
use Rattle.jscan.specs.Scans.{findings, forbids_writing}
use Rattle.jmount.specs.Clash.{NoneClash}
use Rattle.jmount.specs.Collected.{without_addresses}
use Rattle.jmount.specs.Mount.{Mount}
use Rattle.jmount.specs.Mounts.{IsSound, IsFaultAt, IsMountOf, plain_nodes, state}
use Rattle.jmount.specs.Tree.{has_bits, directory_bits, object}
use Rattle.jmount.specs.declared.fault.MountFault.{MountFault}
use Rattle.jmount.specs.declared.fault.MountFault.TheVariants as fault
use Rattle.jlog.specs.Places.{place_after, end_after}
use Rattle.jlog.specs.LeftLaws.{tells, sighting_of, RefusesAs}
use Rattle.jlog.specs.Forms.{placed_forms}
use Rattle.jlog.proofs.CodeLemmas.{flash_limits}
use Rattle.jlog.proofs.ImageLemmas.{block_size}
use Rattle.jlog.proofs.SoundLemmas.{sound_from, sound_nodes_are_apart, with_address}
use Rattle.jlog.proofs.TellLemmas.{nodes_told, refuses_as, cons_cases}
use Rattle.jcompact.specs.Compacted.{IsCompactOf}
use Rattle.jcompact.specs.Matters.{Placed, AreWhatMatters, matters}
use Rattle.jcompact.proofs.CompactedLemmas.{compact_objects}
use Rattle.jcollect.specs.Tiles.{tile_in, tiles_at, copied_image, IsSoundTile, IsStorableTile, tile_sighted, IsImageOfTiles}
use Rattle.jcollect.specs.Collecting.{addresses_of, FitBlocks, MayCollect, CollectedIsCompact, CollectedIsWithin, CollectedMounts}
use Rattle.jcollect.specs.Planning.{IsSoundNodeAt, IsFound, ArePlanned, MayPut}
use Rattle.jcollect.proofs.ImageLemmas.{no_sightings, output_has_tiles}
use Rattle.jcollect.proofs.RoomLemmas.{flash_readable}
use Rattle.jcollect.proofs.TileLemmas.{sighted_is_tile}

-- ---- a node of an image and its tile

seen_node : (s : ℕ × Seen) (n : Placed) → node_sighted s ≡ Some n → (is_sound s.1 ≡ true) × (s ≡ sighting_of n)
seen_node (addr, seen.Entry entry) n is = let same : (addr, node.Entry entry) ≡ n = cc in (refl, ap sighting_of same)
seen_node (addr, seen.Inode inode) n is = let same : (addr, node.Inode inode) ≡ n = cc in (refl, ap sighting_of same)
seen_node (addr, _) n is = let no : None ≡ Some n = is in absurd (cc)

record HasTile (e : Endian) (size : ℕ) (image : List ℕ) (n : Placed) : Type 0 where
  tile : IsSoundTile e (tile_in e size image n.0)
  seen : (sighting_of n).1 ≡ seen_of e (tile_in e size image n.0)

sighting_of_is : (a b : ℕ) (x : NodeRef) → (a, (sighting_of (b, x)).1) ≡ sighting_of (a, x)
sighting_of_is a b (node.Entry entry) = refl
sighting_of_is a b (node.Inode inode) = refl

sighting_at : (n : Placed) → (sighting_of n).0 ≡ n.0
sighting_at (addr, node.Entry entry) = refl
sighting_at (addr, node.Inode inode) = refl

node_has_tile : (e : Endian) (size : ℕ) (image : List ℕ) (n : Placed) → IsTrue (is_block_size size) → Contains (nodes e size image) n → HasTile e size image n
node_has_tile e size image n size_is has =
    let it = Contains-filter_map_from node_sighted (sightings e size image) n has in
    let s : ℕ × Seen = it.0 in
    let is = seen_node s n it.2 in
    let at : s.0 ≡ n.0 = ap (λ (x : ℕ × Seen). x.0) is.1 ∙ sighting_at n in
    let got = sighted_is_tile e size s.0 image s.1 size_is it.1 is.0 in
    record {
      tile = subst (λ (a : ℕ). IsSoundTile e (tile_in e size image a)) at got.0;
      seen = sym (ap (λ (x : ℕ × Seen). x.1) is.1) ∙ (got.1 ∙ ap (λ (a : ℕ). seen_of e (tile_in e size image a)) at);
    }

node_at : (e : Endian) (size : ℕ) (image : List ℕ) (n : Placed) → Contains (nodes e size image) n → IsSoundNodeAt e size image n.0
node_at e size image n has =
    let it = Contains-filter_map_from node_sighted (sightings e size image) n has in
    let s : ℕ × Seen = it.0 in
    let is = seen_node s n it.2 in
    let at : s.0 ≡ n.0 = ap (λ (x : ℕ × Seen). x.0) is.1 ∙ sighting_at n in
    (s.1, subst (λ (a : ℕ). Contains (sightings e size image) (a, s.1)) at it.1, is.0)

-- ---- so each of some of the nodes

pub all_from : {X : Type 0} (P : X → Type 0) (xs : List X) → ((x : X) → Contains xs x → P x) → AllByRecursion P xs
all_from P [] each = tt
all_from P (x ∷ xs) each = (each x (Contains-append_left (x ∷ []) xs x (Contains-push [] x)), all_from P xs (λ y has. each y (Contains-append_right (x ∷ []) xs y has)))

tiles_are_sound : (e : Endian) (size : ℕ) (image : List ℕ) (ns : List Placed) → AllByRecursion (HasTile e size image) ns
    → AllByRecursion (λ (addr : ℕ). 12 + length (tile_in e size image addr) ≤ size) (addresses_of ns)
    → AllByRecursion (IsStorableTile e size) (tiles_at e size image (addresses_of ns))
tiles_are_sound e size image [] are room = tt
tiles_are_sound e size image (n ∷ ns) are room = (record { is = are.0.tile; room = room.0 }, tiles_are_sound e size image ns are.1 room.1)

-- ---- the nodes of the image of their tiles

abbrev copies : Endian → ℕ → List ℕ → ℕ → List Placed → List Placed
copies e size image from [] = []
copies e size image from (n ∷ ns) =
    (place_after size from (length (tile_in e size image n.0)), n.1) ∷ copies e size image (end_after size from (length (tile_in e size image n.0))) ns

copies_sighted : (e : Endian) (size : ℕ) (image : List ℕ) (from : ℕ) (ns : List Placed) → AllByRecursion (HasTile e size image) ns
    → map (tile_sighted e) (placed_forms size from (tiles_at e size image (addresses_of ns))) ≡ map sighting_of (copies e size image from ns)
copies_sighted e size image from [] are = refl
copies_sighted e size image from (n ∷ ns) are =
    let at : ℕ = place_after size from (length (tile_in e size image n.0)) in
    ap₂ (λ (s : ℕ × Seen) (ss : List (ℕ × Seen)). s ∷ ss)
    (ap (λ (s : Seen). (at, s)) (sym are.0.seen) ∙ sighting_of_is at n.0 n.1)
    (copies_sighted e size image (end_after size from (length (tile_in e size image n.0))) ns are.1)

copies_are : (e : Endian) (size : ℕ) (image : List ℕ) (from : ℕ) (ns : List Placed) → without_addresses (copies e size image from ns) ≡ without_addresses ns
copies_are e size image from [] = refl
copies_are e size image from (n ∷ ns) = ap (λ (l : List NodeRef). n.1 ∷ l) (copies_are e size image (end_after size from (length (tile_in e size image n.0))) ns)

-- ---- the whole

record Collects (e : Endian) (size blocks : ℕ) (image compact : List ℕ) (kept : List Placed) : Type 0 where
  within : length compact ≤ blocks * size
  nodes : plain_nodes e size compact ≡ without_addresses kept
  refuses : RefusesAs e size [] compact
  clean : findings e size compact ≡ []

collects : (e : Endian) (size blocks : ℕ) (image : List ℕ) (kept : List Placed) → IsTrue (is_block_size size) → ((n : Placed) → Contains kept n → Contains (nodes e size image) n)
    → FitBlocks e size blocks image (addresses_of kept) → Collects e size blocks image (copied_image e size image (addresses_of kept)) kept
collects e size blocks image kept size_is part room =
    let some : 0 < size = omega (arith, (block_size size size_is).least) in
    let compact : List ℕ = copied_image e size image (addresses_of kept) in
    let are : AllByRecursion (HasTile e size image) kept = all_from (HasTile e size image) kept (λ n has. node_has_tile e size image n size_is (part n has)) in
    let out : IsImageOfTiles e size blocks (tiles_at e size image (addresses_of kept)) compact =
    output_has_tiles e size blocks (tiles_at e size image (addresses_of kept)) size_is (tiles_are_sound e size image kept are room.each) room.room in
    let new : List Placed = copies e size image 0 kept in
    let same : filter tells (sightings e size compact) ≡ filter tells (sightings e size []) ++ map sighting_of new =
    out.has.sighted ∙ (copies_sighted e size image 0 kept are ∙ ap (λ (ss : List (ℕ × Seen)). filter tells ss ++ map sighting_of new) (sym (no_sightings e size some))) in
    let none : nodes e size [] ≡ [] = ap (filter_map node_sighted) (no_sightings e size some) in
    record {
      within = out.within;
      nodes = ap without_addresses (nodes_told e size [] compact new same ∙ ap (λ (ns : List Placed). ns ++ new) none) ∙ copies_are e size image 0 kept;
      refuses = refuses_as e size [] compact new same;
      clean = out.has.clean;
    }

pub part_of : (ns kept : List Placed) → AreWhatMatters ns kept → (n : Placed) → Contains kept n → Contains ns n
part_of ns kept matter n has = (Contains-filter_from (matters ns matter.0) ns n (subst (λ (l : List Placed). Contains l n) matter.2 has)).0

collected : (e : Endian) (size blocks : ℕ) (image : List ℕ) (kept : List Placed) → MayCollect e size blocks image kept
    → Collects e size blocks image (copied_image e size image (addresses_of kept)) kept
collected e size blocks image kept may = collects e size blocks image kept may.sound.0.0 (part_of (nodes e size image) kept may.matter) may.room

pub collected_is_compact : CollectedIsCompact
collected_is_compact e size blocks image kept may =
    let it = collected e size blocks image kept may in
    record { sound = may.sound; kept = kept; matter = may.matter; same = it.nodes; clean = it.clean }

pub collected_is_within : CollectedIsWithin
collected_is_within e size blocks image kept may =
    let some : 0 < size = omega (arith, (block_size size may.sound.0.0).least) in
    let it = collected e size blocks image kept may in
    record { within = it.within; writable = it.refuses.read_only ∙ ap (list_any (λ (s : ℕ × Seen). forbids_writing s.1)) (no_sightings e size some) }

-- ---- it mounts

none_in : {X : Type 0} (x : X) → Contains [] x → ⊥
none_in x has = omega (arith, has.1)

no_bytes_sound : (e : Endian) (size : ℕ) → IsTrue (is_block_size size) → 0 < size → IsSound e size []
no_bytes_sound e size size_is some = ((size_is, omega arith), none)
  where
    none_seen : (s : ℕ × Seen) → Contains (sightings e size []) s → ⊥
    none_seen s has = none_in s (subst (λ (ss : List (ℕ × Seen)). Contains ss s) (no_sightings e size some) has)

    none : (at : ℕ) (f : MountFault) → IsFaultAt e size [] at f → ⊥
    none at (fault.Incompatible addr nodetype) stands = none_seen _ stands.1
    none at (fault.Compressed addr compr) stands = none_seen _ stands.1
    none at (fault.Clash addr) (same, (node, below, other, there, under, less, clash)) =
        none_in (addr, node) (subst (λ (ns : List Placed). Contains ns (addr, node)) (ap (filter_map node_sighted) (no_sightings e size some)) there)
    none at fault.BlockSize stands = stands
    none at fault.TooLarge stands = stands
    none at fault.RootKind stands = stands
    none at fault.OutOfMemory stands = stands

plain_has : (ns : List Placed) (n : Placed) → Contains ns n → Contains (without_addresses ns) n.1
plain_has [] n has = absurd (omega (arith, has.1))
plain_has (m ∷ ns) n has = elim (cons_cases m ns n has) [
  | inl same ↦ subst (λ (x : NodeRef). Contains (m.1 ∷ without_addresses ns) x) (ap (λ (p : Placed). p.1) same) (Contains-append_left (m.1 ∷ []) (without_addresses ns) m.1 (Contains-push [] m.1))
  | inr later ↦ Contains-append_right (m.1 ∷ []) (without_addresses ns) n.1 (plain_has ns n later)
]

-- a part of nodes that do not clash
pub part_apart : (ns kept : List Placed) → ((n : Placed) → Contains kept n → Contains ns n) → NoneClash (without_addresses ns) → NoneClash (without_addresses kept)
part_apart ns kept part apart a b has_a has_b clash =
    let one = with_address kept a has_a in
    let two = with_address kept b has_b in
    apart a b (plain_has ns (one.0, a) (part (one.0, a) one.1)) (plain_has ns (two.0, b) (part (two.0, b) two.1)) clash

pub collected_mounts : CollectedMounts
collected_mounts e size blocks image kept s may small mounts =
    let some : 0 < size = omega (arith, (block_size size may.sound.0.0).least) in
    let compact : List ℕ = copied_image e size image (addresses_of kept) in
    let it = collected e size blocks image kept may in
    let apart : NoneClash (without_addresses kept) =
    part_apart (nodes e size image) kept (part_of (nodes e size image) kept may.matter) (sound_nodes_are_apart e size image may.sound) in
    let is : IsCompactOf e size image compact = collected_is_compact e size blocks image kept may in
    let root : object (state e size compact) 1 ≡ object (state e size image) 1 = compact_objects e size image compact is 1 ([], refl) in
    record {
      sound = sound_from e size [] compact (no_bytes_sound e size may.sound.0.0 some) it.refuses (subst NoneClash (sym it.nodes) apart) (omega (arith, it.within, small));
      root = ap (has_bits directory_bits) root ∙ mounts.root;
      same = refl;
    }

-- ---- what is found and planned

each_at : (e : Endian) (size : ℕ) (image : List ℕ) (ns : List Placed) → AllByRecursion (λ (n : Placed). IsSoundNodeAt e size image n.0) ns → AllByRecursion (IsSoundNodeAt e size image) (addresses_of ns)
each_at e size image [] all = tt
each_at e size image (n ∷ ns) all = (all.0, each_at e size image ns all.1)

-- of some nodes, at each of which a sound one is sighted
pub found_at : (ns : List Placed) (e : Endian) (size : ℕ) (image addresses : List ℕ) (count : ℕ) → IsFound ns addresses count
    → ((n : Placed) → Contains ns n → IsSoundNodeAt e size image n.0) → AllByRecursion (IsSoundNodeAt e size image) addresses
found_at ns e size image addresses count found at =
    subst (AllByRecursion (IsSoundNodeAt e size image)) (sym found.addresses_are)
    (each_at e size image found.kept
    (all_from (λ (n : Placed). IsSoundNodeAt e size image n.0) found.kept (λ n has. at n (part_of ns found.kept found.matter n has))))

pub found_nodes : (e : Endian) (size : ℕ) (image addresses : List ℕ) (count : ℕ) → IsFound (nodes e size image) addresses count → AllByRecursion (IsSoundNodeAt e size image) addresses
found_nodes e size image addresses count found = found_at (nodes e size image) e size image addresses count found (node_at e size image)

pub may_put : (ns : List Placed) (e : Endian) (size blocks : ℕ) (m : Mount) (addresses : List ℕ) (count bytes : ℕ) → ArePlanned ns e size blocks m addresses count bytes
    → AllByRecursion (IsSoundNodeAt e size m.image) addresses → MayPut e size m.image addresses
may_put ns e size blocks m addresses count bytes plan at = record {
  readable = flash_readable size blocks plan.flash;
  nodes = at;
  blocks = blocks;
  small = (flash_limits size blocks plan.flash).small;
  room = plan.room;
}

pub planned_may : (e : Endian) (size blocks : ℕ) (m : Mount) (addresses : List ℕ) (count bytes : ℕ) → ArePlanned (nodes e size m.image) e size blocks m addresses count bytes
    → MayPut e size m.image addresses
planned_may e size blocks m addresses count bytes plan =
    may_put (nodes e size m.image) e size blocks m addresses count bytes plan (found_nodes e size m.image addresses count plan.found)

pub planned_is_compact : (e : Endian) (size blocks : ℕ) (m : Mount) (addresses : List ℕ) (count bytes : ℕ) → IsMountOf e size m → ArePlanned (nodes e size m.image) e size blocks m addresses count bytes
    → IsCompactOf e size m.image (copied_image e size m.image addresses)
planned_is_compact e size blocks m addresses count bytes mount plan =
    let same : addresses_of plan.found.kept ≡ addresses = sym plan.found.addresses_are in
    subst (λ (a : List ℕ). IsCompactOf e size m.image (copied_image e size m.image a)) same
    (collected_is_compact e size blocks m.image plan.found.kept (record {
      sound = mount.mounts.sound;
      matter = plan.found.matter;
      room = subst (FitBlocks e size blocks m.image) plan.found.addresses_are plan.room;
    }))
