-- The image of the nodes that matter through compression shows the same tree, and mounts through.
use Rattle.std.proofs.Common.{◌≡◌, ℕ, ◌+◌, ◌*◌, ◌≤◌, Bool, true, false, cond, List, [], ◌∷◌, ◌++◌, length, map, refl, sym, ap, ap₂, subst, ◌∙◌, arith, inl, inr, Option, None, Some, option_map, Contains, length-append}
use Rattle.std.specs.Prelude.{IsTrue, filter, filter_map}
use Rattle.std.specs.List.{AllByRecursion, cons_option, flat_map}
use Rattle.std.specs.Option.{is_none, option_or}
use Rattle.std.proofs.lemmas.Bool.{cases_Bool}
use Rattle.flashbase.proofs.MemberLemmas.{Contains-here, Contains-there, Contains-filter_map_from}
use Rattle.jnode.specs.Compressed.{compressed_of}
use Rattle.jnode.specs.Reading.{seen_of}
use Rattle.jnode.specs.Weak.{is_sound}
use Rattle.jnode.specs.declared.node.CompressedNode.{CompressedNode}
use Rattle.jnode.specs.declared.node.NodeRef.{NodeRef}
use Rattle.jnode.specs.declared.node.Seen.{Seen}
use Rattle.jnode.specs.declared.node.Seen.TheVariants as seen
use Rattle.jnode.specs.declared.order.Endian.{Endian}
use Rattle.jcompr.specs.Content.{method_of}
use Rattle.jscan.specs.Image.{is_block_size, greatest_image, sightings}
use Rattle.jscan.specs.Scans.{findings}
use Rattle.jexpand.specs.Expanded.{expanded_node, expanded_nodes, node_content, unpacked_bytes}
use Rattle.jexpand.specs.Expanded as expanded
use Rattle.jexpand.specs.declared.fault.ConvertFault.{ConvertFault}
use Rattle.jexpand.specs.declared.fault.ConvertFault.TheVariants as fault
use Rattle.jmount.specs.Clash.{NoneClash}
use Rattle.jmount.specs.Collected.{without_addresses}
use Rattle.jmount.specs.Find.{find, path_names}
use Rattle.jmount.specs.Mount.{Mount}
use Rattle.jmount.specs.StateOf.{state_of}
use Rattle.jmount.specs.Tree.{State, has_bits, directory_bits, is_directory, object}
use Rattle.jmount.proofs.NumbersLemmas.{object-state_of}
use Rattle.jview.specs.Through.{node_by, content_by, fault_by, first_fault, greatest_contents, MountsThroughAs}
use Rattle.jthrough.specs.Addressed.{addressed_nodes}
use Rattle.jthrough.specs.View.{placed_node, placed_nodes}
use Rattle.jthrough.proofs.AddressedLemmas.{addressed_are_expanded, none_among}
use Rattle.jthrough.proofs.PlacedLemmas.{placed_is}
use Rattle.jlog.specs.HeadlineThrough.{state_through}
use Rattle.jlog.proofs.CodeLemmas.{flash_limits}
use Rattle.jcompact.specs.Matters.{Placed, AreWhatMatters, NamesLeadTo, matters}
use Rattle.jcompact.proofs.ObjectLemmas.{object_kept}
use Rattle.jcompact.proofs.PathLemmas.{find_same}
use Rattle.jcollect.specs.Collecting.{addresses_of, FitBlocks}
use Rattle.jcollect.specs.Planning.{IsSoundNodeAt, IsFound, ArePlanned, MayPut}
use Rattle.jcollect.specs.PlanningThrough.{IsHeldThrough, ShowsCompact}
use Rattle.jcollect.specs.Tiles.{tile_in, tiles_at, copied_image}
use Rattle.jcollect.specs.Through.{tile_node, content_of_tile, IsReadTile, ShowsTiles, MayCollectThrough, CollectedThroughIsCompact, CollectedMountsThrough}
use Rattle.jcollect.proofs.CollectLemmas.{all_from, part_apart, part_of, found_at, may_put}
use Rattle.jcollect.proofs.ImageLemmas.{output_has_tiles}
use Rattle.jcollect.proofs.NodeLemmas.{nodes_storable}
use Rattle.jcollect.proofs.ThroughLemmas.{node_is, content_is, copied_expands}
use Rattle.jcollect.proofs.TileLemmas.{sighted_is_tile}

-- ---- a fault does not depend on the address

judged : ℕ → ℕ → Bool → Bool → Bool → Option ConvertFault
judged addr compr unread fits empty =
    cond unread (Some (fault.Compressed addr compr)) (option_or (cond fits None (Some (fault.TooLong addr))) (cond empty (Some (fault.Data addr)) None))

judged_moves : (a b compr : ℕ) (unread fits empty : Bool) → judged a compr unread fits empty ≡ None → judged b compr unread fits empty ≡ None
unfolding judged
judged_moves a b compr true fits empty none = absurd (cc)
judged_moves a b compr false false empty none = absurd (cc)
judged_moves a b compr false true true none = absurd (cc)
judged_moves a b compr false true false none = refl

fault_moves : (size a b : ℕ) (packed : CompressedNode) (s : Seen) → fault_by size a packed s ≡ None → fault_by size b packed s ≡ None
unfolding judged
fault_moves size a b packed (seen.Incompatible t) none = absurd (cc)
fault_moves size a b packed (seen.Compressed compr) none =
    judged_moves a b packed.compr (is_none (method_of packed.compr)) _ (is_none (node_content packed)) none
fault_moves size a b packed _ none = refl

-- ---- a node with its tile

gives_sound : (e : Endian) (size : ℕ) (image : List ℕ) (s : ℕ × Seen) (n : NodeRef) → expanded_node e size image s ≡ Some n → is_sound s.1 ≡ true
gives_sound e size image (addr, seen.Entry entry) n is = refl
gives_sound e size image (addr, seen.Inode inode) n is = refl
gives_sound e size image (addr, seen.Compressed compr) n is = refl
gives_sound e size image (addr, _) n is = let no : None ≡ Some n = is in absurd (cc)

record HasNode (e : Endian) (size : ℕ) (image : List ℕ) (s : ℕ × Seen) (n : NodeRef) : Type 0 where
  at : IsSoundNodeAt e size image s.0
  seen : s.1 ≡ seen_of e (tile_in e size image s.0)
  gives : tile_node e (tile_in e size image s.0) ≡ Some n

has_node : (e : Endian) (size : ℕ) (image : List ℕ) (s : ℕ × Seen) (n : NodeRef) → IsTrue (is_block_size size) → Contains (sightings e size image) s → expanded_node e size image s ≡ Some n
    → HasNode e size image s n
has_node e size image s n size_is has is =
    let sound : is_sound s.1 ≡ true = gives_sound e size image s n is in
    let got = sighted_is_tile e size s.0 image s.1 size_is has sound in
    let tile : List ℕ = tile_in e size image s.0 in
    record {
      at = (s.1, has, sound);
      seen = got.1;
      gives = ap (node_by (compressed_of e tile)) (sym got.1) ∙ (sym (node_is e size image s) ∙ is);
    }

record KeptNode (e : Endian) (size : ℕ) (image : List ℕ) (n : Placed) : Type 0 where
  at : IsSoundNodeAt e size image n.0
  gives : tile_node e (tile_in e size image n.0) ≡ Some n.1
  read : IsReadTile e size (tile_in e size image n.0)

kept_node : (e : Endian) (size : ℕ) (image : List ℕ) (n : Placed) → IsTrue (is_block_size size) → first_fault e size image ≡ None → Contains (addressed_nodes e size image) n → KeptNode e size image n
kept_node e size image n size_is none has =
    let it = Contains-filter_map_from (placed_node e size image) (sightings e size image) n has in
    let s : ℕ × Seen = it.0 in
    let is = placed_is e size image s n it.2 in
    let got = has_node e size image s n.1 size_is it.1 is.1 in
    let no : fault_by size s.0 (compressed_of e (tile_in e size image s.0)) s.1 ≡ None = none_among e size image (sightings e size image) s none it.1 in
    record {
      at = subst (IsSoundNodeAt e size image) is.0 got.at;
      gives = subst (λ (a : ℕ). tile_node e (tile_in e size image a) ≡ Some n.1) is.0 got.gives;
      read = subst (λ (a : ℕ). IsReadTile e size (tile_in e size image a)) is.0 (λ addr.
          subst (λ (x : Seen). fault_by size addr (compressed_of e (tile_in e size image s.0)) x ≡ None) got.seen
          (fault_moves size s.0 addr (compressed_of e (tile_in e size image s.0)) s.1 no));
    }

-- ---- those that are kept

kept_at : (e : Endian) (size : ℕ) (image : List ℕ) (ns : List Placed) → AllByRecursion (KeptNode e size image) ns → AllByRecursion (IsSoundNodeAt e size image) (addresses_of ns)
kept_at e size image [] all = tt
kept_at e size image (n ∷ ns) all = (all.0.at, kept_at e size image ns all.1)

kept_read : (e : Endian) (size : ℕ) (image : List ℕ) (ns : List Placed) → AllByRecursion (KeptNode e size image) ns
    → AllByRecursion (IsReadTile e size) (tiles_at e size image (addresses_of ns))
kept_read e size image [] all = tt
kept_read e size image (n ∷ ns) all = (all.0.read, kept_read e size image ns all.1)

kept_nodes : (e : Endian) (size : ℕ) (image : List ℕ) (ns : List Placed) → AllByRecursion (KeptNode e size image) ns
    → filter_map (tile_node e) (tiles_at e size image (addresses_of ns)) ≡ without_addresses ns
kept_nodes e size image [] all = refl
kept_nodes e size image (n ∷ ns) all = ap₂ (λ (o : Option NodeRef) (l : List NodeRef). cons_option o l) all.0.gives (kept_nodes e size image ns all.1)

-- Of an image that nothing but a clash refuses some nodes of which none clash: those of them that
-- matter, for which there is room.
pub record MayGather (e : Endian) (size blocks : ℕ) (image : List ℕ) (ns kept : List Placed) : Type 0 where
  pub size_is : IsTrue (is_block_size size)
  pub none : first_fault e size image ≡ None
  pub among : (n : Placed) → Contains ns n → Contains (addressed_nodes e size image) n
  pub apart : NoneClash (without_addresses ns)
  pub matter : AreWhatMatters ns kept
  pub room : FitBlocks e size blocks image (addresses_of kept)

may_gather_all : (e : Endian) (size blocks : ℕ) (image : List ℕ) (kept : List Placed) → MayCollectThrough e size blocks image kept
    → MayGather e size blocks image (addressed_nodes e size image) kept
may_gather_all e size blocks image kept may = record {
  size_is = may.sound.scannable.0;
  none = may.sound.none;
  among = λ n has. has;
  apart = subst NoneClash (sym (addressed_are_expanded e size image)) may.sound.apart;
  matter = may.matter;
  room = may.room;
}

record Through (e : Endian) (size blocks : ℕ) (image compact : List ℕ) (ns kept : List Placed) : Type 0 where
  part : (n : Placed) → Contains kept n → Contains ns n
  within : length compact ≤ blocks * size
  has : ShowsTiles e size compact (tiles_at e size image (addresses_of kept))
  same : expanded_nodes e size compact ≡ without_addresses kept

through : (e : Endian) (size blocks : ℕ) (image : List ℕ) (ns kept : List Placed) → MayGather e size blocks image ns kept
    → Through e size blocks image (copied_image e size image (addresses_of kept)) ns kept
through e size blocks image ns kept may =
    let part : (n : Placed) → Contains kept n → Contains ns n = part_of ns kept may.matter in
    let all : AllByRecursion (KeptNode e size image) kept = all_from (KeptNode e size image) kept (λ n has. kept_node e size image n may.size_is may.none (may.among n (part n has))) in
    let nodes = kept_at e size image kept all in
    let has = copied_expands e size blocks image (addresses_of kept) may.size_is nodes may.room (kept_read e size image kept all) in
    record {
      part = part;
      within = (output_has_tiles e size blocks (tiles_at e size image (addresses_of kept)) may.size_is (nodes_storable e size image (addresses_of kept) may.size_is nodes may.room.each) may.room.room).within;
      has = has;
      same = has.nodes ∙ kept_nodes e size image kept all;
    }

-- An image has just these nodes of others that matter, and shows their tree.
pub record IsGathered (e : Endian) (size : ℕ) (compact : List ℕ) (ns kept : List Placed) : Type 0 where
  pub same : expanded_nodes e size compact ≡ without_addresses kept
  pub clean : findings e size compact ≡ []
  pub paths : (text : List ℕ) → find (state_through e size compact) text ≡ find (state_of (without_addresses ns)) text
  pub objects : (i : ℕ) → NamesLeadTo (state_of (without_addresses ns)) i → object (state_through e size compact) i ≡ object (state_of (without_addresses ns)) i

pub gathered : (e : Endian) (size blocks : ℕ) (image : List ℕ) (ns kept : List Placed) → MayGather e size blocks image ns kept
    → IsGathered e size (copied_image e size image (addresses_of kept)) ns kept
gathered e size blocks image ns kept may =
    let it = through e size blocks image ns kept may in
    let compact : List ℕ = copied_image e size image (addresses_of kept) in
    let new : state_through e size compact ≡ state_of (without_addresses kept) = ap state_of it.same in
    record {
      same = it.same;
      clean = it.has.clean;
      paths = λ text. ap (λ (s : State). find s text) new ∙ find_same ns kept may.matter.0 may.apart may.matter.1 may.matter.2 (path_names text);
      objects = λ i leads. ap (λ (s : State). object s i) new
          ∙ (object-state_of (without_addresses kept) i
          ∙ (object_kept ns kept may.matter.0 may.apart may.matter.2 i ((may.matter.1 i).1 leads)
          ∙ sym (object-state_of (without_addresses ns) i)));
    }

pub collected_through_is_compact : CollectedThroughIsCompact
collected_through_is_compact e size blocks image kept may =
    let ns : List Placed = addressed_nodes e size image in
    let it = gathered e size blocks image ns kept (may_gather_all e size blocks image kept may) in
    let old : state_of (without_addresses ns) ≡ state_through e size image = ap state_of (addressed_are_expanded e size image) in
    record {
      same = it.same;
      clean = it.clean;
      paths = λ text. it.paths text ∙ ap (λ (s : State). find s text) old;
      objects = λ i leads. it.objects i (subst (λ (s : State). NamesLeadTo s i) (sym old) leads) ∙ ap (λ (s : State). object s i) old;
    }

-- ---- their contents are no more than those of all

pub fewer : (f : List ℕ → List ℕ) (g : ℕ → List ℕ) (p : Placed → Bool) (ns : List Placed)
    → length (flat_map f (map g (addresses_of (filter p ns)))) ≤ length (flat_map f (map g (addresses_of ns)))
fewer f g p [] = omega arith
fewer f g p (n ∷ ns) =
    let rest = fewer f g p ns in
    let own : List ℕ = f (g n.0) in
    let all : length (own ++ flat_map f (map g (addresses_of ns))) ≡ length own + length (flat_map f (map g (addresses_of ns))) = length-append own (flat_map f (map g (addresses_of ns))) in
    elim (cases_Bool (p n)) [
      | inl stays ↦
          let some : length (own ++ flat_map f (map g (addresses_of (filter p ns)))) ≡ length own + length (flat_map f (map g (addresses_of (filter p ns)))) =
          length-append own (flat_map f (map g (addresses_of (filter p ns)))) in
          rw stays (omega (arith, rest, all, some))
      | inr goes ↦ rw goes (omega (arith, rest, all))
    ]

content_at : (e : Endian) (size : ℕ) (image : List ℕ) (s : ℕ × Seen) (n : NodeRef) → IsTrue (is_block_size size) → Contains (sightings e size image) s → expanded_node e size image s ≡ Some n
    → content_of_tile e (tile_in e size image s.0) ≡ expanded.tile_content e size image s
content_at e size image s n size_is has is =
    let got = has_node e size image s n size_is has is in
    ap (content_by (compressed_of e (tile_in e size image s.0))) (sym got.seen) ∙ sym (content_is e size image s)

one_content : (e : Endian) (size : ℕ) (image : List ℕ) (s : ℕ × Seen) (rest : List Placed) (others : List ℕ) (o : Option NodeRef) → IsTrue (is_block_size size)
    → Contains (sightings e size image) s → expanded_node e size image s ≡ o → length (flat_map (content_of_tile e) (tiles_at e size image (addresses_of rest))) ≤ length others
    → length (flat_map (content_of_tile e) (tiles_at e size image (addresses_of (cons_option (option_map (λ n. (s.0, n)) o) rest)))) ≤ length (expanded.tile_content e size image s ++ others)
one_content e size image s rest others None size_is has is fewer = omega (arith, fewer, length-append (expanded.tile_content e size image s) others)
one_content e size image s rest others (Some n) size_is has is fewer =
    let own : List ℕ = expanded.tile_content e size image s in
    let before : List ℕ = flat_map (content_of_tile e) (tiles_at e size image (addresses_of rest)) in
    let tile : List ℕ = content_of_tile e (tile_in e size image s.0) in
    let one : length tile ≡ length own = ap (λ (xs : List ℕ). length xs) (content_at e size image s n size_is has is) in
    let sum : length (tile ++ before) ≡ length tile + length before = length-append tile before in
    omega (arith, fewer, length-append own others, one, sum)

pub placed_contents : (e : Endian) (size : ℕ) (image : List ℕ) (ss : List (ℕ × Seen)) → IsTrue (is_block_size size) → ((s : ℕ × Seen) → Contains ss s → Contains (sightings e size image) s)
    → length (flat_map (content_of_tile e) (tiles_at e size image (addresses_of (placed_nodes e size image ss)))) ≤ length (flat_map (expanded.tile_content e size image) ss)
placed_contents e size image [] size_is among = omega arith
placed_contents e size image (s ∷ ss) size_is among =
    one_content e size image s (placed_nodes e size image ss) (flat_map (expanded.tile_content e size image) ss) (expanded_node e size image s) size_is
    (among s (Contains-here s ss)) refl (placed_contents e size image ss size_is (λ t has. among t (Contains-there s ss t has)))

-- ---- it mounts through

pub gathered_mounts : (e : Endian) (size blocks : ℕ) (image : List ℕ) (ns kept : List Placed) → MayGather e size blocks image ns kept → blocks * size ≤ greatest_image
    → length (flat_map (content_of_tile e) (tiles_at e size image (addresses_of ns))) ≤ greatest_contents → IsTrue (is_directory (state_of (without_addresses ns)) 1)
    → let compact = copied_image e size image (addresses_of kept) in
    MountsThroughAs e size compact (state_through e size compact)
gathered_mounts e size blocks image ns kept may small held mounts =
    let it = through e size blocks image ns kept may in
    let compact : List ℕ = copied_image e size image (addresses_of kept) in
    let is = gathered e size blocks image ns kept may in
    let root : object (state_through e size compact) 1 ≡ object (state_of (without_addresses ns)) 1 = is.objects 1 ([], refl) in
    let some : length (flat_map (content_of_tile e) (tiles_at e size image (addresses_of kept))) ≤ length (flat_map (content_of_tile e) (tiles_at e size image (addresses_of ns))) =
    subst (λ (l : List Placed). length (flat_map (content_of_tile e) (tiles_at e size image (addresses_of l))) ≤ length (flat_map (content_of_tile e) (tiles_at e size image (addresses_of ns))))
    (sym may.matter.2) (fewer (content_of_tile e) (tile_in e size image) (matters ns may.matter.0) ns) in
    let own : length (unpacked_bytes e size compact) ≡ length (flat_map (content_of_tile e) (tiles_at e size image (addresses_of kept))) = ap (λ (xs : List ℕ). length xs) it.has.contents in
    record {
      sound = record {
        scannable = (may.size_is, omega (arith, it.within, small));
        none = it.has.fault;
        contents = omega (arith, some, own, held);
        apart = subst NoneClash (sym it.same) (part_apart ns kept it.part may.apart);
      };
      root = ap (has_bits directory_bits) root ∙ mounts;
      same = refl;
    }

-- the contents of all nodes
pub addressed_contents : (e : Endian) (size : ℕ) (image : List ℕ) → IsTrue (is_block_size size) → length (unpacked_bytes e size image) ≤ greatest_contents
    → length (flat_map (content_of_tile e) (tiles_at e size image (addresses_of (addressed_nodes e size image)))) ≤ greatest_contents
addressed_contents e size image size_is few =
    let all = placed_contents e size image (sightings e size image) size_is (λ t has. has) in
    omega (arith, all, few)

pub collected_mounts_through : CollectedMountsThrough
collected_mounts_through e size blocks image kept s may small mounts =
    let ns : List Placed = addressed_nodes e size image in
    gathered_mounts e size blocks image ns kept (may_gather_all e size blocks image kept may) small
    (addressed_contents e size image may.sound.scannable.0 may.sound.contents)
    (subst (λ (l : List NodeRef). IsTrue (is_directory (state_of l) 1)) (sym (addressed_are_expanded e size image)) mounts.root)

-- ---- what is found and planned

pub addressed_at : (e : Endian) (size : ℕ) (image : List ℕ) (n : Placed) → Contains (addressed_nodes e size image) n → IsSoundNodeAt e size image n.0
addressed_at e size image n has =
    let it = Contains-filter_map_from (placed_node e size image) (sightings e size image) n has in
    let s : ℕ × Seen = it.0 in
    let is = placed_is e size image s n it.2 in
    (s.1, subst (λ (a : ℕ). Contains (sightings e size image) (a, s.1)) is.0 it.1, gives_sound e size image s n.1 is.1)

pub found_through : (e : Endian) (size : ℕ) (image addresses : List ℕ) (count : ℕ) → IsFound (addressed_nodes e size image) addresses count
    → AllByRecursion (IsSoundNodeAt e size image) addresses
found_through e size image addresses count found = found_at (addressed_nodes e size image) e size image addresses count found (addressed_at e size image)

pub planned_through : (e : Endian) (size blocks : ℕ) (m : Mount) (addresses : List ℕ) (count bytes : ℕ) → ArePlanned (addressed_nodes e size m.image) e size blocks m addresses count bytes
    → MayPut e size m.image addresses
planned_through e size blocks m addresses count bytes plan =
    may_put (addressed_nodes e size m.image) e size blocks m addresses count bytes plan (found_through e size m.image addresses count plan.found)

pub planned_shows : (e : Endian) (size blocks : ℕ) (contents : List ℕ) (m : Mount) (addresses : List ℕ) (count bytes : ℕ) → IsHeldThrough e size contents m
    → ArePlanned (addressed_nodes e size m.image) e size blocks m addresses count bytes → ShowsCompact e size m.image (copied_image e size m.image addresses)
planned_shows e size blocks contents m addresses count bytes held plan =
    let kept : List Placed = plan.found.kept in
    let same : addresses_of kept ≡ addresses = sym plan.found.addresses_are in
    let may : MayCollectThrough e size blocks m.image kept = record {
      sound = held.mount.mounts.sound;
      matter = plan.found.matter;
      room = subst (FitBlocks e size blocks m.image) plan.found.addresses_are plan.room;
    } in
    let small : blocks * size ≤ greatest_image = (flash_limits size blocks plan.flash).small in
    subst (λ (a : List ℕ). ShowsCompact e size m.image (copied_image e size m.image a)) same
    (record {
      kept = kept;
      matter = plan.found.matter;
      compact = collected_through_is_compact e size blocks m.image kept may;
      mounts = collected_mounts_through e size blocks m.image kept m.state may small held.mount.mounts;
    })
