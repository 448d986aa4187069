-- What a look at an image has in common with its mount through its compression.
use Rattle.std.proofs.Common.{◌≡◌, ℕ, ◌≤◌, Bool, true, false, cond, List, [], ◌∷◌, length, map, None, Some, Option, refl, sym, ap, ap₂, subst, ◌∙◌, arith, length-append, Contains, Err}
use Rattle.std.specs.Prelude.{Ok, Result, option_map}
use Rattle.std.specs.List.{cons_option}
use Rattle.std.specs.Option.{option_or}
use Rattle.std.proofs.lemmas.Bool.{true≢false}
use Rattle.flashbase.proofs.MemberLemmas.{Contains-here, Contains-there}
use Rattle.jnode.specs.Compressed.{inode_with}
use Rattle.jnode.specs.declared.node.CompressedNode.{CompressedNode}
use Rattle.jnode.specs.declared.node.Fill.TheVariants.{Zero, Data}
use Rattle.jnode.specs.declared.node.NodeRef.{NodeRef}
use Rattle.jnode.specs.declared.node.NodeRef.TheVariants as node
use Rattle.jnode.specs.declared.node.Seen.{Seen}
use Rattle.jnode.specs.declared.node.Seen.TheVariants as seen
use Rattle.jnode.specs.declared.order.Endian.{Endian}
use Rattle.jscan.specs.Image.{sightings}
use Rattle.jscan.specs.Scans.{findings, is_read_only}
use Rattle.jexpand.specs.Expanded.{compressed_node_at, node_content, with_content, expanded_node, expanded_nodes, tile_content, contents_of_tiles}
use Rattle.jexpand.specs.declared.fault.ConvertFault.{ConvertFault}
use Rattle.jexpand.proofs.NodeLemmas.{accepted_content}
use Rattle.jmount.specs.Clash.{NoneClash}
use Rattle.jmount.specs.Mount.{Mount}
use Rattle.jmount.specs.StateOf.{state_of, tops_of}
use Rattle.jmount.specs.Tree.{State, object, outline, is_directory}
use Rattle.jmount.proofs.OutlineLemmas.{is_directory-outline}
use Rattle.jview.specs.Through.{through_fault, through_fault_among, IsSoundThrough, MountsThroughAs, IsMountThroughOf}
use Rattle.jthrough.specs.MountsThrough.{AnswersThrough}
use Rattle.jthrough.specs.Refusals.{nodes_of_tiles}
use Rattle.jthrough.specs.declared.fault.ViewFault.{ViewFault}
use Rattle.jthrough.specs.declared.fault.ViewFault.TheVariants as fault
use Rattle.jthrough.proofs.AddressedLemmas.{none_among}
use Rattle.jthrough.proofs.RefusalLemmas.{AreHeld, none_of_held}
use Rattle.jlook.specs.Laws.{ShowsSame, ShowsSameOr, LookingMounts, LookingShowsTheTree, AllWantedIsThrough}
use Rattle.jlook.specs.Looked.{Wants, zeroed, looked_node, looked_tile, looked_tiles}
use Rattle.jlook.specs.Looks.{AreSoundTiles, IsMountOfTiles, IsFirstTilesFaultAt, AnswersTiles, AnswersLook, LooksAs}
use Rattle.jlook.proofs.TreeLemmas.{outline_looked, wanted_looked, tops_looked, apart_looked}

-- ---- one tile

map_cons : {X Y : Type 0} (f : X → Y) (o : Option X) (xs : List X) → cons_option (option_map f o) (map f xs) ≡ map f (cons_option o xs)
map_cons f None xs = refl
map_cons f (Some x) xs = refl

module _ (wants : Wants) (e : Endian) (size : ℕ) (image : List ℕ) where
  node_looked : (s : ℕ × Seen) → through_fault e size image s ≡ None
      → expanded_node e size image (looked_tile wants e size image s) ≡ option_map (looked_node wants) (expanded_node e size image s)
  node_looked (addr, seen.Compressed compr) none =
      let content = accepted_content size addr (compressed_node_at e size image addr) none in
      by (compressed_node_at e size image addr) _ (wants (compressed_node_at e size image addr).ino) content
      ∙ sym (ap (λ (o : Option (List ℕ)). option_map (looked_node wants) (option_map (with_content (compressed_node_at e size image addr)) o)) content)
    where
      by : (packed : CompressedNode) (bytes : List ℕ) (b : Bool) → node_content (compressed_node_at e size image addr) ≡ Some bytes
          → expanded_node e size image (addr, cond b (seen.Compressed compr) (seen.Inode (inode_with (compressed_node_at e size image addr) Zero)))
          ≡ Some (node.Inode (cond b (inode_with (compressed_node_at e size image addr) (Data bytes)) (inode_with (compressed_node_at e size image addr) Zero)))
      by packed bytes true content = ap (option_map (with_content (compressed_node_at e size image addr))) content
      by packed bytes false content = refl
  node_looked (addr, seen.Inode inode) none = refl
  node_looked (addr, _) none = refl

  none_looked : (s : ℕ × Seen) → through_fault e size image s ≡ None → through_fault e size image (looked_tile wants e size image s) ≡ None
  none_looked (addr, seen.Compressed compr) none = by (wants (compressed_node_at e size image addr).ino)
    where
      by : (b : Bool) → through_fault e size image (addr, cond b (seen.Compressed compr) (seen.Inode (inode_with (compressed_node_at e size image addr) Zero))) ≡ None
      by true = none
      by false = refl
  none_looked (addr, seen.Inode inode) none = refl
  none_looked (addr, seen.Incompatible nodetype) none = none
  none_looked (addr, _) none = refl

  content_looked : (s : ℕ × Seen) → length (tile_content e size image (looked_tile wants e size image s)) ≤ length (tile_content e size image s)
  content_looked (addr, seen.Compressed compr) = by (wants (compressed_node_at e size image addr).ino)
    where
      by : (b : Bool) → length (tile_content e size image (addr, cond b (seen.Compressed compr) (seen.Inode (inode_with (compressed_node_at e size image addr) Zero))))
          ≤ length (tile_content e size image (addr, seen.Compressed compr))
      by true = omega arith
      by false = omega arith
  content_looked (addr, seen.Inode inode) = omega arith
  content_looked (addr, _) = omega arith

  -- ---- tiles

  pub nodes_looked : (ss : List (ℕ × Seen)) → ((s : ℕ × Seen) → Contains ss s → through_fault e size image s ≡ None)
      → nodes_of_tiles e size image (map (looked_tile wants e size image) ss) ≡ map (looked_node wants) (nodes_of_tiles e size image ss)
  nodes_looked [] none = refl
  nodes_looked (s ∷ ss) none =
      ap₂ (λ (o : Option NodeRef) (l : List NodeRef). cons_option o l) (node_looked s (none s (Contains-here s ss))) (nodes_looked ss (λ t has. none t (Contains-there s ss t has)))
      ∙ map_cons (looked_node wants) (expanded_node e size image s) (nodes_of_tiles e size image ss)

  pub among_looked : (ss : List (ℕ × Seen)) → ((s : ℕ × Seen) → Contains ss s → through_fault e size image s ≡ None)
      → through_fault_among e size image (map (looked_tile wants e size image) ss) ≡ None
  among_looked [] none = refl
  among_looked (s ∷ ss) none =
      ap₂ (λ (o p : Option ConvertFault). option_or o p) (none_looked s (none s (Contains-here s ss))) (among_looked ss (λ t has. none t (Contains-there s ss t has)))

  pub contents_looked : (ss : List (ℕ × Seen)) → length (contents_of_tiles e size image (map (looked_tile wants e size image) ss)) ≤ length (contents_of_tiles e size image ss)
  contents_looked [] = omega arith
  contents_looked (s ∷ ss) =
      omega (
        arith,
        content_looked s,
        contents_looked ss,
        length-append (tile_content e size image (looked_tile wants e size image s)) (contents_of_tiles e size image (map (looked_tile wants e size image) ss)),
        length-append (tile_content e size image s) (contents_of_tiles e size image ss),
      )

  -- ---- the image

  looked_nodes_are : IsSoundThrough e size image → nodes_of_tiles e size image (looked_tiles wants e size image) ≡ map (looked_node wants) (expanded_nodes e size image)
  looked_nodes_are sound = nodes_looked (sightings e size image) (λ s has. none_among e size image (sightings e size image) s sound.none has)

  sound_looked : IsSoundThrough e size image → AreSoundTiles e size image (looked_tiles wants e size image)
  sound_looked sound = record {
    scannable = sound.scannable;
    none = among_looked (sightings e size image) (λ s has. none_among e size image (sightings e size image) s sound.none has);
    contents = omega (arith, contents_looked (sightings e size image), sound.contents);
    apart = subst NoneClash (sym (looked_nodes_are sound)) (apart_looked wants (expanded_nodes e size image) sound.apart);
  }

  pub outline_is : IsSoundThrough e size image
      → outline (state_of (nodes_of_tiles e size image (looked_tiles wants e size image))) ≡ outline (state_of (expanded_nodes e size image))
  outline_is sound = ap (λ (ns : List NodeRef). outline (state_of ns)) (looked_nodes_are sound) ∙ outline_looked wants (expanded_nodes e size image)

  root_looked : (s : State) → MountsThroughAs e size image s → is_directory (state_of (nodes_of_tiles e size image (looked_tiles wants e size image))) 1 ≡ true
  root_looked s mounts =
      sym (is_directory-outline (state_of (nodes_of_tiles e size image (looked_tiles wants e size image))) 1)
      ∙ ap (λ o. is_directory o 1) (outline_is mounts.sound)
      ∙ is_directory-outline (state_of (expanded_nodes e size image)) 1
      ∙ mounts.root

  mounts_looked : (s : State) → MountsThroughAs e size image s → LooksAs wants e size image (state_of (nodes_of_tiles e size image (looked_tiles wants e size image)))
  mounts_looked s mounts = record { sound = sound_looked mounts.sound; root = root_looked s mounts; same = refl }

  -- ---- the answers

  held_looked : IsSoundThrough e size image → AreHeld e size image (looked_tiles wants e size image)
  held_looked sound =
      let looked : AreSoundTiles e size image (looked_tiles wants e size image) = sound_looked sound in
      record {
        none = λ s has. none_among e size image (looked_tiles wants e size image) s looked.none has;
        few = looked.contents;
        apart = looked.apart;
      }

  no_fault : (addr : ℕ) (why : ViewFault) → IsSoundThrough e size image → IsFirstTilesFaultAt e size image (looked_tiles wants e size image) addr why → ⊥
  no_fault addr why sound (scannable, (before, s, after, split, at, refused), least) =
      none_of_held e size image before after s why (subst (AreHeld e size image) split (held_looked sound)) refused

  shows_same : (full looked : Mount) → AnswersThrough e size image (Ok full) → IsMountOfTiles e size image (looked_tiles wants e size image) looked → ShowsSame wants full looked
  shows_same full looked (image_is, mount) look =
      let mounts : MountsThroughAs e size image full.state = subst (λ (l : List ℕ). MountsThroughAs e size l full.state) image_is mount.mounts in
      let state_is : looked.state ≡ state_of (map (looked_node wants) (expanded_nodes e size image)) =
      sym look.mounts.same ∙ ap state_of (looked_nodes_are mounts.sound) in
      record {
        image = look.image_is ∙ sym image_is;
        outline_is = ap outline state_is ∙ outline_looked wants (expanded_nodes e size image) ∙ ap outline mounts.same;
        wanted = λ i wanted. ap (λ (s : State). object s i) state_is ∙ wanted_looked wants (expanded_nodes e size image) i wanted ∙ ap (λ (s : State). object s i) mounts.same;
        tops = look.tops ∙ ap tops_of (looked_nodes_are mounts.sound) ∙ tops_looked wants (expanded_nodes e size image)
            ∙ ap (λ (l : List ℕ). tops_of (expanded_nodes e size l)) (sym image_is) ∙ sym mount.tops;
        findings = look.findings ∙ ap (findings e size) (sym image_is) ∙ sym mount.findings;
        read_only = look.read_only ∙ ap (is_read_only e size) (sym image_is) ∙ sym mount.read_only;
      }

  answers_same : (full : Mount) (answer : Result Mount ViewFault) → AnswersThrough e size image (Ok full) → AnswersLook wants e size image answer → ShowsSameOr wants full answer
  answers_same full (Ok looked) through look = shows_same full looked through look
  answers_same full (Err why) (image_is, mount) look = by why look
    where
      mounts : MountsThroughAs e size image full.state
      mounts = subst (λ (l : List ℕ). MountsThroughAs e size l full.state) image_is mount.mounts

      by : (why : ViewFault) → AnswersLook wants e size image (Err why) → why ≡ fault.OutOfMemory
      by fault.OutOfMemory h = refl
      by fault.BlockSize h = absurd (true≢false (sym mounts.sound.scannable.0 ∙ h))
      by fault.TooLarge h = let most = mounts.sound.scannable.1 in absurd (omega (arith, h.1, most))
      by fault.RootKind h = absurd (true≢false (sym (root_looked full.state mounts) ∙ h.1))
      by (fault.Incompatible addr nodetype) h = absurd (no_fault addr (fault.Incompatible addr nodetype) mounts.sound h)
      by (fault.Compressed addr compr) h = absurd (no_fault addr (fault.Compressed addr compr) mounts.sound h)
      by (fault.Data addr) h = absurd (no_fault addr (fault.Data addr) mounts.sound h)
      by (fault.TooLong addr) h = absurd (no_fault addr (fault.TooLong addr) mounts.sound h)
      by (fault.Clash addr) h = absurd (no_fault addr (fault.Clash addr) mounts.sound h)

  -- ---- all is wanted

  module _ (all : (i : ℕ) → wants i ≡ true) where
    tile_wanted : (s : ℕ × Seen) → looked_tile wants e size image s ≡ s
    tile_wanted (addr, seen.Inode inode) = ap (λ (b : Bool). (addr, seen.Inode (cond b inode (zeroed inode)))) (all inode.ino)
    tile_wanted (addr, seen.Compressed compr) =
        ap (λ (b : Bool). (addr, cond b (seen.Compressed compr) (seen.Inode (inode_with (compressed_node_at e size image addr) Zero)))) (all (compressed_node_at e size image addr).ino)
    tile_wanted (addr, _) = refl

    tiles_wanted : (ss : List (ℕ × Seen)) → map (looked_tile wants e size image) ss ≡ ss
    tiles_wanted [] = refl
    tiles_wanted (s ∷ ss) = ap₂ (λ (t : ℕ × Seen) (ts : List (ℕ × Seen)). t ∷ ts) (tile_wanted s) (tiles_wanted ss)

-- ---- the tiles of an image as they are sighted

module _ (e : Endian) (size : ℕ) (image : List ℕ) where
  sound_to : AreSoundTiles e size image (sightings e size image) → IsSoundThrough e size image
  sound_to sound = record { scannable = sound.scannable; none = sound.none; contents = sound.contents; apart = sound.apart }

  sound_from : IsSoundThrough e size image → AreSoundTiles e size image (sightings e size image)
  sound_from sound = record { scannable = sound.scannable; none = sound.none; contents = sound.contents; apart = sound.apart }

  through_to : (answer : Result Mount ViewFault) → AnswersTiles e size image (sightings e size image) answer → AnswersThrough e size image answer
  through_to (Ok mount) h = (
    h.image_is,
    subst (λ (l : List ℕ). IsMountThroughOf e size (record { image = l; state = mount.state; tops = mount.tops; findings = mount.findings; read_only = mount.read_only })) (sym h.image_is)
        (record {
          mounts = record { sound = sound_to h.mounts.sound; root = h.mounts.root; same = h.mounts.same };
          tops = h.tops;
          findings = h.findings;
          read_only = h.read_only;
        }),
  )
  through_to (Err fault.BlockSize) h = h
  through_to (Err fault.TooLarge) h = h
  through_to (Err fault.OutOfMemory) h = h
  through_to (Err fault.RootKind) h = (sound_to h.0, h.1)
  through_to (Err (fault.Incompatible addr nodetype)) h = h
  through_to (Err (fault.Compressed addr compr)) h = h
  through_to (Err (fault.Data addr)) h = h
  through_to (Err (fault.TooLong addr)) h = h
  through_to (Err (fault.Clash addr)) h = h

  through_from : (answer : Result Mount ViewFault) → AnswersThrough e size image answer → AnswersTiles e size image (sightings e size image) answer
  through_from (Ok mount) (image_is, h) =
      let mounts : MountsThroughAs e size image mount.state = subst (λ (l : List ℕ). MountsThroughAs e size l mount.state) image_is h.mounts in
      record {
        image_is = image_is;
        mounts = record { sound = sound_from mounts.sound; root = mounts.root; same = mounts.same };
        tops = h.tops ∙ ap (λ (l : List ℕ). tops_of (expanded_nodes e size l)) image_is;
        findings = h.findings ∙ ap (findings e size) image_is;
        read_only = h.read_only ∙ ap (is_read_only e size) image_is;
      }
  through_from (Err fault.BlockSize) h = h
  through_from (Err fault.TooLarge) h = h
  through_from (Err fault.OutOfMemory) h = h
  through_from (Err fault.RootKind) h = (sound_from h.0, h.1)
  through_from (Err (fault.Incompatible addr nodetype)) h = h
  through_from (Err (fault.Compressed addr compr)) h = h
  through_from (Err (fault.Data addr)) h = h
  through_from (Err (fault.TooLong addr)) h = h
  through_from (Err (fault.Clash addr)) h = h

-- ---- the laws

pub looking_mounts : LookingMounts
looking_mounts wants e size image s mounts = mounts_looked wants e size image s mounts

pub looking_shows_the_tree : LookingShowsTheTree
looking_shows_the_tree wants e size image full answer through look = answers_same wants e size image full answer through look

pub all_wanted_is_through : AllWantedIsThrough
all_wanted_is_through wants e size image answer all =
    let tiles : looked_tiles wants e size image ≡ sightings e size image = tiles_wanted wants e size image all (sightings e size image) in (
      λ look. through_to e size image answer (subst (λ (ts : List (ℕ × Seen)). AnswersTiles e size image ts answer) tiles look),
      λ through. subst (λ (ts : List (ℕ × Seen)). AnswersTiles e size image ts answer) (sym tiles) (through_from e size image answer through),
    )
