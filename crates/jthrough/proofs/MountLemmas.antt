-- What a mount of the nodes of a view answers, of the image.
use Rattle.std.proofs.Common.{◌≡◌, ℕ, ◌≤◌, List, [], ◌∷◌, ◌++◌, length, None, Some, Option, refl, sym, ap, ap₂, subst, ◌∙◌, arith, append_assoc, length-append, Contains, filter_map, Err, IsTrue, IsFalse}
use Rattle.std.specs.Prelude.{Ok}
use Rattle.std.specs.List.{cons_option}
use Rattle.std.specs.Option.{option_or}
use Rattle.std.proofs.lemmas.List.{append-nil}
use Rattle.std.proofs.lemmas.List.Elements.{Contains-append_left}
use Rattle.std.proofs.lemmas.Grind.{flat_map-append}
use Rattle.flashbase.proofs.MemberLemmas.{Contains-here, Contains-there, Contains-map}
use Rattle.jnode.specs.declared.node.NodeRef.{NodeRef}
use Rattle.jnode.specs.declared.node.Seen.{Seen}
use Rattle.jnode.specs.declared.order.Endian.{Endian}
use Rattle.jscan.specs.Image.{sightings}
use Rattle.jexpand.specs.Expanded.{expanded_nodes, tile_content, contents_of_tiles}
use Rattle.jexpand.specs.declared.fault.ConvertFault.{ConvertFault}
use Rattle.jmount.specs.Clash.{NoneClash}
use Rattle.jmount.specs.Collected.{FirstClash, StopsCollecting, without_addresses}
use Rattle.jmount.specs.Mount.{Mount}
use Rattle.jmount.specs.MountsNodes.{AnswersNodes}
use Rattle.jmount.specs.StateOf.{state_of, tops_of}
use Rattle.jmount.specs.Tree.{is_directory}
use Rattle.jmount.specs.declared.fault.MountFault.{MountFault}
use Rattle.jmount.specs.declared.fault.MountFault.TheVariants as mount
use Rattle.jview.specs.Through.{greatest_contents, through_fault, through_fault_among, IsSoundThrough, IsMountThroughOf}
use Rattle.jthrough.specs.MountsThrough.{AnswersThrough}
use Rattle.jthrough.specs.Refusals.{nodes_of_tiles}
use Rattle.jthrough.specs.View.{IsUnviewed, IsViewOf, EndsView, placed_node, placed_nodes, mount_fault_viewed}
use Rattle.jthrough.specs.declared.fault.ViewFault.{ViewFault}
use Rattle.jthrough.specs.declared.fault.ViewFault.TheVariants as fault
use Rattle.jthrough.specs.declared.view.View.{View}
use Rattle.jthrough.proofs.PlacedLemmas.{placed_is, placed_without}
use Rattle.jthrough.proofs.RefusalLemmas.{AreHeld, refused_answers}

-- ---- a split of what a list gives is one of the list

abbrev SplitOf : {X Y : Type 0} (f : X → Option Y) (xs : List X) (before : List Y) (y : Y) → Type 0
SplitOf {X} f xs before y = (front : List X) × (x : X) × (behind : List X) × (xs ≡ front ++ x ∷ behind) × (filter_map f front ≡ before) × (f x ≡ Some y)

split_given : {X Y : Type 0} (f : X → Option Y) (xs : List X) (before after : List Y) (y : Y) → filter_map f xs ≡ before ++ y ∷ after → SplitOf f xs before y
split_given f [] [] after y is = absurd (cc)
split_given f [] (b ∷ before) after y is = absurd (cc)
split_given {X} {Y} f (x ∷ xs) before after y is = by_first (λ bs same. split_given f xs bs after y same) (f x) refl before is
  where
    by_first : ((bs : List Y) → filter_map f xs ≡ bs ++ y ∷ after → SplitOf f xs bs y) → (o : Option Y) → f x ≡ o → (bs : List Y) → cons_option o (filter_map f xs) ≡ bs ++ y ∷ after
        → SplitOf f (x ∷ xs) bs y
    by_first next None here bs same =
        let (front, z, behind, split, gives, at) = next bs same in
        (x ∷ front, z, behind, ap (λ (l : List X). x ∷ l) split, ap (λ (o : Option Y). cons_option o (filter_map f front)) here ∙ gives, at)
    by_first next (Some w) here [] same =
        let head : w ≡ y = cc in
        ([], x, xs, refl, refl, here ∙ ap (λ (v : Y). Some v) head)
    by_first next (Some w) here (b ∷ bs) same =
        let head : w ≡ b = cc in
        let tail : filter_map f xs ≡ bs ++ y ∷ after = cc in
        let (front, z, behind, split, gives, at) = next bs tail in (
          x ∷ front,
          z,
          behind,
          ap (λ (l : List X). x ∷ l) split,
          ap (λ (o : Option Y). cons_option o (filter_map f front)) here ∙ ap₂ (λ (v : Y) (l : List Y). v ∷ l) head gives,
          at,
        )

module _ (e : Endian) (size : ℕ) (image contents : List ℕ) (view : View) (v : IsViewOf e size image contents view) where
  -- ---- the tiles in front of what refuses the view

  nodes_without : (ns : List (ℕ × NodeRef)) → ns ≡ placed_nodes e size image view.tiles.items → without_addresses ns ≡ nodes_of_tiles e size image v.done
  nodes_without ns is = ap without_addresses (is ∙ v.has.nodes) ∙ placed_without e size image v.done

  done_held : (ns : List (ℕ × NodeRef)) → ns ≡ placed_nodes e size image view.tiles.items → NoneClash (without_addresses ns) → AreHeld e size image v.done
  done_held ns is apart = record { none = v.has.none; few = v.has.few; apart = subst NoneClash (nodes_without ns is) apart }

  -- where none of their nodes clash, the answer is what refuses the view
  pub view_refused : (ns : List (ℕ × NodeRef)) (why : ViewFault) → ns ≡ placed_nodes e size image view.tiles.items → NoneClash (without_addresses ns) → view.refused ≡ Some why
      → AnswersThrough e size image (Err why)
  view_refused ns why is apart refused =
      let ends : EndsView e size image v.done v.rest view (Some why) = subst (EndsView e size image v.done v.rest view) refused v.ends in
      let (s, after, rest, here) = ends in
      refused_answers e size image v.done after s why v.scannable (v.all ∙ ap (λ (l : List (ℕ × Seen)). v.done ++ l) rest) (done_held ns is apart) here

  -- else the first of them that clashes
  first_clash : (addr : ℕ) → FirstClash (placed_nodes e size image v.done) addr → AnswersThrough e size image (Err (fault.Clash addr))
  first_clash addr (pre, node, post, split, apart, clashes) =
      let (below, other, there, clash) = clashes in
      let (front, s, behind, tiles, gives, at) = split_given (placed_node e size image) v.done pre post (addr, node) split in
      let is = placed_is e size image s (addr, node) at in
      let all : sightings e size image ≡ front ++ s ∷ (behind ++ v.rest) =
      v.all ∙ ap (λ (l : List (ℕ × Seen)). l ++ v.rest) tiles ∙ append_assoc front (s ∷ behind) v.rest in
      let nodes : without_addresses pre ≡ nodes_of_tiles e size image front = ap without_addresses (sym gives) ∙ placed_without e size image front in
      let in_front : (t : ℕ × Seen) → Contains front t → Contains v.done t =
      λ t has. subst (λ (l : List (ℕ × Seen)). Contains l t) (sym tiles) (Contains-append_left front (s ∷ behind) t has) in
      let here : Contains v.done s = subst (λ (l : List (ℕ × Seen)). Contains l s) (sym tiles) (later front (s ∷ behind) s (Contains-here s behind)) in
      let up_to = contents_in front behind s tiles in
      refused_answers e size image front (behind ++ v.rest) s (fault.Clash addr) v.scannable all
      (record { none = λ t has. v.has.none t (in_front t has); few = omega (arith, up_to.0, v.has.few); apart = subst NoneClash nodes apart }) (
        sym is.0,
        ((v.has.none s here, omega (arith, up_to.1, v.has.few)), node, other, is.1, subst (λ (l : List NodeRef). Contains l other) nodes (Contains-map (λ (n : ℕ × NodeRef). n.1) pre (below, other) there), clash),
      )
    where
      later : (xs ys : List (ℕ × Seen)) (t : ℕ × Seen) → Contains ys t → Contains (xs ++ ys) t
      later [] ys t has = has
      later (x ∷ xs) ys t has = Contains-there x (xs ++ ys) t (later xs ys t has)

      contents_in : (front behind : List (ℕ × Seen)) (s : ℕ × Seen) → v.done ≡ front ++ s ∷ behind
          → (length (contents_of_tiles e size image front) ≤ length (contents_of_tiles e size image v.done))
          × (length (contents_of_tiles e size image (front ++ s ∷ [])) ≤ length (contents_of_tiles e size image v.done))
      contents_in front behind s tiles =
          let f : ℕ × Seen → List ℕ = tile_content e size image in
          let one = ap length (ap (contents_of_tiles e size image) tiles ∙ flat_map-append f front (s ∷ behind))
          ∙ length-append (contents_of_tiles e size image front) (contents_of_tiles e size image (s ∷ behind)) in
          let two = ap length (ap (contents_of_tiles e size image) (tiles ∙ sym (append_assoc front (s ∷ []) behind)) ∙ flat_map-append f (front ++ s ∷ []) behind)
          ∙ length-append (contents_of_tiles e size image (front ++ s ∷ [])) (contents_of_tiles e size image behind) in
          (omega (arith, one), omega (arith, two))

  pub stop_answers : (ns : List (ℕ × NodeRef)) (why : MountFault) → ns ≡ placed_nodes e size image view.tiles.items → StopsCollecting ns why
      → AnswersThrough e size image (Err (mount_fault_viewed why))
  stop_answers ns (mount.Clash addr) is stops = first_clash addr (subst (λ (l : List (ℕ × NodeRef)). FirstClash l addr) (is ∙ v.has.nodes) stops)
  stop_answers ns mount.OutOfMemory is stops = v.scannable
  stop_answers ns mount.BlockSize is stops = absurd stops
  stop_answers ns mount.TooLarge is stops = absurd stops
  stop_answers ns (mount.Incompatible addr nodetype) is stops = absurd stops
  stop_answers ns (mount.Compressed addr compr) is stops = absurd stops
  stop_answers ns mount.RootKind is stops = absurd stops

  -- ---- a view that nothing refuses

  pub none_among : (ss : List (ℕ × Seen)) → ((s : ℕ × Seen) → Contains ss s → through_fault e size image s ≡ None) → through_fault_among e size image ss ≡ None
  none_among [] none = refl
  none_among (s ∷ ss) none =
      ap₂ (λ (o p : Option ConvertFault). option_or o p) (none s (Contains-here s ss)) (none_among ss (λ t has. none t (Contains-there s ss t has)))

  module _ (ns : List (ℕ × NodeRef)) (is : ns ≡ placed_nodes e size image view.tiles.items) (refused : view.refused ≡ None) where
    ends : EndsView e size image v.done v.rest view None
    ends = subst (EndsView e size image v.done v.rest view) refused v.ends

    pub all : sightings e size image ≡ v.done
    all = v.all ∙ ap (λ (l : List (ℕ × Seen)). v.done ++ l) ends.0 ∙ append-nil v.done

    nodes_are : without_addresses ns ≡ expanded_nodes e size image
    nodes_are = nodes_without ns is ∙ ap (nodes_of_tiles e size image) (sym all)

    sound : NoneClash (without_addresses ns) → IsSoundThrough e size image
    sound apart = record {
      scannable = v.scannable;
      none = none_among (sightings e size image) (λ s has. v.has.none s (subst (λ (l : List (ℕ × Seen)). Contains l s) all has));
      contents = subst (λ (l : List (ℕ × Seen)). length (contents_of_tiles e size image l) ≤ greatest_contents) (sym all) v.has.few;
      apart = subst NoneClash nodes_are apart;
    }

    pub view_mounted : (mounted : Mount) → AnswersNodes image ns view.findings.items view.read_only (Ok mounted) → AnswersThrough e size image (Ok mounted)
    view_mounted mounted h = (
      h.1.image,
      subst (λ (l : List ℕ). IsMountThroughOf e size (record { image = l; state = mounted.state; tops = mounted.tops; findings = mounted.findings; read_only = mounted.read_only })) (sym h.1.image)
          (record {
            mounts = record {
              sound = sound h.0.apart;
              root = subst (λ (l : List NodeRef). IsTrue (is_directory (state_of l) 1)) nodes_are h.0.root;
              same = sym (h.0.state ∙ ap state_of nodes_are);
            };
            tops = h.0.tops ∙ ap tops_of nodes_are;
            findings = h.1.findings ∙ ends.1;
            read_only = h.1.read_only ∙ ends.2;
          }),
    )

    pub view_unmounted : (why : MountFault) → AnswersNodes image ns view.findings.items view.read_only (Err why) → AnswersThrough e size image (Err (mount_fault_viewed why))
    view_unmounted (mount.Clash addr) h = first_clash addr (subst (λ (l : List (ℕ × NodeRef)). FirstClash l addr) (is ∙ v.has.nodes) h)
    view_unmounted mount.RootKind h = (sound h.0, subst (λ (l : List NodeRef). IsFalse (is_directory (state_of l) 1)) nodes_are h.1)
    view_unmounted mount.OutOfMemory h = v.scannable
    view_unmounted mount.BlockSize h = absurd h
    view_unmounted mount.TooLarge h = absurd h
    view_unmounted (mount.Incompatible addr nodetype) h = absurd h
    view_unmounted (mount.Compressed addr compr) h = absurd h

-- ---- an image that is not looked at

pub unviewed_answers : (e : Endian) (size : ℕ) (image : List ℕ) (why : ViewFault) → IsUnviewed size image why → AnswersThrough e size image (Err why)
unviewed_answers e size image fault.BlockSize h = h
unviewed_answers e size image fault.TooLarge h = h
unviewed_answers e size image fault.OutOfMemory h = h
unviewed_answers e size image (fault.Incompatible addr nodetype) h = absurd h
unviewed_answers e size image (fault.Compressed addr compr) h = absurd h
unviewed_answers e size image (fault.Data addr) h = absurd h
unviewed_answers e size image (fault.TooLong addr) h = absurd h
unviewed_answers e size image (fault.Clash addr) h = absurd h
unviewed_answers e size image fault.RootKind h = absurd h
