-- What a mount of the nodes of a look answers, of the image.
use Rattle.std.proofs.Common.{◌≡◌, ℕ, ◌≤◌, List, [], ◌∷◌, ◌++◌, length, None, Some, Option, refl, sym, ap, ap₂, subst, ◌∙◌, arith, append_assoc, length-append, Contains, filter_map, Err, IsTrue, IsFalse}
use Rattle.std.specs.Prelude.{Ok}
use Rattle.std.specs.List.{cons_option}
use Rattle.std.specs.Option.{option_or}
use Rattle.std.proofs.lemmas.List.{append-nil}
use Rattle.std.proofs.lemmas.List.Elements.{Contains-append_left}
use Rattle.std.proofs.lemmas.Grind.{flat_map-append}
use Rattle.flashbase.proofs.MemberLemmas.{Contains-here, Contains-there, Contains-map}
use Rattle.jnode.specs.declared.node.NodeRef.{NodeRef}
use Rattle.jnode.specs.declared.node.Seen.{Seen}
use Rattle.jnode.specs.declared.order.Endian.{Endian}
use Rattle.jexpand.specs.Expanded.{tile_content, contents_of_tiles}
use Rattle.jexpand.specs.declared.fault.ConvertFault.{ConvertFault}
use Rattle.jmount.specs.Clash.{NoneClash}
use Rattle.jmount.specs.Collected.{FirstClash, StopsCollecting, without_addresses}
use Rattle.jmount.specs.Mount.{Mount}
use Rattle.jmount.specs.MountsNodes.{AreMountable, AnswersNodes}
use Rattle.jmount.specs.StateOf.{state_of, tops_of}
use Rattle.jmount.specs.Tree.{is_directory}
use Rattle.jmount.specs.declared.fault.MountFault.{MountFault}
use Rattle.jmount.specs.declared.fault.MountFault.TheVariants as mount
use Rattle.jview.specs.Through.{greatest_contents, through_fault, through_fault_among}
use Rattle.jthrough.specs.Refusals.{nodes_of_tiles}
use Rattle.jthrough.specs.View.{IsUnviewed, placed_node, placed_nodes, mount_fault_viewed}
use Rattle.jthrough.specs.declared.fault.ViewFault.{ViewFault}
use Rattle.jthrough.specs.declared.fault.ViewFault.TheVariants as fault
use Rattle.jthrough.proofs.PlacedLemmas.{placed_is, placed_without}
use Rattle.jthrough.proofs.RefusalLemmas.{AreHeld}
use Rattle.jlook.specs.Look.{AreLookedAt, EndsLook, IsLookAt}
use Rattle.jlook.specs.Looked.{Wants, looked_tiles}
use Rattle.jlook.specs.Looks.{AreSoundTiles, AnswersTiles}
use Rattle.jlook.specs.declared.look.Look.{Look}
use Rattle.jlook.proofs.LookedLemmas.{looked_packed, looked_rise, looked_mountable}
use Rattle.jlook.proofs.TilesLemmas.{refused_answers}

-- ---- a split of what a list gives is one of the list

abbrev SplitOf : {X Y : Type 0} (f : X → Option Y) (xs : List X) (before : List Y) (y : Y) → Type 0
SplitOf {X} f xs before y = (front : List X) × (x : X) × (behind : List X) × (xs ≡ front ++ x ∷ behind) × (filter_map f front ≡ before) × (f x ≡ Some y)

split_given : {X Y : Type 0} (f : X → Option Y) (xs : List X) (before after : List Y) (y : Y) → filter_map f xs ≡ before ++ y ∷ after → SplitOf f xs before y
split_given f [] [] after y is = absurd (cc)
split_given f [] (b ∷ before) after y is = absurd (cc)
split_given {X} {Y} f (x ∷ xs) before after y is = by_first (λ bs same. split_given f xs bs after y same) (f x) refl before is
  where
    by_first : ((bs : List Y) → filter_map f xs ≡ bs ++ y ∷ after → SplitOf f xs bs y) → (o : Option Y) → f x ≡ o → (bs : List Y) → cons_option o (filter_map f xs) ≡ bs ++ y ∷ after
        → SplitOf f (x ∷ xs) bs y
    by_first next None here bs same =
        let (front, z, behind, split, gives, at) = next bs same in
        (x ∷ front, z, behind, ap (λ (l : List X). x ∷ l) split, ap (λ (o : Option Y). cons_option o (filter_map f front)) here ∙ gives, at)
    by_first next (Some w) here [] same =
        let head : w ≡ y = cc in
        ([], x, xs, refl, refl, here ∙ ap (λ (v : Y). Some v) head)
    by_first next (Some w) here (b ∷ bs) same =
        let head : w ≡ b = cc in
        let tail : filter_map f xs ≡ bs ++ y ∷ after = cc in
        let (front, z, behind, split, gives, at) = next bs tail in (
          x ∷ front,
          z,
          behind,
          ap (λ (l : List X). x ∷ l) split,
          ap (λ (o : Option Y). cons_option o (filter_map f front)) here ∙ ap₂ (λ (v : Y) (l : List Y). v ∷ l) head gives,
          at,
        )

module _ (wants : Wants) (e : Endian) (size : ℕ) (image contents : List ℕ) (look : Look) (v : IsLookAt wants e size image contents look) where
  -- ---- the tiles of a look

  tile_looked : (s : ℕ × Seen) → Contains look.tiles.items s → Contains (looked_tiles wants e size image) s
  tile_looked s has = subst (λ (l : List (ℕ × Seen)). Contains l s) (sym v.all) (Contains-append_left v.done v.rest s (v.has.among s has))

  pub look_seen : AreLookedAt e size image look.tiles.items contents
  look_seen = record {
    sighted = λ s has. looked_packed wants e size image s (tile_looked s has);
    none = λ s has. v.has.none s (v.has.among s has);
    contents = (v.has.contents.0, v.has.contents.1 ∙ ap (λ (l : List ℕ). l ++ v.has.contents.0) (sym v.has.tiles));
  }

  pub look_mountable : AreMountable (placed_nodes e size image look.tiles.items)
  look_mountable = looked_mountable wants e size image look.tiles.items v.scannable tile_looked

  -- ---- the tiles in front of what refuses the look

  nodes_without : (ns : List (ℕ × NodeRef)) → ns ≡ placed_nodes e size image look.tiles.items → without_addresses ns ≡ nodes_of_tiles e size image v.done
  nodes_without ns is = ap without_addresses (is ∙ v.has.nodes) ∙ placed_without e size image v.done

  done_held : (ns : List (ℕ × NodeRef)) → ns ≡ placed_nodes e size image look.tiles.items → NoneClash (without_addresses ns) → AreHeld e size image v.done
  done_held ns is apart = record { none = v.has.none; few = v.has.few; apart = subst NoneClash (nodes_without ns is) apart }

  -- where none of their nodes clash, the answer is what refuses the look
  pub look_refused : (ns : List (ℕ × NodeRef)) (why : ViewFault) → ns ≡ placed_nodes e size image look.tiles.items → NoneClash (without_addresses ns) → look.refused ≡ Some why
      → AnswersTiles e size image (looked_tiles wants e size image) (Err why)
  look_refused ns why is apart refused =
      let ends : EndsLook e size image v.done v.rest look (Some why) = subst (EndsLook e size image v.done v.rest look) refused v.ends in
      let (s, after, rest, here) = ends in
      refused_answers e size image (looked_tiles wants e size image) (looked_rise wants e size image) v.done after s why v.scannable (v.all ∙ ap (λ (l : List (ℕ × Seen)). v.done ++ l) rest) (done_held ns is apart) here

  -- else the first of them that clashes
  first_clash : (addr : ℕ) → FirstClash (placed_nodes e size image v.done) addr → AnswersTiles e size image (looked_tiles wants e size image) (Err (fault.Clash addr))
  first_clash addr (pre, node, post, split, apart, clashes) =
      let (below, other, there, clash) = clashes in
      let (front, s, behind, tiles, gives, at) = split_given (placed_node e size image) v.done pre post (addr, node) split in
      let is = placed_is e size image s (addr, node) at in
      let all : looked_tiles wants e size image ≡ front ++ s ∷ (behind ++ v.rest) =
      v.all ∙ ap (λ (l : List (ℕ × Seen)). l ++ v.rest) tiles ∙ append_assoc front (s ∷ behind) v.rest in
      let nodes : without_addresses pre ≡ nodes_of_tiles e size image front = ap without_addresses (sym gives) ∙ placed_without e size image front in
      let in_front : (t : ℕ × Seen) → Contains front t → Contains v.done t =
      λ t has. subst (λ (l : List (ℕ × Seen)). Contains l t) (sym tiles) (Contains-append_left front (s ∷ behind) t has) in
      let here : Contains v.done s = subst (λ (l : List (ℕ × Seen)). Contains l s) (sym tiles) (later front (s ∷ behind) s (Contains-here s behind)) in
      let up_to = contents_in front behind s tiles in
      refused_answers e size image (looked_tiles wants e size image) (looked_rise wants e size image) front (behind ++ v.rest) s (fault.Clash addr) v.scannable all
      (record { none = λ t has. v.has.none t (in_front t has); few = omega (arith, up_to.0, v.has.few); apart = subst NoneClash nodes apart }) (
        sym is.0,
        ((v.has.none s here, omega (arith, up_to.1, v.has.few)), node, other, is.1, subst (λ (l : List NodeRef). Contains l other) nodes (Contains-map (λ (n : ℕ × NodeRef). n.1) pre (below, other) there), clash),
      )
    where
      later : (xs ys : List (ℕ × Seen)) (t : ℕ × Seen) → Contains ys t → Contains (xs ++ ys) t
      later [] ys t has = has
      later (x ∷ xs) ys t has = Contains-there x (xs ++ ys) t (later xs ys t has)

      contents_in : (front behind : List (ℕ × Seen)) (s : ℕ × Seen) → v.done ≡ front ++ s ∷ behind
          → (length (contents_of_tiles e size image front) ≤ length (contents_of_tiles e size image v.done))
          × (length (contents_of_tiles e size image (front ++ s ∷ [])) ≤ length (contents_of_tiles e size image v.done))
      contents_in front behind s tiles =
          let f : ℕ × Seen → List ℕ = tile_content e size image in
          let one = ap length (ap (contents_of_tiles e size image) tiles ∙ flat_map-append f front (s ∷ behind))
          ∙ length-append (contents_of_tiles e size image front) (contents_of_tiles e size image (s ∷ behind)) in
          let two = ap length (ap (contents_of_tiles e size image) (tiles ∙ sym (append_assoc front (s ∷ []) behind)) ∙ flat_map-append f (front ++ s ∷ []) behind)
          ∙ length-append (contents_of_tiles e size image (front ++ s ∷ [])) (contents_of_tiles e size image behind) in
          (omega (arith, one), omega (arith, two))

  pub stop_answers : (ns : List (ℕ × NodeRef)) (why : MountFault) → ns ≡ placed_nodes e size image look.tiles.items → StopsCollecting ns why
      → AnswersTiles e size image (looked_tiles wants e size image) (Err (mount_fault_viewed why))
  stop_answers ns (mount.Clash addr) is stops = first_clash addr (subst (λ (l : List (ℕ × NodeRef)). FirstClash l addr) (is ∙ v.has.nodes) stops)
  stop_answers ns mount.OutOfMemory is stops = v.scannable
  stop_answers ns mount.BlockSize is stops = absurd stops
  stop_answers ns mount.TooLarge is stops = absurd stops
  stop_answers ns (mount.Incompatible addr nodetype) is stops = absurd stops
  stop_answers ns (mount.Compressed addr compr) is stops = absurd stops
  stop_answers ns mount.RootKind is stops = absurd stops

  -- ---- a look that nothing refuses

  pub none_among : (ss : List (ℕ × Seen)) → ((s : ℕ × Seen) → Contains ss s → through_fault e size image s ≡ None) → through_fault_among e size image ss ≡ None
  none_among [] none = refl
  none_among (s ∷ ss) none =
      ap₂ (λ (o p : Option ConvertFault). option_or o p) (none s (Contains-here s ss)) (none_among ss (λ t has. none t (Contains-there s ss t has)))

  module _ (ns : List (ℕ × NodeRef)) (is : ns ≡ placed_nodes e size image look.tiles.items) (refused : look.refused ≡ None) where
    ends : EndsLook e size image v.done v.rest look None
    ends = subst (EndsLook e size image v.done v.rest look) refused v.ends

    pub all : looked_tiles wants e size image ≡ v.done
    all = v.all ∙ ap (λ (l : List (ℕ × Seen)). v.done ++ l) ends.0 ∙ append-nil v.done

    nodes_are : without_addresses ns ≡ nodes_of_tiles e size image (looked_tiles wants e size image)
    nodes_are = nodes_without ns is ∙ ap (nodes_of_tiles e size image) (sym all)

    sound : NoneClash (without_addresses ns) → AreSoundTiles e size image (looked_tiles wants e size image)
    sound apart = record {
      scannable = v.scannable;
      none = none_among (looked_tiles wants e size image) (λ s has. v.has.none s (subst (λ (l : List (ℕ × Seen)). Contains l s) all has));
      contents = subst (λ (l : List (ℕ × Seen)). length (contents_of_tiles e size image l) ≤ greatest_contents) (sym all) v.has.few;
      apart = subst NoneClash nodes_are apart;
    }

    pub look_mounted : (mounted : Mount) → AnswersNodes image ns look.findings.items look.read_only (Ok mounted) → AnswersTiles e size image (looked_tiles wants e size image) (Ok mounted)
    look_mounted mounted h = record {
      image_is = h.1.image;
      mounts = record {
        sound = sound h.0.apart;
        root = subst (λ (l : List NodeRef). IsTrue (is_directory (state_of l) 1)) nodes_are h.0.root;
        same = sym (h.0.state ∙ ap state_of nodes_are);
      };
      tops = h.0.tops ∙ ap tops_of nodes_are;
      findings = h.1.findings ∙ ends.1;
      read_only = h.1.read_only ∙ ends.2;
    }

    pub look_unmounted : (why : MountFault) → AnswersNodes image ns look.findings.items look.read_only (Err why) → AnswersTiles e size image (looked_tiles wants e size image) (Err (mount_fault_viewed why))
    look_unmounted (mount.Clash addr) h = first_clash addr (subst (λ (l : List (ℕ × NodeRef)). FirstClash l addr) (is ∙ v.has.nodes) h)
    look_unmounted mount.RootKind h = (sound h.0, subst (λ (l : List NodeRef). IsFalse (is_directory (state_of l) 1)) nodes_are h.1)
    look_unmounted mount.OutOfMemory h = v.scannable
    look_unmounted mount.BlockSize h = absurd h
    look_unmounted mount.TooLarge h = absurd h
    look_unmounted (mount.Incompatible addr nodetype) h = absurd h
    look_unmounted (mount.Compressed addr compr) h = absurd h

-- ---- an image that is not looked at

pub unlooked_answers : (e : Endian) (size : ℕ) (image : List ℕ) (tiles : List (ℕ × Seen)) (why : ViewFault) → IsUnviewed size image why → AnswersTiles e size image tiles (Err why)
unlooked_answers e size image tiles fault.BlockSize h = h
unlooked_answers e size image tiles fault.TooLarge h = h
unlooked_answers e size image tiles fault.OutOfMemory h = h
unlooked_answers e size image tiles (fault.Incompatible addr nodetype) h = absurd h
unlooked_answers e size image tiles (fault.Compressed addr compr) h = absurd h
unlooked_answers e size image tiles (fault.Data addr) h = absurd h
unlooked_answers e size image tiles (fault.TooLong addr) h = absurd h
unlooked_answers e size image tiles (fault.Clash addr) h = absurd h
unlooked_answers e size image tiles fault.RootKind h = absurd h
