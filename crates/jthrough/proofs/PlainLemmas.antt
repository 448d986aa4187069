-- An image without compressed nodes mounts through just where it mounts, and has the same faults.
use Rattle.std.proofs.Common.{◌≡◌, ℕ, ◌<◌, ◌≤◌, List, [], ◌∷◌, ◌++◌, length, map, filter_map, None, Some, Option, refl, sym, ap, ap₂, subst, ◌∙◌, arith, append_assoc, length-append, inl, inr, Contains, IsTrue, IsFalse, Ok, Err}
use Rattle.std.specs.Prelude.{◌↔◌, option_map}
use Rattle.std.specs.List.{cons_option}
use Rattle.std.specs.Option.{option_or}
use Rattle.std.proofs.lemmas.Bool.{cases_lt}
use Rattle.std.proofs.lemmas.List.Elements.{Contains-append_cases, Contains-append_left, Contains-append_right}
use Rattle.std.proofs.lemmas.Option.{same_Some, none-some}
use Rattle.flashbase.proofs.MemberLemmas.{Contains-here, Contains-there, Contains-none, Contains-cases, Contains-filter_map, Contains-filter_map_from, split_around}
use Rattle.jnode.specs.Reading.{node_in}
use Rattle.jnode.specs.declared.node.NodeRef.{NodeRef}
use Rattle.jnode.specs.declared.node.NodeRef.TheVariants as node
use Rattle.jnode.specs.declared.node.Seen.{Seen}
use Rattle.jnode.specs.declared.node.Seen.TheVariants as seen
use Rattle.jnode.specs.declared.order.Endian.{Endian}
use Rattle.jscan.specs.Image.{sightings, node_sighted, nodes}
use Rattle.jscan.proofs.AddressLaws.{sightings_ascend}
use Rattle.jexpand.specs.Expanded.{expanded_node, expanded_nodes, tile_content, contents_of_tiles}
use Rattle.jexpand.specs.declared.fault.ConvertFault.{ConvertFault}
use Rattle.jexpand.specs.declared.fault.ConvertFault.TheVariants as convert
use Rattle.jmount.specs.Clash.{NodesClash, NoneClash, IsClashAt}
use Rattle.jmount.specs.Mount.{Mount}
use Rattle.jmount.specs.Mounts.{plain_nodes, IsFaultAt, IsSound, IsMountOf}
use Rattle.jmount.specs.StateOf.{state_of, tops_of}
use Rattle.jmount.specs.Tree.{is_directory}
use Rattle.jmount.specs.declared.fault.MountFault.{MountFault}
use Rattle.jmount.specs.declared.fault.MountFault.TheVariants as mount
use Rattle.jview.specs.Through.{through_fault, through_fault_among, IsSoundThrough, IsMountThroughOf}
use Rattle.jthrough.specs.MountsThrough.{IsViewFaultAt}
use Rattle.jthrough.specs.Plain.{HasNoCompressed, PlainIsMounted, MountIsPlain}
use Rattle.jthrough.specs.Refusals.{IsRefusedBy, nodes_of_tiles}
use Rattle.jthrough.specs.View.{mount_fault_viewed}
use Rattle.jthrough.specs.declared.fault.ViewFault.{ViewFault}
use Rattle.jthrough.specs.declared.fault.ViewFault.TheVariants as fault
use Rattle.jthrough.proofs.RefusalLemmas.{AreHeld, none_of_held}

-- ---- a tile that is not compressed

-- these tiles are not
abbrev Uncompressed : List (ℕ × Seen) → Type 0
Uncompressed tiles = (addr compr : ℕ) → Contains tiles (addr, seen.Compressed compr) → ⊥

node_address : (addr : ℕ) (kind : Seen) (n : ℕ × NodeRef) → node_sighted (addr, kind) ≡ Some n → (addr ≡ n.0) × (node_in kind ≡ Some n.1)
node_address addr kind n is = by (node_in kind) refl is
  where
    by : (o : Option NodeRef) → node_in kind ≡ o → option_map (λ m. (addr, m)) o ≡ Some n → (addr ≡ n.0) × (node_in kind ≡ Some n.1)
    by None here none = absurd (none-some n none)
    by (Some m) here some =
        let same : (addr, m) ≡ n = same_Some (addr, m) n some in
        (ap (λ (p : ℕ × NodeRef). p.0) same, here ∙ ap (λ (p : ℕ × NodeRef). Some p.1) same)

clash_back : (a b : NodeRef) → NodesClash a b → NodesClash b a
clash_back (node.Entry a) (node.Entry b) clash = record { directory = sym clash.directory; name = sym clash.name; version = sym clash.version; contents = λ same. clash.contents (sym same) }
clash_back (node.Inode a) (node.Inode b) clash = record { ino = sym clash.ino; version = sym clash.version; contents = λ same. clash.contents (sym same) }
clash_back (node.Entry a) (node.Inode b) clash = clash
clash_back (node.Inode a) (node.Entry b) clash = clash

no_clash_alone : (a : NodeRef) → NodesClash a a → ⊥
no_clash_alone (node.Entry a) clash = clash.contents refl
no_clash_alone (node.Inode a) clash = clash.contents refl

module _ (e : Endian) (size : ℕ) (image : List ℕ) where
  plain_node : (addr : ℕ) (kind : Seen) → ((compr : ℕ) → kind ≡ seen.Compressed compr → ⊥) → expanded_node e size image (addr, kind) ≡ node_in kind
  plain_node addr (seen.Compressed compr) un = absurd (un compr refl)
  plain_node addr (seen.Entry entry) un = refl
  plain_node addr (seen.Inode inode) un = refl
  plain_node addr _ un = refl

  plain_content : (addr : ℕ) (kind : Seen) → ((compr : ℕ) → kind ≡ seen.Compressed compr → ⊥) → tile_content e size image (addr, kind) ≡ []
  plain_content addr (seen.Compressed compr) un = absurd (un compr refl)
  plain_content addr _ un = refl

  -- it is refused just where it is incompatible
  plain_fault : (addr : ℕ) (kind : Seen) (f : ConvertFault) → ((compr : ℕ) → kind ≡ seen.Compressed compr → ⊥) → through_fault e size image (addr, kind) ≡ Some f
      → (nodetype : ℕ) × (kind ≡ seen.Incompatible nodetype) × (convert.Incompatible addr nodetype ≡ f)
  plain_fault addr (seen.Compressed compr) f un is = absurd (un compr refl)
  plain_fault addr (seen.Incompatible nodetype) f un is = (nodetype, refl, same_Some (convert.Incompatible addr nodetype) f is)
  plain_fault addr (seen.Entry entry) f un is = absurd (none-some f is)
  plain_fault addr (seen.Inode inode) f un is = absurd (none-some f is)
  plain_fault addr seen.Marker f un is = absurd (none-some f is)
  plain_fault addr seen.Padding f un is = absurd (none-some f is)
  plain_fault addr seen.Obsolete f un is = absurd (none-some f is)
  plain_fault addr seen.Attribute f un is = absurd (none-some f is)
  plain_fault addr (seen.Skippable nodetype) f un is = absurd (none-some f is)
  plain_fault addr (seen.ReadOnly nodetype) f un is = absurd (none-some f is)
  plain_fault addr (seen.Damaged which) f un is = absurd (none-some f is)

  -- a tile that is a node is not refused
  node_is_held : (addr : ℕ) (kind : Seen) (n : NodeRef) → node_in kind ≡ Some n → (through_fault e size image (addr, kind) ≡ None) × (expanded_node e size image (addr, kind) ≡ Some n)
  node_is_held addr (seen.Entry entry) n is = (refl, is)
  node_is_held addr (seen.Inode inode) n is = (refl, is)
  node_is_held addr (seen.Compressed compr) n is = absurd (none-some n is)
  node_is_held addr (seen.Incompatible nodetype) n is = absurd (none-some n is)
  node_is_held addr seen.Marker n is = absurd (none-some n is)
  node_is_held addr seen.Padding n is = absurd (none-some n is)
  node_is_held addr seen.Obsolete n is = absurd (none-some n is)
  node_is_held addr seen.Attribute n is = absurd (none-some n is)
  node_is_held addr (seen.Skippable nodetype) n is = absurd (none-some n is)
  node_is_held addr (seen.ReadOnly nodetype) n is = absurd (none-some n is)
  node_is_held addr (seen.Damaged which) n is = absurd (none-some n is)

  un_of : (tiles : List (ℕ × Seen)) (addr : ℕ) (kind : Seen) → Uncompressed tiles → Contains tiles (addr, kind) → (compr : ℕ) → kind ≡ seen.Compressed compr → ⊥
  un_of tiles addr kind free has compr is = free addr compr (subst (λ (k : Seen). Contains tiles (addr, k)) is has)

  un_there : (t : ℕ × Seen) (tiles : List (ℕ × Seen)) → Uncompressed (t ∷ tiles) → Uncompressed tiles
  un_there t tiles free addr compr has = free addr compr (Contains-there t tiles (addr, seen.Compressed compr) has)

  -- ---- such tiles

  no_contents : (tiles : List (ℕ × Seen)) → Uncompressed tiles → length (contents_of_tiles e size image tiles) ≡ 0
  no_contents [] free = refl
  no_contents ((addr, kind) ∷ tiles) free =
      let own = ap length (plain_content addr kind (un_of ((addr, kind) ∷ tiles) addr kind free (Contains-here (addr, kind) tiles))) in
      let all = length-append (tile_content e size image (addr, kind)) (contents_of_tiles e size image tiles) in
      omega (arith, own, all, no_contents tiles (un_there (addr, kind) tiles free))

  without : (addr : ℕ) (o : Option NodeRef) (rest : List (ℕ × NodeRef)) → cons_option o (map (λ n. n.1) rest) ≡ map (λ n. n.1) (cons_option (option_map (λ m. (addr, m)) o) rest)
  without addr None rest = refl
  without addr (Some m) rest = refl

  same_nodes : (tiles : List (ℕ × Seen)) → Uncompressed tiles → nodes_of_tiles e size image tiles ≡ map (λ n. n.1) (filter_map node_sighted tiles)
  same_nodes [] free = refl
  same_nodes ((addr, kind) ∷ tiles) free =
      let own = plain_node addr kind (un_of ((addr, kind) ∷ tiles) addr kind free (Contains-here (addr, kind) tiles)) in
      let rest = same_nodes tiles (un_there (addr, kind) tiles free) in
      ap₂ (λ (o : Option NodeRef) (l : List NodeRef). cons_option o l) own rest ∙ without addr (node_in kind) (filter_map node_sighted tiles)

  none_each : (tiles : List (ℕ × Seen)) (t : ℕ × Seen) → through_fault_among e size image tiles ≡ None → Contains tiles t → through_fault e size image t ≡ None
  none_each [] t none has = absurd (Contains-none t has)
  none_each (s ∷ tiles) t none has = by (λ rest later. none_each tiles t rest later) (through_fault e size image s) refl none
    where
      by : (through_fault_among e size image tiles ≡ None → Contains tiles t → through_fault e size image t ≡ None) → (o : Option ConvertFault) → through_fault e size image s ≡ o
          → option_or o (through_fault_among e size image tiles) ≡ None → through_fault e size image t ≡ None
      by next (Some f) is all = absurd (none-some f (sym all))
      by next None is all = elim (Contains-cases s tiles t has) [
        | inl same ↦ subst (λ (u : ℕ × Seen). through_fault e size image u ≡ None) same is
        | inr later ↦ next all later
      ]

  each_none : (tiles : List (ℕ × Seen)) → ((t : ℕ × Seen) → Contains tiles t → through_fault e size image t ≡ None) → through_fault_among e size image tiles ≡ None
  each_none [] none = refl
  each_none (s ∷ tiles) none =
      ap₂ (λ (o p : Option ConvertFault). option_or o p) (none s (Contains-here s tiles)) (each_none tiles (λ t has. none t (Contains-there s tiles t has)))

  -- ---- an image of such tiles

  module _ (free : HasNoCompressed e size image) where
    free_of : (addr : ℕ) (kind : Seen) → Contains (sightings e size image) (addr, kind) → (compr : ℕ) → kind ≡ seen.Compressed compr → ⊥
    free_of addr kind has = un_of (sightings e size image) addr kind free has

    free_beginning : (before after : List (ℕ × Seen)) (s : ℕ × Seen) → sightings e size image ≡ before ++ s ∷ after → Uncompressed (before ++ s ∷ [])
    free_beginning before after s split addr compr has =
        free addr compr
        (subst (λ (l : List (ℕ × Seen)). Contains l (addr, seen.Compressed compr)) (append_assoc before (s ∷ []) after ∙ sym split)
        (Contains-append_left (before ++ s ∷ []) after (addr, seen.Compressed compr) has))

    here : (before after : List (ℕ × Seen)) (s : ℕ × Seen) → sightings e size image ≡ before ++ s ∷ after → Contains (sightings e size image) s
    here before after s split = subst (λ (l : List (ℕ × Seen)). Contains l s) (sym split) (Contains-append_right before (s ∷ after) s (Contains-here s after))

    in_front : (before after : List (ℕ × Seen)) (s t : ℕ × Seen) → sightings e size image ≡ before ++ s ∷ after → Contains before t → Contains (sightings e size image) t
    in_front before after s t split has = subst (λ (l : List (ℕ × Seen)). Contains l t) (sym split) (Contains-append_left before (s ∷ after) t has)

    below_of : (before after : List (ℕ × Seen)) (s t : ℕ × Seen) → sightings e size image ≡ before ++ s ∷ after → Contains before t → t.0 < s.0
    below_of before after s t split has =
        let (front, behind, is) = split_around before t has in
        let whole : sightings e size image ≡ front ++ t ∷ (behind ++ s ∷ after) = split ∙ (ap (λ (l : List (ℕ × Seen)). l ++ s ∷ after) is ∙ append_assoc front (t ∷ behind) (s ∷ after)) in
        sightings_ascend e size image front (behind ++ s ∷ after) t s whole (Contains-append_right behind (s ∷ after) s (Contains-here s after))

    front_of : (before after : List (ℕ × Seen)) (s t : ℕ × Seen) → sightings e size image ≡ before ++ s ∷ after → Contains (sightings e size image) t → t.0 < s.0 → Contains before t
    front_of before after s t split has lt = elim (Contains-append_cases before (s ∷ after) t (subst (λ (l : List (ℕ × Seen)). Contains l t) split has)) [
      | inl front ↦ front
      | inr rest ↦ elim (Contains-cases s after t rest) [
        | inl same ↦ let at : s.0 ≡ t.0 = ap (λ (u : ℕ × Seen). u.0) same in absurd (omega (arith, at, lt))
        | inr later ↦ let up : s.0 < t.0 = sightings_ascend e size image before after s t split later in absurd (omega (arith, up, lt))
      ]
    ]

    -- ---- a fault of the one is a fault of the other

    clash_to : (at addr : ℕ) → IsViewFaultAt e size image at (fault.Clash addr) → IsFaultAt e size image at (mount.Clash addr)
    clash_to at addr (before, (a, kind), after, split, at_is, (addr_is, rest)) =
        let (held, n, other, n_is, other_in, clash) = rest in
        let s_in : Contains (sightings e size image) (a, kind) = here before after (a, kind) split in
        let own : node_sighted (a, kind) ≡ Some (a, n) = ap (option_map (λ m. (a, m))) (sym (plain_node a kind (free_of a kind s_in)) ∙ n_is) in
        let ((b, sort), t_in, t_is) = Contains-filter_map_from (expanded_node e size image) before other other_in in
        let t_there : Contains (sightings e size image) (b, sort) = in_front before after (a, kind) (b, sort) split t_in in
        let its : node_sighted (b, sort) ≡ Some (b, other) = ap (option_map (λ m. (b, m))) (sym (plain_node b sort (free_of b sort t_there)) ∙ t_is) in
        let lt : b < a = below_of before after (a, kind) (b, sort) split t_in in (
          at_is ∙ sym addr_is,
          subst (IsClashAt (nodes e size image)) (sym addr_is) (
            n,
            b,
            other,
            Contains-filter_map node_sighted (sightings e size image) (a, kind) (a, n) s_in own,
            Contains-filter_map node_sighted (sightings e size image) (b, sort) (b, other) t_there its,
            lt,
            clash,
          ),
        )

    clash_from : (at addr : ℕ) → IsFaultAt e size image at (mount.Clash addr) → IsViewFaultAt e size image at (fault.Clash addr)
    clash_from at addr (at_is, (n, below, other, n_in, other_in, lt, clash)) =
        let ((a, kind), s_in, s_is) = Contains-filter_map_from node_sighted (sightings e size image) (addr, n) n_in in
        let ((b, sort), t_in, t_is) = Contains-filter_map_from node_sighted (sightings e size image) (below, other) other_in in
        let s_at = node_address a kind (addr, n) s_is in
        let t_at = node_address b sort (below, other) t_is in
        let (before, after, split) = split_around (sightings e size image) (a, kind) s_in in
        let t_front : Contains before (b, sort) = front_of before after (a, kind) (b, sort) split t_in (omega (arith, s_at.0, t_at.0, lt)) in
        let own = node_is_held a kind n s_at.1 in
        let its = node_is_held b sort other t_at.1 in
        let none = no_contents (before ++ (a, kind) ∷ []) (free_beginning before after (a, kind) split) in (
          before,
          (a, kind),
          after,
          split,
          at_is ∙ sym s_at.0,
          (
            sym s_at.0,
            (
              (own.0, omega (arith, none)),
              n,
              other,
              own.1,
              Contains-filter_map (expanded_node e size image) before (b, sort) other t_front its.1,
              clash,
            ),
          ),
        )

    incompatible_to : (at addr nodetype : ℕ) → IsViewFaultAt e size image at (fault.Incompatible addr nodetype) → IsFaultAt e size image at (mount.Incompatible addr nodetype)
    incompatible_to at addr nodetype (before, (a, kind), after, split, at_is, refused) =
        let s_in : Contains (sightings e size image) (a, kind) = here before after (a, kind) split in
        let (sort, kind_is, same) = plain_fault a kind (convert.Incompatible addr nodetype) (free_of a kind s_in) refused in
        let at_same : a ≡ addr = cc in
        let sort_same : sort ≡ nodetype = cc in
        let found : Contains (sightings e size image) (a, seen.Incompatible sort) = subst (λ (k : Seen). Contains (sightings e size image) (a, k)) kind_is s_in in (
          at_is ∙ at_same,
          subst (λ (i : ℕ). Contains (sightings e size image) (i, seen.Incompatible nodetype)) at_same
              (subst (λ (i : ℕ). Contains (sightings e size image) (a, seen.Incompatible i)) sort_same found),
        )

    incompatible_from : (at addr nodetype : ℕ) → IsFaultAt e size image at (mount.Incompatible addr nodetype) → IsViewFaultAt e size image at (fault.Incompatible addr nodetype)
    incompatible_from at addr nodetype (at_is, has) =
        let (before, after, split) = split_around (sightings e size image) (addr, seen.Incompatible nodetype) has in
        (before, (addr, seen.Incompatible nodetype), after, split, at_is, refl)

    -- no other fault is one of such an image
    other_fault : (before after : List (ℕ × Seen)) (s : ℕ × Seen) (f : ConvertFault) → sightings e size image ≡ before ++ s ∷ after → through_fault e size image s ≡ Some f
        → ((addr nodetype : ℕ) → convert.Incompatible addr nodetype ≡ f → ⊥) → ⊥
    other_fault before after (a, kind) f split is isnt =
        let (sort, kind_is, same) = plain_fault a kind f (free_of a kind (here before after (a, kind) split)) is in
        isnt a sort same

    no_compressed : (at addr compr : ℕ) → IsViewFaultAt e size image at (fault.Compressed addr compr) → ⊥
    no_compressed at addr compr (before, s, after, split, at_is, refused) = other_fault before after s (convert.Compressed addr compr) split refused (λ i j same. cc)

    no_data : (at addr : ℕ) → IsViewFaultAt e size image at (fault.Data addr) → ⊥
    no_data at addr (before, s, after, split, at_is, refused) = other_fault before after s (convert.Data addr) split refused (λ i j same. cc)

    not_too_long : (at addr : ℕ) → IsViewFaultAt e size image at (fault.TooLong addr) → ⊥
    not_too_long at addr (before, s, after, split, at_is, refused) = elim refused [
      | inl long ↦ other_fault before after s (convert.TooLong addr) split long (λ i j same. cc)
      | inr passes ↦ omega (arith, passes.1.1, no_contents (before ++ s ∷ []) (free_beginning before after s split))
    ]

    to_view : (at : ℕ) (f : MountFault) → IsFaultAt e size image at f → IsViewFaultAt e size image at (mount_fault_viewed f)
    to_view at (mount.Incompatible addr nodetype) is = incompatible_from at addr nodetype is
    to_view at (mount.Clash addr) is = clash_from at addr is
    to_view at (mount.Compressed addr compr) is = absurd (free addr compr is.1)
    to_view at mount.BlockSize is = absurd is
    to_view at mount.TooLarge is = absurd is
    to_view at mount.RootKind is = absurd is
    to_view at mount.OutOfMemory is = absurd is

    nothing_at : (at : ℕ) (why : ViewFault) → ((before : List (ℕ × Seen)) (s : ℕ × Seen) → IsRefusedBy e size image before s why → ⊥) → IsViewFaultAt e size image at why → ⊥
    nothing_at at why isnt (before, s, after, split, at_is, refused) = isnt before s refused

    from_view : (at : ℕ) (why : ViewFault) → IsViewFaultAt e size image at why → (f : MountFault) × IsFaultAt e size image at f
    from_view at (fault.Incompatible addr nodetype) is = (mount.Incompatible addr nodetype, incompatible_to at addr nodetype is)
    from_view at (fault.Clash addr) is = (mount.Clash addr, clash_to at addr is)
    from_view at (fault.Compressed addr compr) is = absurd (no_compressed at addr compr is)
    from_view at (fault.Data addr) is = absurd (no_data at addr is)
    from_view at (fault.TooLong addr) is = absurd (not_too_long at addr is)
    from_view at fault.BlockSize is = absurd (nothing_at at fault.BlockSize (λ before s refused. refused) is)
    from_view at fault.TooLarge is = absurd (nothing_at at fault.TooLarge (λ before s refused. refused) is)
    from_view at fault.RootKind is = absurd (nothing_at at fault.RootKind (λ before s refused. refused) is)
    from_view at fault.OutOfMemory is = absurd (nothing_at at fault.OutOfMemory (λ before s refused. refused) is)

    least_to : (addr : ℕ) → ((at : ℕ) (other : ViewFault) → IsViewFaultAt e size image at other → addr ≤ at) → (at : ℕ) (other : MountFault) → IsFaultAt e size image at other → addr ≤ at
    least_to addr least at other is = least at (mount_fault_viewed other) (to_view at other is)

    least_from : (addr : ℕ) → ((at : ℕ) (other : MountFault) → IsFaultAt e size image at other → addr ≤ at) → (at : ℕ) (other : ViewFault) → IsViewFaultAt e size image at other → addr ≤ at
    least_from addr least at other is = let found = from_view at other is in least at found.0 found.1

    -- ---- without a fault

    nodes_are : expanded_nodes e size image ≡ plain_nodes e size image
    nodes_are = same_nodes (sightings e size image) free

    all_held : IsSoundThrough e size image → AreHeld e size image (sightings e size image)
    all_held sound = record {
      none = λ t has. none_each (sightings e size image) t sound.none has;
      few = sound.contents;
      apart = sound.apart;
    }

    sound_to : IsSoundThrough e size image → IsSound e size image
    sound_to sound = (sound.scannable, λ at f is. refuted at (mount_fault_viewed f) (to_view at f is))
      where
        refuted : (at : ℕ) (why : ViewFault) → IsViewFaultAt e size image at why → ⊥
        refuted at why (before, s, after, split, at_is, refused) = none_of_held e size image before after s why (subst (AreHeld e size image) split (all_held sound)) refused

    apart_of : IsSound e size image → NoneClash (expanded_nodes e size image)
    apart_of sound a b a_in b_in clash =
        let ((i, kind), s_in, s_is) = Contains-filter_map_from (expanded_node e size image) (sightings e size image) a a_in in
        let ((j, sort), t_in, t_is) = Contains-filter_map_from (expanded_node e size image) (sightings e size image) b b_in in
        let one : Contains (nodes e size image) (i, a) =
        Contains-filter_map node_sighted (sightings e size image) (i, kind) (i, a) s_in (ap (option_map (λ m. (i, m))) (sym (plain_node i kind (free_of i kind s_in)) ∙ s_is)) in
        let two : Contains (nodes e size image) (j, b) =
        Contains-filter_map node_sighted (sightings e size image) (j, sort) (j, b) t_in (ap (option_map (λ m. (j, m))) (sym (plain_node j sort (free_of j sort t_in)) ∙ t_is)) in
        elim (cases_lt i j) [
          | inl below ↦ sound.1 j (mount.Clash j) (refl, (b, i, a, two, one, below, clash_back a b clash))
          | inr not ↦ elim (cases_lt j i) [
            | inl above ↦ sound.1 i (mount.Clash i) (refl, (a, j, b, one, two, above, clash))
            | inr at ↦ at_one (i, kind) (j, sort) s_in t_in (omega (arith, not, at)) s_is t_is
          ]
        ]
      where
        at_one : (s t : ℕ × Seen) → Contains (sightings e size image) s → Contains (sightings e size image) t → s.0 ≡ t.0 → expanded_node e size image s ≡ Some a → expanded_node e size image t ≡ Some b → ⊥
        at_one s t s_in t_in at s_is t_is =
            let (before, after, split) = split_around (sightings e size image) s s_in in
            elim (Contains-append_cases before (s ∷ after) t (subst (λ (l : List (ℕ × Seen)). Contains l t) split t_in)) [
              | inl front ↦ omega (arith, below_of before after s t split front, at)
              | inr rest ↦ elim (Contains-cases s after t rest) [
                | inl same ↦
                    let one : Some a ≡ Some b = sym s_is ∙ (ap (expanded_node e size image) same ∙ t_is) in
                    no_clash_alone a (subst (NodesClash a) (sym (same_Some a b one)) clash)
                | inr later ↦ omega (arith, sightings_ascend e size image before after s t split later, at)
              ]
            ]

    sound_from : IsSound e size image → IsSoundThrough e size image
    sound_from sound = record {
      scannable = sound.0;
      none = each_none (sightings e size image) none_at;
      contents = omega (arith, no_contents (sightings e size image) free);
      apart = apart_of sound;
    }
      where
        none_at : (t : ℕ × Seen) → Contains (sightings e size image) t → through_fault e size image t ≡ None
        none_at (addr, kind) has = by (through_fault e size image (addr, kind)) refl
          where
            by : (o : Option ConvertFault) → through_fault e size image (addr, kind) ≡ o → through_fault e size image (addr, kind) ≡ None
            by None is = is
            by (Some f) is =
                let (sort, kind_is, same) = plain_fault addr kind f (free_of addr kind has) is in
                absurd (sound.1 addr (mount.Incompatible addr sort) (refl, subst (λ (k : Seen). Contains (sightings e size image) (addr, k)) kind_is has))

-- ---- the mount

mount_to : (e : Endian) (size : ℕ) (m : Mount) → HasNoCompressed e size m.image → IsMountThroughOf e size m → IsMountOf e size m
mount_to e size m free is =
    let same = nodes_are e size m.image free in
    record {
      mounts = record {
        sound = sound_to e size m.image free is.mounts.sound;
        root = subst (λ (l : List NodeRef). IsTrue (is_directory (state_of l) 1)) same is.mounts.root;
        same = ap state_of (sym same) ∙ is.mounts.same;
      };
      tops = is.tops ∙ ap tops_of same;
      findings = is.findings;
      read_only = is.read_only;
    }

mount_from : (e : Endian) (size : ℕ) (m : Mount) → HasNoCompressed e size m.image → IsMountOf e size m → IsMountThroughOf e size m
mount_from e size m free is =
    let same = nodes_are e size m.image free in
    record {
      mounts = record {
        sound = sound_from e size m.image free is.mounts.sound;
        root = subst (λ (l : List NodeRef). IsTrue (is_directory (state_of l) 1)) (sym same) is.mounts.root;
        same = ap state_of same ∙ is.mounts.same;
      };
      tops = is.tops ∙ ap tops_of (sym same);
      findings = is.findings;
      read_only = is.read_only;
    }

-- ---- the laws

pub plain_is_mounted : PlainIsMounted
plain_is_mounted e size image (Ok m) free = (
  λ answer. (answer.0, mount_to e size m (subst (HasNoCompressed e size) (sym answer.0) free) answer.1),
  λ answer. (answer.0, mount_from e size m (subst (HasNoCompressed e size) (sym answer.0) free) answer.1),
)
plain_is_mounted e size image (Err fault.BlockSize) free = (λ answer. answer, λ answer. answer)
plain_is_mounted e size image (Err fault.TooLarge) free = (λ answer. answer, λ answer. answer)
plain_is_mounted e size image (Err (fault.Incompatible addr nodetype)) free = (
  λ answer. (answer.0, incompatible_to e size image free addr addr nodetype answer.1, least_to e size image free addr answer.2),
  λ answer. (answer.0, incompatible_from e size image free addr addr nodetype answer.1, least_from e size image free addr answer.2),
)
plain_is_mounted e size image (Err (fault.Compressed addr compr)) free = (λ answer. no_compressed e size image free addr addr compr answer.1, λ answer. absurd answer)
plain_is_mounted e size image (Err (fault.Data addr)) free = (λ answer. no_data e size image free addr addr answer.1, λ answer. absurd answer)
plain_is_mounted e size image (Err (fault.TooLong addr)) free = (λ answer. not_too_long e size image free addr addr answer.1, λ answer. absurd answer)
plain_is_mounted e size image (Err (fault.Clash addr)) free = (
  λ answer. (answer.0, clash_to e size image free addr addr answer.1, least_to e size image free addr answer.2),
  λ answer. (answer.0, clash_from e size image free addr addr answer.1, least_from e size image free addr answer.2),
)
plain_is_mounted e size image (Err fault.RootKind) free = (
  λ answer. (sound_to e size image free answer.0, subst (λ (l : List NodeRef). IsFalse (is_directory (state_of l) 1)) (nodes_are e size image free) answer.1),
  λ answer. (sound_from e size image free answer.0, subst (λ (l : List NodeRef). IsFalse (is_directory (state_of l) 1)) (sym (nodes_are e size image free)) answer.1),
)
plain_is_mounted e size image (Err fault.OutOfMemory) free = (λ answer. answer, λ answer. answer)

turned : {A B : Type 0} → A ↔ B → B ↔ A
turned both = (both.1, both.0)

pub mount_is_plain : MountIsPlain
mount_is_plain e size image (Ok m) free = turned (plain_is_mounted e size image (Ok m) free)
mount_is_plain e size image (Err mount.BlockSize) free = turned (plain_is_mounted e size image (Err fault.BlockSize) free)
mount_is_plain e size image (Err mount.TooLarge) free = turned (plain_is_mounted e size image (Err fault.TooLarge) free)
mount_is_plain e size image (Err (mount.Incompatible addr nodetype)) free = turned (plain_is_mounted e size image (Err (fault.Incompatible addr nodetype)) free)
mount_is_plain e size image (Err (mount.Compressed addr compr)) free = (λ answer. absurd (free addr compr answer.1.1), λ answer. absurd (no_compressed e size image free addr addr compr answer.1))
mount_is_plain e size image (Err (mount.Clash addr)) free = turned (plain_is_mounted e size image (Err (fault.Clash addr)) free)
mount_is_plain e size image (Err mount.RootKind) free = turned (plain_is_mounted e size image (Err fault.RootKind) free)
mount_is_plain e size image (Err mount.OutOfMemory) free = turned (plain_is_mounted e size image (Err fault.OutOfMemory) free)
