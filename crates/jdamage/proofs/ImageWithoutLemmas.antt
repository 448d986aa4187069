-- Why an image is mounted as the same file system after nodes that hide nothing were damaged.
use Rattle.std.proofs.Common.{◌≡◌, ℕ, ◌<◌, ◌≤◌, Bool, true, false, cond, List, [], ◌∷◌, ◌++◌, length, get_or, map, Option, Some, None, refl, ap, sym, ◌∙◌, subst, ⊎_elim, min, arith, append_assoc}
use Rattle.std.specs.Prelude.{Contains, filter, filter_map, option_map, nat_lt, not, IsTrue, ◌&&◌, ◌||◌}
use Rattle.std.specs.List.{cons_option, list_any}
use Rattle.std.specs.FinMap.{FinMap}
use Rattle.std.specs.Ordering.{nat_cmp}
use Rattle.std.proofs.lemmas.Bool.{and_parts, cases_lt, ltb-false}
use Rattle.std.proofs.lemmas.List.{map-append}
use Rattle.std.proofs.lemmas.List.Elements.{filter_map-append, Contains-append_left, Contains-append_right, Contains-append_cases}
use Rattle.std.proofs.lemmas.List.Folds.{Any-from_list_any, list_any-from_Any}
use Rattle.flashbase.proofs.MemberLemmas.{Contains-map, Contains-map_from, Contains-filter_from, Contains-here, Contains-there, Contains-cases, split_around}
use Rattle.jnode.specs.declared.order.Endian.{Endian}
use Rattle.jnode.specs.declared.node.InodeNode.{InodeNode}
use Rattle.jnode.specs.declared.node.NodeRef.{NodeRef}
use Rattle.jnode.specs.declared.node.NodeRef.TheVariants.{Entry, Inode}
use Rattle.jnode.specs.declared.node.Seen.{Seen}
use Rattle.jnode.specs.declared.node.Seen.TheVariants as seen
use Rattle.jscan.specs.Image.{node_sighted, sightings, nodes}
use Rattle.jscan.proofs.AddressLaws.{nodes_ascend}
use Rattle.jscan.proofs.FitLaws.{nodes_writable}
use Rattle.jmount.specs.Clash.{NoInodesClash}
use Rattle.jmount.specs.Mounts.{IsSound, plain_nodes}
use Rattle.jmount.specs.Shown.{shown}
use Rattle.jmount.specs.StateOf.{inode_in, inodes, state_of, tops_of}
use Rattle.jmount.specs.Tree.{ObjectOf, State, is_directory}
use Rattle.jmount.specs.declared.fault.MountFault.TheVariants as fault
use Rattle.jmount.proofs.ClashLemmas.{clashes_sym, from_inodes, in_inodes}
use Rattle.jmount.proofs.NumbersLemmas.{object-state_of}
use Rattle.jgaps.specs.Gaps.{has_place}
use Rattle.jdamage.specs.Coverage.{is_not_older, is_replaced, is_replaced_below, hides_nothing}
use Rattle.jdamage.specs.Damage.{size_shown, size_at, changes_nothing}
use Rattle.jgaps.specs.Fields.{stretch_at, stretch_of, stretch_sighted, stretches}
use Rattle.jdamage.specs.Laws.{HoldRanges, HidesNothingBetween, HasFields, ImageIsSameWithout, size_made}
use Rattle.jgaps.specs.declared.fields.Stretch.{Stretch}
use Rattle.jdamage.proofs.BetweenLemmas.{in_between}
use Rattle.jdamage.proofs.CoverageLemmas.{all_below}
use Rattle.jdamage.proofs.StateWithoutLemmas.{state_is_same_without}
use Rattle.jdamage.proofs.WithoutLemmas.{replaced_at}

-- ---- what hides nothing beside some hides nothing beside more

abbrev IsWithin : List Stretch → List Stretch → Type 0
IsWithin a b = (s : Stretch) → Contains a s → Contains b s

any_within : (p : Stretch → Bool) (a b : List Stretch) → IsWithin a b → list_any p a ≡ true → list_any p b ≡ true
any_within p a b within some = by (Any-from_list_any p a some)
  where
    by : (k : ℕ) × (s : Stretch) × (k < length a) × (get_or a k s ≡ s) × (p s ≡ true) → list_any p b ≡ true
    by (k, s, less, at, passes) =
        let there = within s (k, less, at) in
        list_any-from_Any p b (there.0, s, there.1, there.2, passes)

hides_beside_more : (a b : List Stretch) (size : ℕ) (lost : Stretch) → IsWithin a b → hides_nothing a size lost ≡ true → hides_nothing b size lost ≡ true
unfolding hides_nothing is_replaced_below is_replaced
hides_beside_more a b size lost within hidden =
    let end = min lost.to size in
    let parts = and_parts (list_any (is_not_older lost) a) (is_replaced_below a lost end) hidden in
    ap (λ t. t && is_replaced_below b lost end) (any_within (is_not_older lost) a b within parts.0)
    ∙ all_below (λ q. nat_lt q lost.from || is_replaced b lost q) end (λ q less. by q less parts.1 (nat_lt q lost.from) refl)
  where
    by : (q : ℕ) → q < min lost.to size → is_replaced_below a lost (min lost.to size) ≡ true → (t : Bool) → nat_lt q lost.from ≡ t → (nat_lt q lost.from || is_replaced b lost q) ≡ true
    by q less all true e = ap (λ t. t || is_replaced b lost q) e
    by q less all false e =
        ap (λ t. t || is_replaced b lost q) e
        ∙ any_within (λ s. is_not_older lost s && has_place q s) a b within (replaced_at a lost (min lost.to size) q all (ltb-false q lost.from e) less)

-- ---- nodes with their addresses

abbrev pub plain : List (ℕ × NodeRef) → List NodeRef
plain ns = map (λ n. n.1) ns

abbrev pub plain_inodes : List (ℕ × NodeRef) → List InodeNode
plain_inodes ns = inodes (plain ns)

pub with_address : (ns : List (ℕ × NodeRef)) (node : InodeNode) → Contains (plain_inodes ns) node → (addr : ℕ) × Contains ns (addr, Inode node)
with_address ns node there =
    let found = Contains-map_from (λ n. n.1) ns (Inode node) (from_inodes (plain ns) node there) in
    (found.0.0, subst (λ (x : NodeRef). Contains ns (found.0.0, x)) found.2 found.1)

among_inodes : (ns : List (ℕ × NodeRef)) (addr : ℕ) (node : InodeNode) → Contains ns (addr, Inode node) → Contains (plain_inodes ns) node
among_inodes ns addr node there = in_inodes (plain ns) node (Contains-map (λ n. n.1) ns (addr, Inode node) there)

abbrev AreAmong : List (ℕ × NodeRef) → List (ℕ × NodeRef) → Type 0
AreAmong ns ms = (n : ℕ × NodeRef) → Contains ns n → Contains ms n

inodes_among : (ns ms : List (ℕ × NodeRef)) → AreAmong ns ms → (node : InodeNode) → Contains (plain_inodes ns) node → Contains (plain_inodes ms) node
inodes_among ns ms among node there =
    let found = with_address ns node there in
    among_inodes ms found.0 node (among (found.0, Inode node) found.1)

stretches_among : (ns ms : List (ℕ × NodeRef)) → AreAmong ns ms → IsWithin (map stretch_of (plain_inodes ns)) (map stretch_of (plain_inodes ms))
stretches_among ns ms among s there =
    let found = Contains-map_from stretch_of (plain_inodes ns) s there in
    subst (λ (x : Stretch). Contains (map stretch_of (plain_inodes ms)) x) found.2
    (Contains-map stretch_of (plain_inodes ms) found.0 (inodes_among ns ms among found.0 found.1))

-- ---- the stretches of an image

-- that of what a tile gives
abbrev pub stretch_given : Option (ℕ × NodeRef) → Option Stretch
stretch_given None = None
stretch_given (Some (addr, Entry entry)) = None
stretch_given (Some (addr, Inode node)) = Some (stretch_of node)

-- where each tile has that of the node that it gives, they are those of the inode nodes
pub stretches_given : (e : Endian) (image : List ℕ) (gives : ℕ × Seen → Option (ℕ × NodeRef)) (ss : List (ℕ × Seen))
    → ((s : ℕ × Seen) → Contains ss s → stretch_sighted e image s ≡ stretch_given (gives s))
    → filter_map (stretch_sighted e image) ss ≡ map stretch_of (plain_inodes (filter_map gives ss))
stretches_given e image gives [] each = refl
stretches_given e image gives (s ∷ ss) each =
    by (gives s) (each s (Contains-here s ss)) (stretches_given e image gives ss (λ t there. each t (Contains-there s ss t there)))
  where
    by : (o : Option (ℕ × NodeRef)) → stretch_sighted e image s ≡ stretch_given o → filter_map (stretch_sighted e image) ss ≡ map stretch_of (plain_inodes (filter_map gives ss))
        → cons_option (stretch_sighted e image s) (filter_map (stretch_sighted e image) ss) ≡ map stretch_of (plain_inodes (cons_option o (filter_map gives ss)))
    by None is rest = ap (λ (o : Option Stretch). cons_option o (filter_map (stretch_sighted e image) ss)) is ∙ rest
    by (Some (addr, Entry entry)) is rest = ap (λ (o : Option Stretch). cons_option o (filter_map (stretch_sighted e image) ss)) is ∙ rest
    by (Some (addr, Inode node)) is rest =
        ap (λ (o : Option Stretch). cons_option o (filter_map (stretch_sighted e image) ss)) is ∙ ap (λ (l : List Stretch). stretch_of node ∷ l) rest

-- a tile that is not compressed has it
plain_given : (e : Endian) (image : List ℕ) (s : ℕ × Seen) → ((compr : ℕ) → s.1 ≡ seen.Compressed compr → ⊥) → stretch_sighted e image s ≡ stretch_given (node_sighted s)
plain_given e image (addr, seen.Entry entry) none = refl
plain_given e image (addr, seen.Inode node) none = refl
plain_given e image (addr, seen.Marker) none = refl
plain_given e image (addr, seen.Padding) none = refl
plain_given e image (addr, seen.Obsolete) none = refl
plain_given e image (addr, seen.Attribute) none = refl
plain_given e image (addr, seen.Skippable nodetype) none = refl
plain_given e image (addr, seen.ReadOnly nodetype) none = refl
plain_given e image (addr, seen.Incompatible nodetype) none = refl
plain_given e image (addr, seen.Compressed compr) none = absurd (none compr refl)
plain_given e image (addr, seen.Damaged which) none = refl

-- so the stretches of an image that mounts, which has no compressed nodes, are those of its inode
-- nodes
stretches_of_sound : (e : Endian) (size : ℕ) (image : List ℕ) → IsSound e size image → stretches e size image ≡ map stretch_of (plain_inodes (nodes e size image))
stretches_of_sound e size image sound =
    stretches_given e image node_sighted (sightings e size image)
    (λ s there. plain_given e image s (λ compr is.
    sound.1 s.0 (fault.Compressed s.0 compr) (refl, subst (λ (what : Seen). Contains (sightings e size image) (s.0, what)) is there)))

-- ---- lost nodes, one by one

-- it is an inode node that hides nothing
abbrev pub IsMissedNowhere : State → List Stretch → NodeRef → Type 0
IsMissedNowhere s others (Inode node) = hides_nothing others (size_at s node.ino) (stretch_of node) ≡ true
IsMissedNowhere s others (Entry entry) = ⊥

module _ (lost : ℕ → Bool) (s : State) (tops : FinMap nat_cmp ℕ) (others : List Stretch) where
  abbrev pub keeps : ℕ × NodeRef → Bool
  keeps n = not (lost n.0)

  -- nodes of an image without a fault, of which the lost ones hide nothing
  pub record AreFine (ns : List (ℕ × NodeRef)) : Type 0 where
    pub each : (n : ℕ × NodeRef) → Contains ns n → lost n.0 ≡ true → IsMissedNowhere s others n.1
    pub apart : NoInodesClash (plain_inodes ns)
    pub ranges : HoldRanges (plain_inodes ns)

  fewer : (ns ms : List (ℕ × NodeRef)) → AreAmong ns ms → AreFine ms → AreFine ns
  fewer ns ms among fine = record {
    each = λ n there. fine.each n (among n there);
    apart = λ node there other too. fine.apart node (inodes_among ns ms among node there) other (inodes_among ns ms among other too);
    ranges = λ node there. fine.ranges node (inodes_among ns ms among node there);
  }

  abbrev pub IsSame : List (ℕ × NodeRef) → Type 0
  IsSame ns = (state_of (plain ns) ≡ s) × (tops_of (plain ns) ≡ tops)

  one_lost : (pre post : List (ℕ × NodeRef)) (n : ℕ × NodeRef) → lost n.0 ≡ true → AreFine (pre ++ n ∷ post) → IsWithin others (map stretch_of (plain_inodes (pre ++ post))) → IsSame (pre ++ post) → IsSame (pre ++ n ∷ post)
  one_lost pre post (addr, Entry entry) e fine within same = absurd (fine.each (addr, Entry entry) (Contains-append_right pre ((addr, Entry entry) ∷ post) (addr, Entry entry) (Contains-here (addr, Entry entry) post)) e)
  one_lost pre post (addr, Inode node) e fine within same = (
    ap state_of with_it ∙ result.0 ∙ sym (ap state_of without) ∙ same.0,
    ap tops_of with_it ∙ result.1 ∙ sym (ap tops_of without) ∙ same.1,
  )
    where
      whole : List (ℕ × NodeRef)
      whole = pre ++ (addr, Inode node) ∷ post

      with_it : plain (pre ++ (addr, Inode node) ∷ post) ≡ plain pre ++ Inode node ∷ plain post
      with_it = map-append (λ (n : ℕ × NodeRef). n.1) pre ((addr, Inode node) ∷ post)

      without : plain (pre ++ post) ≡ plain pre ++ plain post
      without = map-append (λ (n : ℕ × NodeRef). n.1) pre post

      inodes_with : plain_inodes (pre ++ (addr, Inode node) ∷ post) ≡ inodes (plain pre) ++ node ∷ inodes (plain post)
      inodes_with = ap inodes with_it ∙ filter_map-append inode_in (plain pre) (Inode node ∷ plain post)

      inodes_without : plain_inodes (pre ++ post) ≡ inodes (plain pre) ++ inodes (plain post)
      inodes_without = ap inodes without ∙ filter_map-append inode_in (plain pre) (plain post)

      itself : Contains (pre ++ (addr, Inode node) ∷ post) (addr, Inode node)
      itself = Contains-append_right pre ((addr, Inode node) ∷ post) (addr, Inode node) (Contains-here (addr, Inode node) post)

      size_is : size_at s node.ino ≡ size_made (plain_inodes (pre ++ post)) node.ino
      size_is = ap (λ (x : State). size_at x node.ino) (sym same.0) ∙ ap (λ (o : Option (ObjectOf (List ℕ))). size_shown (option_map shown o)) (object-state_of (plain (pre ++ post)) node.ino)

      beside : hides_nothing (map stretch_of (plain_inodes (pre ++ post))) (size_made (plain_inodes (pre ++ post)) node.ino) (stretch_of node) ≡ true
      beside =
          subst (λ (size : ℕ). hides_nothing (map stretch_of (plain_inodes (pre ++ post))) size (stretch_of node) ≡ true) size_is
          (hides_beside_more others (map stretch_of (plain_inodes (pre ++ post))) (size_at s node.ino) (stretch_of node) within (fine.each (addr, Inode node) itself e))

      between : HidesNothingBetween (inodes (plain pre)) (inodes (plain post)) node
      between = record {
        ranges = subst HoldRanges inodes_with fine.ranges;
        apart = λ other there clash.
            fine.apart node (among_inodes (pre ++ (addr, Inode node) ∷ post) addr node itself) other
            (subst (λ (nodes : List InodeNode). Contains nodes other) (sym inodes_with)
            (Contains-append_right (inodes (plain pre)) (node ∷ inodes (plain post)) other (Contains-there node (inodes (plain post)) other there)))
            clash;
        hidden = subst (λ (nodes : List InodeNode). hides_nothing (map stretch_of nodes) (size_made nodes node.ino) (stretch_of node) ≡ true) inodes_without beside;
      }

      result : (state_of (plain pre ++ Inode node ∷ plain post) ≡ state_of (plain pre ++ plain post)) × (tops_of (plain pre ++ Inode node ∷ plain post) ≡ tops_of (plain pre ++ plain post))
      result = state_is_same_without (plain pre) (plain post) node between

  abbrev pub Kept : List (ℕ × NodeRef) → List (ℕ × NodeRef) → Type 0
  Kept pre post = AreFine (pre ++ post) → others ≡ map stretch_of (plain_inodes (pre ++ filter keeps post)) → IsSame (pre ++ filter keeps post) → IsSame (pre ++ post)

  pub without_lost : (pre post : List (ℕ × NodeRef)) → Kept pre post
  without_lost pre [] fine are same = same
  without_lost pre (n ∷ post) fine are same = by (lost n.0) refl (without_lost pre post) (without_lost (pre ++ n ∷ []) post)
    where
      left : (b : Bool) → lost n.0 ≡ b → pre ++ filter keeps (n ∷ post) ≡ pre ++ cond (not b) (n ∷ filter keeps post) (filter keeps post)
      left b e = ap (λ (t : Bool). pre ++ cond (not t) (n ∷ filter keeps post) (filter keeps post)) e

      among : AreAmong (pre ++ post) (pre ++ n ∷ post)
      among m there = in_between pre post n m there

      kept_among : AreAmong (pre ++ filter keeps post) (pre ++ post)
      kept_among m there =
          ⊎_elim
          (λ early. Contains-append_left pre post m early)
          (λ late. Contains-append_right pre post m (Contains-filter_from keeps post m late).0)
          (Contains-append_cases pre (filter keeps post) m there)

      by : (b : Bool) → lost n.0 ≡ b → Kept pre post → Kept (pre ++ n ∷ []) post → IsSame (pre ++ n ∷ post)
      by true e earlier later =
          let is : others ≡ map stretch_of (plain_inodes (pre ++ filter keeps post)) = are ∙ ap (λ (ns : List (ℕ × NodeRef)). map stretch_of (plain_inodes ns)) (left true e) in
          one_lost pre post n e fine
          (subst (λ (l : List Stretch). IsWithin l (map stretch_of (plain_inodes (pre ++ post)))) (sym is) (stretches_among (pre ++ filter keeps post) (pre ++ post) kept_among))
          (earlier (fewer (pre ++ post) (pre ++ n ∷ post) among fine) is (subst IsSame (left true e) same))
      by false e earlier later =
          let all : (pre ++ n ∷ []) ++ post ≡ pre ++ n ∷ post = append_assoc pre (n ∷ []) post in
          let some : pre ++ filter keeps (n ∷ post) ≡ (pre ++ n ∷ []) ++ filter keeps post = left false e ∙ sym (append_assoc pre (n ∷ []) (filter keeps post)) in
          subst IsSame all
          (later (subst AreFine (sym all) fine)
          (are ∙ ap (λ (ns : List (ℕ × NodeRef)). map stretch_of (plain_inodes ns)) some)
          (subst IsSame some same))

-- ---- the nodes of an image without a fault

-- no two nodes are at one address
one_address : (e : Endian) (size : ℕ) (image : List ℕ) (m n : ℕ × NodeRef) → Contains (nodes e size image) m → Contains (nodes e size image) n → m.0 ≡ n.0 → m ≡ n
one_address e size image m n there too same =
    let first = split_around (nodes e size image) m there in
    ⊎_elim
    (λ before.
    let second = split_around first.0 n before in
    let is : nodes e size image ≡ second.0 ++ n ∷ (second.1 ++ m ∷ first.1) =
    first.2 ∙ (ap (λ (l : List (ℕ × NodeRef)). l ++ m ∷ first.1) second.2 ∙ append_assoc second.0 (n ∷ second.1) (m ∷ first.1)) in
    let less : n.0 < m.0 =
    nodes_ascend e size image second.0 (second.1 ++ m ∷ first.1) n m is (Contains-append_right second.1 (m ∷ first.1) m (Contains-here m first.1)) in
    absurd (omega (arith, less, same)))
    (λ late. ⊎_elim
    (λ here. here)
    (λ behind. absurd (let less : m.0 < n.0 = nodes_ascend e size image first.0 first.1 m n first.2 behind in omega (arith, less, same)))
    (Contains-cases m first.1 n late))
    (Contains-append_cases first.0 (m ∷ first.1) n (subst (λ (ns : List (ℕ × NodeRef)). Contains ns n) first.2 too))

abbrev inode_or : InodeNode → NodeRef → InodeNode
inode_or other (Inode node) = node
inode_or other (Entry entry) = other

sound_apart : (e : Endian) (size : ℕ) (image : List ℕ) → IsSound e size image → NoInodesClash (plain_inodes (nodes e size image))
sound_apart e size image sound node there other too clash =
    let one = with_address (nodes e size image) node there in
    let two = with_address (nodes e size image) other too in
    ⊎_elim
    (λ below. sound.1 two.0 (fault.Clash two.0) (refl, (Inode other, one.0, Inode node, two.1, one.1, below, clash)))
    (λ (most : two.0 ≤ one.0). ⊎_elim
    (λ above. sound.1 one.0 (fault.Clash one.0) (refl, (Inode node, two.0, Inode other, one.1, two.1, above, clashes_sym (Inode other) (Inode node) clash)))
    (λ (least : one.0 ≤ two.0).
    let same : (two.0, Inode other) ≡ (one.0, Inode node) = one_address e size image (two.0, Inode other) (one.0, Inode node) two.1 one.1 (omega (arith, most, least)) in
    clash.contents (ap (λ (n : ℕ × NodeRef). inode_or other n.1) same))
    (cases_lt two.0 one.0))
    (cases_lt one.0 two.0)

sound_ranges : (e : Endian) (size : ℕ) (image : List ℕ) → IsSound e size image → HoldRanges (plain_inodes (nodes e size image))
sound_ranges e size image sound node there =
    let found = with_address (nodes e size image) node there in
    (nodes_writable e size image (found.0, Inode node) sound.0.0 found.1).stored

-- ---- the image

pub missed_nowhere : (s : State) (others : List Stretch) (fields : Stretch) (node : NodeRef) → HasFields fields node → changes_nothing s others fields ≡ true → IsMissedNowhere s others node
missed_nowhere s others fields (Inode node) is hidden = subst (λ (x : Stretch). hides_nothing others (size_at s x.ino) x ≡ true) (sym is) hidden
missed_nowhere s others fields (Entry entry) is hidden = is

pub image_is_same_without : ImageIsSameWithout
image_is_same_without e size m whole lost mount sound was hidden =
    let ns = nodes e size whole in
    let others = stretches e size m.image in
    let kept : plain_nodes e size m.image ≡ plain (filter (λ n. not (lost n.0)) ns) = ap (λ (l : List (ℕ × NodeRef)). plain l) was.kept in
    let fine : AreFine lost m.state m.tops others ns = record {
      each = λ n there is. missed_nowhere m.state others (stretch_at e m.image n.0) n.1 (was.fields n.0 n.1 there is) (hidden n.0 is);
      apart = sound_apart e size whole sound;
      ranges = sound_ranges e size whole sound;
    } in
    let same = without_lost lost m.state m.tops others [] ns fine
    (stretches_of_sound e size m.image mount.mounts.sound ∙ ap (λ (l : List NodeRef). map stretch_of (inodes l)) kept)
    (sym (ap state_of kept) ∙ mount.mounts.same, sym (ap tops_of kept) ∙ sym mount.tops) in (
      record {
        sound = sound;
        root = subst (λ (s : State). IsTrue (is_directory s 1)) (mount.mounts.same ∙ sym same.0) mount.mounts.root;
        same = same.0;
      },
      same.1,
    )
