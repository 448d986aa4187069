-- The object of a reached number is the same of the nodes that matter.
use Rattle.std.proofs.Common.{◌≡◌, ℕ, ◌<◌, ◌≤◌, Bool, true, false, List, length, map, get_or, Option, Some, None, refl, ap, sym, subst, ◌∙◌, arith}
use Rattle.std.specs.Prelude.{◌&&◌, ◌||◌, ◌==◌, not, filter, Contains, option_map, is_some}
use Rattle.std.specs.List.{list_any, Any}
use Rattle.std.proofs.lemmas.Bool.{eqb-true, eq-eqb, false_from_ne_true, true≢false, false≢true}
use Rattle.std.proofs.lemmas.Option.{same_Some}
use Rattle.std.proofs.lemmas.List.Elements.{All-contains, Contains-get_or}
use Rattle.flashbase.specs.Lists.{below}
use Rattle.flashbase.proofs.ListLemmas.{length-each_below, newest_is_newest, newest_of_none}
use Rattle.flashbase.proofs.MemberLemmas.{Contains-none, Contains-map, Contains-map_from, Contains-filter, Contains-filter_from, Contains-filter_map, Contains-filter_map_from, Contains-below, Contains-below_from}
use Rattle.jnode.specs.declared.node.InodeNode.{InodeNode}
use Rattle.jnode.specs.declared.node.NodeRef.{NodeRef}
use Rattle.jnode.specs.declared.node.NodeRef.TheVariants.{Entry, Inode}
use Rattle.jfrag.specs.declared.piece.Piece.{Piece}
use Rattle.jfrag.specs.Pieces.{covers}
use Rattle.jfrag.specs.Overlays.{Visible, GivesAt, IsHighestAt, visible, byte_at}
use Rattle.jfrag.proofs.OverlaysLemmas.{visible_is_highest, only_one_is_highest}
use Rattle.jname.proofs.LiveLemmas.{both_true}
use Rattle.jmount.specs.Clash.{NoInodesClash, NoneClash}
use Rattle.jmount.specs.Collected.{without_addresses}
use Rattle.jmount.specs.Tree.{ObjectOf}
use Rattle.jmount.specs.StateOf.{inode_in, inodes, versions_of, latest, piece_of, contents, object_by, object_of, or_root}
use Rattle.jmount.proofs.ObjectsLemmas.{in_versions, of_versions}
use Rattle.jmount.proofs.StateLemmas.{AreVersions, versions-AreVersions, one_field, pieces_agree, same_device}
use Rattle.jcompact.specs.Matters.{Placed, is_for_same, is_above, counts_above, is_newest, has_byte, shows_at, shows, size_if, latest_size, matters}
use Rattle.jcompact.proofs.TopLemmas.{left_or, right_or, both, any_of, none_any, map_same, IsTopOf, top_of}

-- ---- inode nodes with their addresses

of_inode : (x : NodeRef) (node : InodeNode) → inode_in x ≡ Some node → x ≡ Inode node
of_inode (Inode n) node e = ap (λ (m : InodeNode). Inode m) (same_Some n node e)
of_inode (Entry n) node e = absurd (false≢true (ap is_some e))

pub inode_at : (xs : List Placed) (node : InodeNode) → Contains (inodes (without_addresses xs)) node → (addr : ℕ) × Contains xs (addr, Inode node)
inode_at xs node c =
    let found = Contains-filter_map_from inode_in (without_addresses xs) node c in
    let placed = Contains-map_from (λ (n : Placed). n.1) xs found.0 found.1 in
    let is : placed.0.1 ≡ Inode node = placed.2 ∙ of_inode found.0 node found.2 in
    (placed.0.0, subst (λ (r : NodeRef). Contains xs (placed.0.0, r)) is placed.1)

pub at_inode : (xs : List Placed) (addr : ℕ) (node : InodeNode) → Contains xs (addr, Inode node) → Contains (inodes (without_addresses xs)) node
at_inode xs addr node c = Contains-filter_map inode_in (without_addresses xs) (Inode node) node (Contains-map (λ (n : Placed). n.1) xs (addr, Inode node) c) refl

pub inodes_apart : (xs : List Placed) → NoneClash (without_addresses xs) → NoInodesClash (inodes (without_addresses xs))
inodes_apart xs apart node c other d clash =
    let at = inode_at xs node c in
    let by = inode_at xs other d in
    apart (Inode other) (Inode node) (Contains-map (λ (n : Placed). n.1) xs (by.0, Inode other) by.1) (Contains-map (λ (n : Placed). n.1) xs (at.0, Inode node) at.1) clash

-- ---- versions of a number

abbrev is_version : ℕ → NodeRef → Bool
is_version i (Inode node) = node.ino == i
is_version i (Entry entry) = false

same_version : (r : NodeRef) (node : InodeNode) (i : ℕ) → is_for_same r (Inode node) ≡ true → node.ino ≡ i → is_version i r ≡ true
same_version (Inode a) node i h e = eq-eqb a.ino i (eqb-true a.ino node.ino h ∙ e)
same_version (Entry a) node i h e = absurd (false≢true h)

pub record Higher (bs : List InodeNode) (x y : InodeNode) : Type 0 where
  pub there : Contains bs y
  pub high : x.version ≤ y.version

any_elsewhere : {X : Type 0} (P : X → Type 0) (a b : List X) → ((x : X) → Contains a x → Contains b x) → Any P a → Any P b
any_elsewhere P a b h (k, x, k_in, at_k, here) = let there = h x (k, k_in, at_k) in (there.0, x, there.1, there.2, here)

abbrev body_size : Option (ObjectOf (List ℕ)) → ℕ
body_size None = 0
body_size (Some o) = length o.body

size_by : (versions : List InodeNode) (o : Option InodeNode) → body_size (option_map (object_by versions) o) ≡ size_if o
size_by versions None = refl
size_by versions (Some node) = length-each_below node.isize (λ place. byte_at (visible (map piece_of versions) place))

module _ (ns kept : List Placed) (reached : ℕ → Bool) (apart : NoneClash (without_addresses ns)) (is : kept ≡ filter (matters ns reached) ns) where
  pub kept_in : (n : Placed) → Contains ns n → matters ns reached n ≡ true → Contains kept n
  kept_in n c h = subst (λ (ks : List Placed). Contains ks n) (sym is) (Contains-filter (matters ns reached) ns n h c)

  pub kept_from : (n : Placed) → Contains kept n → Contains ns n × (matters ns reached n ≡ true)
  kept_from n c = Contains-filter_from (matters ns reached) ns n (subst (λ (ks : List Placed). Contains ks n) is c)

  abbrev olds : ℕ → List InodeNode
  olds i = versions_of (inodes (without_addresses ns)) i

  abbrev news : ℕ → List InodeNode
  news i = versions_of (inodes (without_addresses kept)) i

  within : (i : ℕ) (x : InodeNode) → Contains (news i) x → Contains (olds i) x
  within i x c =
      let found = of_versions (inodes (without_addresses kept)) i x c in
      let at = inode_at kept x found.0 in
      in_versions (inodes (without_addresses ns)) i x (at_inode ns at.0 x (kept_from (at.0, Inode x) at.1).0) found.1

  are : (i : ℕ) → AreVersions i (olds i)
  are i = versions-AreVersions (inodes (without_addresses ns)) i (inodes_apart ns apart)

  -- a node that matters is among those that are kept
  version_kept : (i addr : ℕ) (node : InodeNode) → reached i ≡ true → Contains ns (addr, Inode node) → node.ino ≡ i
      → (is_newest ns (addr, Inode node) || shows ns (latest_size ns node.ino) (addr, Inode node)) ≡ true → Contains (news i) node
  version_kept i addr node met c same counts =
      in_versions (inodes (without_addresses kept)) i node
      (at_inode kept addr node
      (kept_in (addr, Inode node) c
      (both (reached node.ino) (is_newest ns (addr, Inode node) || shows ns (latest_size ns node.ino) (addr, Inode node)) (ap reached same ∙ met) counts)))
      same

  -- of each node one of as high a version is kept
  newest_top : (i at : ℕ) (x : InodeNode) → reached i ≡ true → (y : Placed) → IsTopOf (λ (m : Placed). is_version i m.1) ns (at, Inode x) y → (z : InodeNode) × Higher (news i) x z
  newest_top i at x met (addr, Entry entry) t = absurd (false≢true t.passes)
  newest_top i at x met (addr, Inode node) t =
      let same : node.ino ≡ i = eqb-true node.ino i t.passes in
      let none : list_any (λ (m : Placed). counts_above m (addr, Inode node)) ns ≡ false = none_any (λ (m : Placed). counts_above m (addr, Inode node)) ns
      (λ m cm.
      false_from_ne_true (counts_above m (addr, Inode node))
      (λ up.
      let parts = both_true (is_for_same m.1 (Inode node)) (is_above m (addr, Inode node)) up in
      true≢false (sym parts.1 ∙ t.none m cm (same_version m.1 node i parts.0 same)))) in (
        node,
        record {
          there = version_kept i addr node met t.there same (left_or (is_newest ns (addr, Inode node)) (shows ns (latest_size ns node.ino) (addr, Inode node)) (ap not none));
          high = t.high;
        },
      )

  newest_kept : (i : ℕ) (x : InodeNode) → reached i ≡ true → Contains (olds i) x → (y : InodeNode) × Higher (news i) x y
  newest_kept i x met c =
      let found = of_versions (inodes (without_addresses ns)) i x c in
      let at = inode_at ns x found.0 in
      let top = top_of (λ (m : Placed). is_version i m.1) ns (at.0, Inode x) at.1 (eq-eqb x.ino i found.1) in
      newest_top i at.0 x met top.0 top.1

  -- of each node that covers a place below the size
  abbrev covering : ℕ → ℕ → Placed → Bool
  covering i place m = is_version i m.1 && has_byte place m.1

  shown_top : (i place at : ℕ) (x : InodeNode) → reached i ≡ true → place < latest_size ns i → (y : Placed) → IsTopOf (covering i place) ns (at, Inode x) y
      → (z : InodeNode) × Higher (news i) x z × (covers place (piece_of z) ≡ true)
  shown_top i place at x met less (addr, Entry entry) t = absurd (false≢true t.passes)
  shown_top i place at x met less (addr, Inode node) t =
      let n : Placed = (addr, Inode node) in
      let tests = both_true (node.ino == i) (covers place (piece_of node)) t.passes in
      let same : node.ino ≡ i = eqb-true node.ino i tests.0 in
      let none : list_any (λ (m : Placed). counts_above m n && has_byte place m.1) ns ≡ false = none_any (λ (m : Placed). counts_above m n && has_byte place m.1) ns
      (λ m cm.
      false_from_ne_true (counts_above m n && has_byte place m.1)
      (λ up.
      let halves = both_true (counts_above m n) (has_byte place m.1) up in
      let parts = both_true (is_for_same m.1 (Inode node)) (is_above m n) halves.0 in
      true≢false (sym parts.1 ∙ t.none m cm (both (is_version i m.1) (has_byte place m.1) (same_version m.1 node i parts.0 same) halves.1)))) in
      let here : shows_at ns n place ≡ true = both (covers place (piece_of node)) (not (list_any (λ (m : Placed). counts_above m n && has_byte place m.1) ns)) tests.1 (ap not none) in
      let size : latest_size ns i ≡ latest_size ns node.ino = ap (latest_size ns) (sym same) in
      let shown : shows ns (latest_size ns node.ino) n ≡ true = any_of (shows_at ns n) (below (latest_size ns node.ino)) place (Contains-below (latest_size ns node.ino) place (omega arith)) here in (
        node,
        record {
          there = version_kept i addr node met t.there same (right_or (is_newest ns n) (shows ns (latest_size ns node.ino) n) shown);
          high = t.high;
        },
        tests.1,
      )

  shown_kept : (i place : ℕ) (x : InodeNode) → reached i ≡ true → place < latest_size ns i → Contains (olds i) x → covers place (piece_of x) ≡ true
      → (y : InodeNode) × Higher (news i) x y × (covers place (piece_of y) ≡ true)
  shown_kept i place x met less c over =
      let found = of_versions (inodes (without_addresses ns)) i x c in
      let at = inode_at ns x found.0 in
      let top = top_of (covering i place) ns (at.0, Inode x) at.1 (both (x.ino == i) (covers place (piece_of x)) (eq-eqb x.ino i found.1) over) in
      shown_top i place at.0 x met less top.0 top.1

  -- ---- bytes

  pieces_within : (i : ℕ) (p : Piece) → Contains (map piece_of (news i)) p → Contains (map piece_of (olds i)) p
  pieces_within i p c =
      let found = Contains-map_from piece_of (news i) p c in
      subst (λ (q : Piece). Contains (map piece_of (olds i)) q) found.2 (Contains-map piece_of (olds i) found.0 (within i found.0 found.1))

  raised : (i place : ℕ) → reached i ≡ true → place < latest_size ns i → (s : Visible) → IsHighestAt (map piece_of (news i)) place s → IsHighestAt (map piece_of (olds i)) place s
  raised i place met less None h = λ k d l over.
      let found = Contains-map_from piece_of (olds i) (get_or (map piece_of (olds i)) k d) (Contains-get_or (map piece_of (olds i)) k d l) in
      let there = shown_kept i place found.0 met less found.1 (ap (covers place) found.2 ∙ over) in
      All-contains (λ (p : Piece). covers place p ≡ true → ⊥) (map piece_of (news i)) (piece_of there.0) h (Contains-map piece_of (news i) there.0 there.1.there) there.2
  raised i place met less (Some there) h = (
    any_elsewhere (GivesAt place there) (map piece_of (news i)) (map piece_of (olds i)) (pieces_within i) h.0,
    λ k d l over.
        let found = Contains-map_from piece_of (olds i) (get_or (map piece_of (olds i)) k d) (Contains-get_or (map piece_of (olds i)) k d l) in
        let high = shown_kept i place found.0 met less found.1 (ap (covers place) found.2 ∙ over) in
        let most : high.0.version ≤ there.0 = All-contains (λ (p : Piece). covers place p ≡ true → p.version ≤ there.0) (map piece_of (news i)) (piece_of high.0) h.1 (Contains-map piece_of (news i) high.0 high.1.there) high.2 in
        let more : found.0.version ≤ high.0.version = high.1.high in
        let same : found.0.version ≡ (get_or (map piece_of (olds i)) k d).version = ap (λ (p : Piece). p.version) found.2 in
        omega arith,
  )

  bytes_same : (i size : ℕ) → reached i ≡ true → latest_size ns i ≡ size → contents (news i) size ≡ contents (olds i) size
  bytes_same i size met e =
      map_same (λ (place : ℕ). byte_at (visible (map piece_of (news i)) place)) (λ (place : ℕ). byte_at (visible (map piece_of (olds i)) place)) (below size)
      (λ place c.
      let less : place < size = Contains-below_from size place c in
      ap byte_at
      (only_one_is_highest (map piece_of (olds i)) place (visible (map piece_of (news i)) place) (pieces_agree i (olds i) (are i) place)
      (raised i place met (omega arith) (visible (map piece_of (news i)) place) (visible_is_highest (map piece_of (news i)) place))))

  -- ---- the object

  by_latest : (i : ℕ) → reached i ≡ true → (o p : Option InodeNode) → latest (olds i) ≡ o → latest (news i) ≡ p
      → option_map (object_by (news i)) p ≡ option_map (object_by (olds i)) o
  by_latest i met None None e f = refl
  by_latest i met None (Some z) e f =
      let in_z = within i z (newest_is_newest (news i) (λ node. node.version) z f).0 in
      absurd (Contains-none z (subst (λ (xs : List InodeNode). Contains xs z) (newest_of_none (olds i) (λ node. node.version) e) in_z))
  by_latest i met (Some y) None e f =
      let there = newest_kept i y met (newest_is_newest (olds i) (λ node. node.version) y e).0 in
      absurd (Contains-none there.0 (subst (λ (xs : List InodeNode). Contains xs there.0) (newest_of_none (news i) (λ node. node.version) f) there.1.there))
  by_latest i met (Some y) (Some z) e f =
      let is_y = newest_is_newest (olds i) (λ node. node.version) y e in
      let is_z = newest_is_newest (news i) (λ node. node.version) z f in
      let in_z = within i z is_z.0 in
      let there = newest_kept i y met is_y.0 in
      let up : y.version ≤ there.0.version = there.1.high in
      let low : there.0.version ≤ z.version = is_z.1 there.0 there.1.there in
      let high : z.version ≤ y.version = is_y.1 z in_z in
      let version : z.version ≡ y.version = omega arith in
      let field : (g : InodeNode → ℕ) → g z ≡ g y = one_field i (olds i) (are i) z y in_z is_y.0 version in
      let size : latest_size ns i ≡ y.isize = ap size_if e in
      let bytes : contents (news i) z.isize ≡ contents (olds i) y.isize = ap (contents (news i)) (field (λ n. n.isize)) ∙ bytes_same i y.isize met size in
      ap Some
      (λ j. record {
        mode = field (λ n. n.mode) j;
        uid = field (λ n. n.uid) j;
        gid = field (λ n. n.gid) j;
        atime = field (λ n. n.atime) j;
        mtime = field (λ n. n.mtime) j;
        ctime = field (λ n. n.ctime) j;
        device = same_device z y field j;
        body = bytes j;
      })

  pub object_kept : (i : ℕ) → reached i ≡ true → object_of (inodes (without_addresses kept)) i ≡ object_of (inodes (without_addresses ns)) i
  object_kept i met = ap (or_root i) (by_latest i met (latest (olds i)) (latest (news i)) refl refl)

  -- and its size
  pub size_kept : (i : ℕ) → reached i ≡ true → latest_size kept i ≡ latest_size ns i
  size_kept i met =
      sym (size_by (news i) (latest (news i)))
      ∙ ap body_size (by_latest i met (latest (olds i)) (latest (news i)) refl refl)
      ∙ size_by (olds i) (latest (olds i))
