-- Why an object would be another one with a node that does not hide nothing.
use Rattle.std.proofs.Common.{◌≡◌, ◌≢◌, ℕ, zero, suc, ◌+◌, ◌-◌, ◌<◌, ◌≤◌, Bool, true, false, ◌&&◌, List, [], ◌∷◌, ◌++◌, map, Option, Some, None, refl, ap, sym, ◌∙◌, subst, ⊎_elim, min, arith, replicate}
use Rattle.std.specs.Prelude.{Contains, option_map, nat_lt, nat_le, ◌==◌, ◌||◌, slice_index, if◌then◌else◌}
use Rattle.std.specs.List.{list_any, list_all}
use Rattle.std.proofs.lemmas.Bool.{or_parts, le-leb, lt-ltb, eq-eqb, eqb-true, eqb-false, ltb-false, false≢true, true≢false, cases_lt}
use Rattle.std.proofs.lemmas.Option.{same_Some}
use Rattle.std.proofs.lemmas.List.{length-replicate, get_or-replicate}
use Rattle.std.proofs.lemmas.List.Elements.{filter-append, Contains-append_right}
use Rattle.std.proofs.lemmas.List.Folds.{list_all-append, list_any-from_Any}
use Rattle.flashbase.specs.Lists.{below, newest}
use Rattle.flashbase.proofs.ListLemmas.{length-each_below, newest_of_none}
use Rattle.flashbase.proofs.MemberLemmas.{Contains-none, Contains-map, Contains-map_from, Contains-filter_from}
use Rattle.jnode.specs.Writing.{HoldsRange}
use Rattle.jnode.specs.declared.node.Fill.TheVariants as fill
use Rattle.jnode.specs.declared.node.InodeNode.{InodeNode}
use Rattle.jfrag.specs.declared.piece.Piece.{Piece}
use Rattle.jfrag.specs.Pieces.{covers, byte_of}
use Rattle.jfrag.specs.Overlays.{visible, byte_at}
use Rattle.jfrag.proofs.OverlaysLemmas.{content_is_visible}
use Rattle.jmount.specs.Shown.{shown}
use Rattle.jmount.specs.StateOf.{versions_of, latest, piece_of, object_by, object_from, object_of, or_root}
use Rattle.jmount.specs.Tree.{ObjectOf}
use Rattle.jmount.proofs.ObjectsLemmas.{in_versions, of_versions}
use Rattle.jgaps.specs.Gaps.{has_place}
use Rattle.jdamage.specs.Coverage.{is_not_older, is_replaced, is_replaced_below, hides_nothing}
use Rattle.jdamage.specs.Damage.{size_shown}
use Rattle.jgaps.specs.Fields.{stretch_of}
use Rattle.jdamage.specs.Laws.{HoldRanges, HasOwnVersion, ObjectWouldChange, size_made}
use Rattle.jgaps.specs.declared.fields.Stretch.{Stretch}
use Rattle.jdamage.proofs.BetweenLemmas.{newest_between, one_more_between}
use Rattle.jdamage.proofs.WithoutLemmas.{found, not_older, covers_range, shown_at, shown-append, piece_version, split_versions}

-- ---- tests that fail

none_passes : (p : Stretch → Bool) (nodes : List InodeNode) (node : InodeNode) → list_any p (map stretch_of nodes) ≡ false → Contains nodes node → p (stretch_of node) ≡ true → ⊥
none_passes p nodes node none there passes =
    let at = Contains-map stretch_of nodes node there in
    false≢true (sym none ∙ list_any-from_Any p (map stretch_of nodes) (at.0, stretch_of node, at.1, at.2, passes))

fails_at : (p : ℕ → Bool) (n : ℕ) → list_all p (below n) ≡ false → (q : ℕ) × (q < n) × (p q ≡ false)
fails_at p zero fails = absurd (true≢false fails)
fails_at p (suc n) fails = by (list_all p (below n)) refl (fails_at p n)
  where
    last : (b : Bool) → (b && true) ≡ false → b ≡ false
    last true e = e
    last false e = e

    by : (b : Bool) → list_all p (below n) ≡ b → (list_all p (below n) ≡ false → (q : ℕ) × (q < n) × (p q ≡ false)) → (q : ℕ) × (q < suc n) × (p q ≡ false)
    by false e earlier = let at = earlier e in (at.0, (let less : at.0 < n = at.1 in omega (arith, less)), at.2)
    by true e earlier =
        (n, omega arith, last (p n) (ap (λ b. b && (p n && true)) (sym e) ∙ sym (list_all-append p (below n) (n ∷ [])) ∙ fails))

-- a number that is not this one
abbrev other_than : ℕ → ℕ
other_than n = if n == 0 then 1 else 0

is_other : (n : ℕ) → other_than n ≢ n
is_other n = by (n == 0) refl
  where
    by : (b : Bool) → (n == 0) ≡ b → (if b then 1 else 0) ≢ n
    by true e same = let zero_is : n ≡ 0 = eqb-true n 0 e in absurd (omega (arith, same, zero_is))
    by false e same = eqb-false n 0 e (sym same)

abbrev mode_at : Option (ObjectOf (List ℕ)) → ℕ
mode_at None = 0
mode_at (Some o) = o.mode

-- ---- a node with these fields

module _ (front back : List InodeNode) (lost : Stretch) (ranges : HoldRanges (front ++ back)) (alone : HasOwnVersion (front ++ back) lost) (long : lost.from ≤ lost.to) where
  abbrev others : List InodeNode
  others = front ++ back

  abbrev before : List InodeNode
  before = versions_of front lost.ino

  abbrev after : List InodeNode
  after = versions_of back lost.ino

  abbrev made : ℕ → ℕ → InodeNode
  made mode byte = record {
    ino = lost.ino;
    version = lost.version;
    mode = mode;
    uid = 0;
    gid = 0;
    isize = 0;
    atime = 0;
    mtime = 0;
    ctime = 0;
    offset = lost.from;
    dsize = lost.to - lost.from;
    fill = fill.Data (replicate (lost.to - lost.from) byte);
  }

  made_fields : (mode byte : ℕ) → stretch_of (made mode byte) ≡ lost
  made_fields mode byte =
      let end : lost.from + (lost.to - lost.from) ≡ lost.to = omega (arith, long) in
      λ j. record { ino = lost.ino; version = lost.version; from = lost.from; to = end j }

  made_holds : (mode byte : ℕ) → HoldsRange (made mode byte).fill (made mode byte).dsize
  made_holds mode byte = length-replicate (lost.to - lost.from) byte

  split_others : versions_of others lost.ino ≡ before ++ after
  split_others = filter-append (λ node. lost.ino == node.ino) front back

  of_object : (node : InodeNode) → Contains (before ++ after) node → Contains others node × (node.ino ≡ lost.ino)
  of_object node there = of_versions others lost.ino node (subst (λ (nodes : List InodeNode). Contains nodes node) (sym split_others) there)

  -- the test of one that is not older
  test_newer : (node : InodeNode) → node.ino ≡ lost.ino → lost.version ≤ node.version → is_not_older lost (stretch_of node) ≡ true
  test_newer node number high = ap (λ b. b && nat_le lost.version node.version) (eq-eqb node.ino lost.ino number) ∙ le-leb lost.version node.version high

  -- ---- the attributes

  all_older : list_any (is_not_older lost) (map stretch_of others) ≡ false → (node : InodeNode) → Contains (before ++ after) node → node.version < lost.version
  all_older none node there =
      let of_it = of_object node there in
      ⊎_elim (λ less. less) (λ high. absurd (none_passes (is_not_older lost) others node none of_it.0 (test_newer node of_it.1 high))) (cases_lt node.version lost.version)

  new_attributes : list_any (is_not_older lost) (map stretch_of others) ≡ false → (mode : ℕ) → mode_at (object_of (front ++ made mode 0 ∷ back) lost.ino) ≡ mode
  new_attributes none mode =
      let node = made mode 0 in
      ap (λ (nodes : List InodeNode). mode_at (object_from lost.ino nodes)) (split_versions front back node)
      ∙ ap (λ (there : Option InodeNode). mode_at (or_root lost.ino (option_map (object_by (before ++ node ∷ after)) there)))
      (newest_between (λ (n : InodeNode). n.version) node before after (all_older none))

  by_attributes : list_any (is_not_older lost) (map stretch_of others) ≡ false
      → object_of (front ++ made (other_than (mode_at (object_of others lost.ino))) 0 ∷ back) lost.ino ≢ object_of others lost.ino
  by_attributes none same =
      let mode = other_than (mode_at (object_of others lost.ino)) in
      is_other (mode_at (object_of others lost.ino)) (sym (new_attributes none mode) ∙ ap mode_at same)

  -- ---- a byte

  module _ (some : list_any (is_not_older lost) (map stretch_of others) ≡ true) (place : ℕ) (from : lost.from ≤ place) (to : place < lost.to) (within : place < size_made others lost.ino)
      (bare : list_any (λ s. is_not_older lost s && has_place place s) (map stretch_of others) ≡ false) where
    abbrev byte_there : ℕ
    byte_there = byte_at (visible (map piece_of (before ++ after)) place)

    abbrev node : InodeNode
    node = made 0 (other_than byte_there)

    same_latest : latest (before ++ node ∷ after) ≡ latest (before ++ after)
    same_latest =
        let one = found (is_not_older lost) others some in
        let newer = not_older node one.0 (subst (λ (s : Stretch). is_not_older s (stretch_of one.0) ≡ true) (sym (made_fields 0 (other_than byte_there))) one.2) in
        one_more_between (λ (n : InodeNode). n.version) node before after one.0
        (λ n there version. absurd (let of_it = of_versions back lost.ino n there in alone n (in_others n of_it.0) of_it.1 version))
        (subst (λ (nodes : List InodeNode). Contains nodes one.0) split_others (in_versions others lost.ino one.0 one.1 newer.number)) newer.high
      where
        in_others : (n : InodeNode) → Contains back n → Contains (front ++ back) n
        in_others n there = Contains-append_right front back n there

    covering : covers place (piece_of node) ≡ true
    covering =
        covers_range node (made_holds 0 (other_than byte_there)) place ∙ ap (has_place place) (made_fields 0 (other_than byte_there))
        ∙ ap (λ b. b && nat_lt place lost.to) (le-leb lost.from place from) ∙ lt-ltb place lost.to to

    lower : (piece : Piece) → Contains (shown_at place before ++ shown_at place after) piece → piece.version < lost.version
    lower piece there =
        let over = Contains-filter_from (covers place) (map piece_of (before ++ after)) piece (subst (λ (ps : List Piece). Contains ps piece) (sym (shown-append place before after)) there) in
        let of_node = Contains-map_from piece_of (before ++ after) piece over.0 in
        let of_it = of_object of_node.0 of_node.1 in
        let has : has_place place (stretch_of of_node.0) ≡ true =
        sym (covers_range of_node.0 (ranges of_node.0 of_it.0) place) ∙ ap (covers place) of_node.2 ∙ over.1 in
        let version : of_node.0.version ≡ piece.version = ap piece_version of_node.2 in
        ⊎_elim
        (λ less. omega (arith, less, version))
        (λ high. absurd (none_passes (λ s. is_not_older lost s && has_place place s) others of_node.0 bare of_it.0
        (ap (λ b. b && has_place place (stretch_of of_node.0)) (test_newer of_node.0 of_it.1 high) ∙ has)))
        (cases_lt of_node.0.version lost.version)

    new_visible : visible (map piece_of (before ++ node ∷ after)) place ≡ Some (lost.version, byte_of place (piece_of node))
    new_visible =
        ap (option_map (λ (piece : Piece). (piece.version, byte_of place piece)))
        (ap (newest piece_version)
        (shown-append place before (node ∷ after) ∙ ap (λ (b : Bool). shown_at place before ++ (if b then piece_of node ∷ shown_at place after else shown_at place after)) covering)
        ∙ newest_between piece_version (piece_of node) (shown_at place before) (shown_at place after) lower)

    new_byte : byte_at (visible (map piece_of (before ++ node ∷ after)) place) ≡ other_than byte_there
    new_byte = ap byte_at new_visible ∙ get_or-replicate (lost.to - lost.from) (place - lost.from) (other_than byte_there) 0 (omega (arith, from, to))

    size_is : (w : InodeNode) → latest (before ++ after) ≡ Some w → size_made others lost.ino ≡ w.isize
    size_is w e =
        ap (λ (nodes : List InodeNode). size_shown (option_map shown (object_from lost.ino nodes))) split_others
        ∙ ap (λ (there : Option InodeNode). size_shown (option_map shown (or_root lost.ino (option_map (object_by (before ++ after)) there)))) e
        ∙ length-each_below w.isize (λ q. byte_at (visible (map piece_of (before ++ after)) q))

    object_old : object_of others lost.ino ≡ object_from lost.ino (before ++ after)
    object_old = ap (object_from lost.ino) split_others

    object_new : object_of (front ++ node ∷ back) lost.ino ≡ or_root lost.ino (option_map (object_by (before ++ node ∷ after)) (latest (before ++ after)))
    object_new =
        ap (object_from lost.ino) (split_versions front back node)
        ∙ ap (λ (there : Option InodeNode). or_root lost.ino (option_map (object_by (before ++ node ∷ after)) there)) same_latest

    by_byte : object_of (front ++ node ∷ back) lost.ino ≢ object_of others lost.ino
    by_byte same = by (latest (before ++ after)) refl
      where
        one : Contains (before ++ after) (found (is_not_older lost) others some).0
        one =
            let one = found (is_not_older lost) others some in
            let newer = not_older node one.0 (subst (λ (s : Stretch). is_not_older s (stretch_of one.0) ≡ true) (sym (made_fields 0 (other_than byte_there))) one.2) in
            subst (λ (nodes : List InodeNode). Contains nodes one.0) split_others (in_versions others lost.ino one.0 one.1 newer.number)

        by : (there : Option InodeNode) → latest (before ++ after) ≡ there → ⊥
        by None e = Contains-none (found (is_not_older lost) others some).0 (subst (λ (nodes : List InodeNode). Contains nodes (found (is_not_older lost) others some).0) (newest_of_none (before ++ after) (λ (n : InodeNode). n.version) e) one)
        by (Some w) e =
            let less : place < w.isize = omega (arith, within, size_is w e) in
            let with_it : object_of (front ++ node ∷ back) lost.ino ≡ Some (object_by (before ++ node ∷ after) w) =
            object_new ∙ ap (λ (there : Option InodeNode). or_root lost.ino (option_map (object_by (before ++ node ∷ after)) there)) e in
            let without : object_of others lost.ino ≡ Some (object_by (before ++ after) w) =
            object_old ∙ ap (λ (there : Option InodeNode). or_root lost.ino (option_map (object_by (before ++ after)) there)) e in
            let objects : object_by (before ++ node ∷ after) w ≡ object_by (before ++ after) w = same_Some _ _ (sym with_it ∙ same ∙ without) in
            let bytes : byte_at (visible (map piece_of (before ++ node ∷ after)) place) ≡ byte_there =
            sym (content_is_visible (map piece_of (before ++ node ∷ after)) w.isize place less).1
            ∙ ap (λ (o : ObjectOf (List ℕ)). slice_index o.body place) objects
            ∙ (content_is_visible (map piece_of (before ++ after)) w.isize place less).1 in
            is_other byte_there (sym new_byte ∙ bytes)

  -- ---- both

  abbrev Changed : Type 0
  Changed =
      (node : InodeNode) × (stretch_of node ≡ lost) × HoldsRange node.fill node.dsize × (object_of (front ++ node ∷ back) lost.ino ≢ object_of (front ++ back) lost.ino)

  would_change : hides_nothing (map stretch_of others) (size_made others lost.ino) lost ≡ false → Changed
  unfolding hides_nothing is_replaced_below is_replaced
  would_change hides = by (list_any (is_not_older lost) (map stretch_of others)) refl
    where
      second : (b c : Bool) → b ≡ true → (b && c) ≡ false → c ≡ false
      second true c e f = f
      second false c e f = absurd (false≢true e)

      by : (b : Bool) → list_any (is_not_older lost) (map stretch_of others) ≡ b → Changed
      by false e =
          let mode = other_than (mode_at (object_of others lost.ino)) in
          (made mode 0, made_fields mode 0, made_holds mode 0, by_attributes e)
      by true e =
          let end : ℕ = min lost.to (size_made others lost.ino) in
          let fails = second (list_any (is_not_older lost) (map stretch_of others)) (is_replaced_below (map stretch_of others) lost end) e hides in
          let at = fails_at (λ q. nat_lt q lost.from || is_replaced (map stretch_of others) lost q) end fails in
          let place : ℕ = at.0 in
          let less : place < end = at.1 in
          let parts = or_parts (nat_lt place lost.from) (is_replaced (map stretch_of others) lost place) at.2 in
          let from : lost.from ≤ place = ltb-false place lost.from parts.0 in
          let byte = other_than (byte_at (visible (map piece_of (before ++ after)) place)) in
          (made 0 byte, made_fields 0 byte, made_holds 0 byte, by_byte e place from (omega (arith, less)) (omega (arith, less)) parts.1)

pub object_would_change : ObjectWouldChange
object_would_change front back lost ranges alone long hides = would_change front back lost ranges alone long hides
