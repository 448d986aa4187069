-- Why an object is the same without a node that hides nothing.
use Rattle.std.proofs.Common.{◌≡◌, ℕ, ◌+◌, ◌<◌, ◌≤◌, Bool, true, false, ◌&&◌, cond, List, ◌∷◌, ◌++◌, length, map, get_or, Option, Some, None, refl, ap, sym, ◌∙◌, subst, ⊎_elim, min, arith}
use Rattle.std.specs.Prelude.{Contains, filter, option_map, nat_lt, nat_le, ◌==◌, ◌||◌}
use Rattle.std.specs.List.{list_any}
use Rattle.std.proofs.lemmas.Bool.{and_parts, eq-eqb, eqb-true, leb-true, ltb-true, false≢true}
use Rattle.std.proofs.lemmas.Grind.{same_number_lists}
use Rattle.std.proofs.lemmas.List.{map-append}
use Rattle.std.proofs.lemmas.List.Elements.{filter-append, Contains-append_left, Contains-append_right, Contains-append_cases}
use Rattle.std.proofs.lemmas.List.Folds.{Any-from_list_any}
use Rattle.flashbase.specs.Lists.{newest, each_below}
use Rattle.flashbase.proofs.ListLemmas.{length-each_below, get_or-each_below}
use Rattle.flashbase.proofs.MemberLemmas.{Contains-map, Contains-map_from, Contains-filter, Contains-filter_from, Contains-here, Contains-there}
use Rattle.jnode.specs.Writing.{HoldsRange}
use Rattle.jnode.specs.declared.node.InodeNode.{InodeNode}
use Rattle.jfrag.specs.declared.piece.Piece.{Piece}
use Rattle.jfrag.specs.Pieces.{covers, byte_of}
use Rattle.jfrag.specs.Overlays.{visible, byte_at}
use Rattle.jmount.specs.Shown.{shown}
use Rattle.jmount.specs.StateOf.{versions_of, latest, piece_of, contents, object_by, object_from, object_of, or_root, with_bytes}
use Rattle.jmount.proofs.ObjectsLemmas.{in_versions, of_versions, piece_is_range}
use Rattle.jgaps.specs.Gaps.{has_place}
use Rattle.jdamage.specs.Coverage.{is_not_older, is_replaced, is_replaced_below, hides_nothing}
use Rattle.jdamage.specs.Damage.{size_shown}
use Rattle.jgaps.specs.Fields.{stretch_of}
use Rattle.jdamage.specs.Laws.{HoldRanges, HidesNothingBetween, ObjectIsSameWithout, size_made}
use Rattle.jgaps.specs.declared.fields.Stretch.{Stretch}
use Rattle.jdamage.proofs.BetweenLemmas.{one_more_between, node_stable}
use Rattle.jdamage.proofs.CoverageLemmas.{lacks, not_below}

-- ---- what the tests find

-- a stretch that passes a test is that of a node
pub found : (p : Stretch → Bool) (nodes : List InodeNode) → list_any p (map stretch_of nodes) ≡ true → (node : InodeNode) × Contains nodes node × (p (stretch_of node) ≡ true)
found p nodes some = by (Any-from_list_any p (map stretch_of nodes) some)
  where
    by : (k : ℕ) × (s : Stretch) × (k < length (map stretch_of nodes)) × (get_or (map stretch_of nodes) k s ≡ s) × (p s ≡ true) → (node : InodeNode) × Contains nodes node × (p (stretch_of node) ≡ true)
    by (k, s, within, at, passes) =
        let node = Contains-map_from stretch_of nodes s (k, within, at) in
        (node.0, node.1, ap p node.2 ∙ passes)

-- a version of the same object that is as high or higher
pub record IsNotOlder (lost node : InodeNode) : Type 0 where
  pub number : node.ino ≡ lost.ino
  pub high : lost.version ≤ node.version

pub not_older : (lost node : InodeNode) → is_not_older (stretch_of lost) (stretch_of node) ≡ true → IsNotOlder lost node
not_older lost node is =
    let parts = and_parts (node.ino == lost.ino) (nat_le lost.version node.version) is in
    record { number = eqb-true node.ino lost.ino parts.0; high = leb-true lost.version node.version parts.1 }

-- a node covers the places of its stretch
pub covers_range : (node : InodeNode) → HoldsRange node.fill node.dsize → (place : ℕ) → covers place (piece_of node) ≡ has_place place (stretch_of node)
covers_range node holds place = ap (λ (end : ℕ). nat_le node.offset place && nat_lt place end) (piece_is_range node holds)

covers_stretch : (nodes : List InodeNode) (node : InodeNode) → HoldRanges nodes → Contains nodes node → (place : ℕ) → covers place (piece_of node) ≡ has_place place (stretch_of node)
covers_stretch nodes node ranges there place = covers_range node (ranges node there) place

-- each place of a range that is replaced up to an end
pub replaced_at : (others : List Stretch) (lost : Stretch) (end place : ℕ) → is_replaced_below others lost end ≡ true → lost.from ≤ place → place < end
    → list_any (λ s. is_not_older lost s && has_place place s) others ≡ true
unfolding is_replaced_below is_replaced
replaced_at others lost end place all from less = by (is_replaced others lost place) refl
  where
    by : (b : Bool) → is_replaced others lost place ≡ b → is_replaced others lost place ≡ true
    by true e = e
    by false e = absurd (false≢true (sym (not_below (λ q. nat_lt q lost.from || is_replaced others lost q) end place less (lacks others lost place from e)) ∙ all))

each_same : (n : ℕ) (f g : ℕ → ℕ) → ((k : ℕ) → k < n → f k ≡ g k) → each_below n f ≡ each_below n g
each_same n f g same =
    same_number_lists (each_below n f) (each_below n g) (length-each_below n f ∙ sym (length-each_below n g))
    (λ k l. let less : k < n = omega (arith, l, length-each_below n f) in get_or-each_below n k f 0 less ∙ same k less ∙ sym (get_or-each_below n k g 0 less))

-- ---- the versions of its object

abbrev pub shown_at : ℕ → List InodeNode → List Piece
shown_at place nodes = filter (covers place) (map piece_of nodes)

pub shown-append : (place : ℕ) (a b : List InodeNode) → shown_at place (a ++ b) ≡ shown_at place a ++ shown_at place b
shown-append place a b = ap (filter (covers place)) (map-append piece_of a b) ∙ filter-append (covers place) (map piece_of a) (map piece_of b)

abbrev pub piece_version : Piece → ℕ
piece_version piece = piece.version

pub split_versions : (front back : List InodeNode) (lost : InodeNode) → versions_of (front ++ lost ∷ back) lost.ino ≡ versions_of front lost.ino ++ lost ∷ versions_of back lost.ino
split_versions front back lost =
    filter-append (λ node. lost.ino == node.ino) front (lost ∷ back)
    ∙ ap (λ (b : Bool). versions_of front lost.ino ++ cond b (lost ∷ versions_of back lost.ino) (versions_of back lost.ino)) (eq-eqb lost.ino lost.ino refl)

module _ (front back : List InodeNode) (lost : InodeNode) (h : HidesNothingBetween front back lost) where
  abbrev others : List InodeNode
  others = front ++ back

  abbrev before : List InodeNode
  before = versions_of front lost.ino

  abbrev after : List InodeNode
  after = versions_of back lost.ino

  split_others : versions_of others lost.ino ≡ before ++ after
  split_others = filter-append (λ node. lost.ino == node.ino) front back

  split_all : versions_of (front ++ lost ∷ back) lost.ino ≡ before ++ lost ∷ after
  split_all = split_versions front back lost

  in_all : (node : InodeNode) → Contains others node → Contains (front ++ lost ∷ back) node
  in_all node there =
      ⊎_elim
      (λ early. Contains-append_left front (lost ∷ back) node early)
      (λ late. Contains-append_right front (lost ∷ back) node (Contains-there lost back node late))
      (Contains-append_cases front back node there)

  of_others : HoldRanges others
  of_others node there = h.ranges node (in_all node there)

  itself : Contains (front ++ lost ∷ back) lost
  itself = Contains-append_right front (lost ∷ back) lost (Contains-here lost back)

  -- of those after it none of its version says another thing
  same_after : (node : InodeNode) → Contains after node → node.version ≡ lost.version → node ≡ lost
  same_after node there version =
      let of_back = of_versions back lost.ino node there in
      node_stable node lost (λ no. h.apart node of_back.0 (record { ino = of_back.1; version = version; contents = no }))

  among : (node : InodeNode) → Contains others node → IsNotOlder lost node → Contains (before ++ after) node
  among node there newer = subst (λ (nodes : List InodeNode). Contains nodes node) split_others (in_versions others lost.ino node there newer.number)

  hidden_parts : (list_any (is_not_older (stretch_of lost)) (map stretch_of others) ≡ true) × (is_replaced_below (map stretch_of others) (stretch_of lost) (min (lost.offset + lost.dsize) (size_made others lost.ino)) ≡ true)
  unfolding hides_nothing
  hidden_parts =
      and_parts (list_any (is_not_older (stretch_of lost)) (map stretch_of others))
      (is_replaced_below (map stretch_of others) (stretch_of lost) (min (lost.offset + lost.dsize) (size_made others lost.ino))) h.hidden

  pub newer_one : (node : InodeNode) × Contains (front ++ back) node × IsNotOlder lost node
  newer_one = let one = found (is_not_older (stretch_of lost)) others hidden_parts.0 in (one.0, one.1, not_older lost one.0 one.2)

  -- the one of highest version is the same
  same_latest : latest (before ++ lost ∷ after) ≡ latest (before ++ after)
  same_latest =
      one_more_between (λ node. node.version) lost before after newer_one.0 same_after (among newer_one.0 newer_one.1 newer_one.2) newer_one.2.high

  -- ---- bytes

  same_piece : (place : ℕ) (piece : Piece) → Contains (shown_at place after) piece → piece.version ≡ lost.version → piece ≡ piece_of lost
  same_piece place piece there same =
      let covering = Contains-filter_from (covers place) (map piece_of after) piece there in
      let node = Contains-map_from piece_of after piece covering.0 in
      sym node.2 ∙ ap piece_of (same_after node.0 node.1 (ap piece_version node.2 ∙ same))

  -- the piece of highest version that covers a place is the same, where the place is within the size
  same_at : (place : ℕ) → place < size_made others lost.ino → newest piece_version (shown_at place (before ++ lost ∷ after)) ≡ newest piece_version (shown_at place (before ++ after))
  same_at place within =
      ap (newest piece_version) (shown-append place before (lost ∷ after)) ∙ by (covers place (piece_of lost)) refl ∙ sym (ap (newest piece_version) (shown-append place before after))
    where
      by : (b : Bool) → covers place (piece_of lost) ≡ b → newest piece_version (shown_at place before ++ cond (covers place (piece_of lost)) (piece_of lost ∷ shown_at place after) (shown_at place after)) ≡ newest piece_version (shown_at place before ++ shown_at place after)
      by false e = ap (λ (b : Bool). newest piece_version (shown_at place before ++ cond b (piece_of lost ∷ shown_at place after) (shown_at place after))) e
      by true e =
          let over : has_place place (stretch_of lost) ≡ true = sym (covers_stretch (front ++ lost ∷ back) lost h.ranges itself place) ∙ e in
          let parts = and_parts (nat_le lost.offset place) (nat_lt place (lost.offset + lost.dsize)) over in
          let from : lost.offset ≤ place = leb-true lost.offset place parts.0 in
          let to : place < lost.offset + lost.dsize = ltb-true place (lost.offset + lost.dsize) parts.1 in
          let end = min (lost.offset + lost.dsize) (size_made others lost.ino) in
          let is = replaced_at (map stretch_of others) (stretch_of lost) end place hidden_parts.1 from (omega (arith, to, within)) in
          let one = found (λ s. is_not_older (stretch_of lost) s && has_place place s) others is in
          let tests = and_parts (is_not_older (stretch_of lost) (stretch_of one.0)) (has_place place (stretch_of one.0)) one.2 in
          let newer = not_older lost one.0 tests.0 in
          let covering : covers place (piece_of one.0) ≡ true = covers_stretch others one.0 of_others one.1 place ∙ tests.1 in
          let there : Contains (shown_at place (before ++ after)) (piece_of one.0) =
          Contains-filter (covers place) (map piece_of (before ++ after)) (piece_of one.0) covering (Contains-map piece_of (before ++ after) one.0 (among one.0 one.1 newer)) in
          ap (λ (b : Bool). newest piece_version (shown_at place before ++ cond b (piece_of lost ∷ shown_at place after) (shown_at place after))) e
          ∙ one_more_between piece_version (piece_of lost) (shown_at place before) (shown_at place after) (piece_of one.0) (same_piece place) (subst (λ (ps : List Piece). Contains ps (piece_of one.0)) (shown-append place before after) there) newer.high

  same_contents : (size : ℕ) → size ≤ size_made others lost.ino → contents (before ++ lost ∷ after) size ≡ contents (before ++ after) size
  same_contents size most =
      each_same size (λ place. byte_at (visible (map piece_of (before ++ lost ∷ after)) place)) (λ place. byte_at (visible (map piece_of (before ++ after)) place))
      (λ place less. ap (λ (there : Option Piece). byte_at (option_map (λ piece. (piece.version, byte_of place piece)) there)) (same_at place (omega (arith, less, most))))

  -- ---- the object

  size_is : (node : InodeNode) → latest (before ++ after) ≡ Some node → size_made others lost.ino ≡ node.isize
  size_is node e =
      ap (λ (nodes : List InodeNode). size_shown (option_map shown (object_from lost.ino nodes))) split_others
      ∙ ap (λ (there : Option InodeNode). size_shown (option_map shown (or_root lost.ino (option_map (object_by (before ++ after)) there)))) e
      ∙ length-each_below node.isize (λ place. byte_at (visible (map piece_of (before ++ after)) place))

  same_by : (there : Option InodeNode) → latest (before ++ after) ≡ there → option_map (object_by (before ++ lost ∷ after)) there ≡ option_map (object_by (before ++ after)) there
  same_by None e = refl
  same_by (Some node) e = ap (λ (bytes : List ℕ). Some (with_bytes node bytes)) (same_contents node.isize (omega (arith, size_is node e)))

  same_object : object_of (front ++ lost ∷ back) lost.ino ≡ object_of (front ++ back) lost.ino
  same_object =
      ap (object_from lost.ino) split_all
      ∙ ap (λ (there : Option InodeNode). or_root lost.ino (option_map (object_by (before ++ lost ∷ after)) there)) same_latest
      ∙ ap (or_root lost.ino) (same_by (latest (before ++ after)) refl)
      ∙ sym (ap (object_from lost.ino) split_others)

pub object_is_same_without : ObjectIsSameWithout
object_is_same_without front back lost h = same_object front back lost h
