-- What an object is, by its nodes.
use Rattle.std.proofs.Common.{◌≡◌, ◌≢◌, ℕ, ◌+◌, ◌<◌, ◌≤◌, Bool, true, false, cond, List, [], map, length, Option, Some, None, refl, ap, sym, ◌∙◌, subst, inl, inr, ⊎_elim, arith}
use Rattle.std.specs.Prelude.{◌⊎◌, Contains, option_map, is_some, slice_index, ◌==◌}
use Rattle.std.specs.List.{Any}
use Rattle.std.proofs.lemmas.Bool.{cond-false, false≢true, true≢false, eq-eqb, eqb-true, eqb-false, false_from_ne_true}
use Rattle.std.proofs.lemmas.Option.{same_Some}
use Rattle.std.proofs.lemmas.List.Elements.{All-contains}
use Rattle.flashbase.proofs.ListLemmas.{newest_is_newest, newest_of_none, length-each_below}
use Rattle.jnode.specs.Writing.{HoldsRange}
use Rattle.jnode.specs.declared.node.Fill.{Fill}
use Rattle.jnode.specs.declared.node.Fill.TheVariants as fill
use Rattle.jnode.specs.declared.node.InodeNode.{InodeNode}
use Rattle.jfrag.specs.declared.piece.Piece.{Piece}
use Rattle.jfrag.specs.Pieces.{body_len, covers, byte_of}
use Rattle.jfrag.specs.Overlays.{Visible, GivesAt, IsHighestAt, visible, byte_at}
use Rattle.jfrag.proofs.OverlaysLemmas.{visible_is_highest, content_is_visible}
use Rattle.flashbase.proofs.MemberLemmas.{Contains-none, Contains-map, Contains-map_from, Contains-filter, Contains-filter_from}
use Rattle.jmount.specs.Device.{given_bytes, number_held, device_held}
use Rattle.jmount.specs.Tree.{ObjectOf, is_device}
use Rattle.jmount.specs.StateOf.{versions_of, latest, body_of, piece_of, default_root, or_root, object_by}
use Rattle.jmount.specs.Laws as law
use Rattle.jmount.specs.Laws.{IsLatest, HasAttributes, HasNone, IsHighestOver, NoneCovers}

-- ---- a node's range

body_of_range : (dsize : ℕ) (f : Fill) → HoldsRange f dsize → body_len (body_of dsize f) ≡ dsize
body_of_range dsize fill.Zero h = refl
body_of_range dsize (fill.Data bytes) h = h

pub piece_is_range : law.PieceIsRange
piece_is_range node h = ap (λ n. node.offset + n) (body_of_range node.dsize node.fill h)

-- ---- the nodes of a number

pub in_versions : (nodes : List InodeNode) (i : ℕ) (node : InodeNode) → Contains nodes node → node.ino ≡ i → Contains (versions_of nodes i) node
in_versions nodes i node there same = Contains-filter (λ n. i == n.ino) nodes node (eq-eqb i node.ino (sym same)) there

pub of_versions : (nodes : List InodeNode) (i : ℕ) (node : InodeNode) → Contains (versions_of nodes i) node → Contains nodes node × (node.ino ≡ i)
of_versions nodes i node c = let found = Contains-filter_from (λ n. i == n.ino) nodes node c in (found.0, sym (eqb-true i node.ino found.1))

has_none : (nodes : List InodeNode) (i : ℕ) → latest (versions_of nodes i) ≡ None → HasNone nodes i
has_none nodes i none node there same =
    let empty : versions_of nodes i ≡ [] = newest_of_none (versions_of nodes i) (λ n. n.version) none in
    Contains-none node (subst (λ ns. Contains ns node) empty (in_versions nodes i node there same))

is_latest : (nodes : List InodeNode) (i : ℕ) (node : InodeNode) → latest (versions_of nodes i) ≡ Some node → IsLatest nodes i node
is_latest nodes i node e =
    let is = newest_is_newest (versions_of nodes i) (λ n. n.version) node e in
    let found = of_versions nodes i node is.0 in
    record { there = found.0; number = found.1; highest = λ other c same. is.1 other (in_versions nodes i other c same) }

-- ---- attributes and size

attributes : (versions : List InodeNode) (node : InodeNode) (o : ObjectOf (List ℕ)) → object_by versions node ≡ o → HasAttributes node o
attributes versions node o e =
    subst (HasAttributes node) e
    (record { mode = refl; uid = refl; gid = refl; atime = refl; mtime = refl; ctime = refl; device = refl; size = length-each_below node.isize (λ place. byte_at (visible (map piece_of versions) place)) })

-- where no node makes an object, only the root has one
root_alone : (i : ℕ) (b : Bool) (o : ObjectOf (List ℕ)) → (i == 1) ≡ b → cond b (Some default_root) None ≡ Some o → (i ≡ 1) × (o ≡ default_root)
root_alone i true o t e = (eqb-true i 1 t, sym (same_Some default_root o e))
root_alone i false o t e = absurd (false≢true (ap is_some e))

no_root : (i : ℕ) (b : Bool) → (i == 1) ≡ b → cond b (Some default_root) None ≡ None → i ≢ 1
no_root i true t e = absurd (true≢false (ap is_some e))
no_root i false t e = eqb-false i 1 t

by_latest : (nodes : List InodeNode) (i : ℕ) (o : ObjectOf (List ℕ)) (found : Option InodeNode) → latest (versions_of nodes i) ≡ found
    → or_root i (option_map (object_by (versions_of nodes i)) found) ≡ Some o
    → ((node : InodeNode) × IsLatest nodes i node × (object_by (versions_of nodes i) node ≡ o)) ⊎ (HasNone nodes i × (i ≡ 1) × (o ≡ default_root))
by_latest nodes i o None none e = let root = root_alone i (i == 1) o refl e in inr (has_none nodes i none, root.0, root.1)
by_latest nodes i o (Some node) is e = inl (node, is_latest nodes i node is, same_Some (object_by (versions_of nodes i) node) o e)

pub object_is_of_latest : law.ObjectIsOfLatest
object_is_of_latest nodes i o e =
    ⊎_elim
    (λ found. inl (found.0, found.1, attributes (versions_of nodes i) found.0 o found.2))
    (λ root. inr root)
    (by_latest nodes i o (latest (versions_of nodes i)) refl e)

-- ---- the number of a device

pub held_none : (mode : ℕ) (bytes : List ℕ) → is_device mode ≡ false → device_held mode bytes ≡ None
unfolding device_held
held_none mode bytes plain = cond-false (is_device mode) (number_held bytes) None plain

pub only_devices_have_numbers : law.OnlyDevicesHaveNumbers
only_devices_have_numbers nodes i o e plain =
    ⊎_elim
    (λ (found : (node : InodeNode) × IsLatest nodes i node × HasAttributes node o).
    let node = found.0 in
    found.2.device ∙ held_none node.mode (given_bytes node.dsize node.fill) (ap is_device (sym found.2.mode) ∙ plain))
    (λ (root : HasNone nodes i × (i ≡ 1) × (o ≡ default_root)). ap (λ (x : ObjectOf (List ℕ)). x.device) root.2)
    (object_is_of_latest nodes i o e)

-- ---- numbers without nodes

without_nodes : (nodes : List InodeNode) (i : ℕ) (found : Option InodeNode) → latest (versions_of nodes i) ≡ found
    → or_root i (option_map (object_by (versions_of nodes i)) found) ≡ None → HasNone nodes i × (i ≢ 1)
without_nodes nodes i None none e = (has_none nodes i none, no_root i (i == 1) refl e)
without_nodes nodes i (Some node) is e = absurd (true≢false (ap is_some e))

pub no_object_without_nodes : law.NoObjectWithoutNodes
no_object_without_nodes nodes i e = without_nodes nodes i (latest (versions_of nodes i)) refl e

-- ---- bytes

visible_by : (nodes : List InodeNode) (i place byte : ℕ) (s : Visible) → IsHighestAt (map piece_of (versions_of nodes i)) place s → byte ≡ byte_at s
    → ((node : InodeNode) × IsHighestOver nodes i place byte node) ⊎ (NoneCovers nodes i place × (byte ≡ 0))
visible_by nodes i place byte None h e =
    inr (
      λ node there same.
          false_from_ne_true (covers place (piece_of node))
          (All-contains (λ p. covers place p ≢ true) (map piece_of (versions_of nodes i)) (piece_of node) h (Contains-map piece_of (versions_of nodes i) node (in_versions nodes i node there same))),
      e,
    )
visible_by nodes i place byte (Some there) h e = inl (by_piece h.0)
  where
    by_piece : Any (GivesAt place there) (map piece_of (versions_of nodes i)) → (node : InodeNode) × IsHighestOver nodes i place byte node
    by_piece (k, p, k_in, at_k, (p_covers, p_version, p_byte)) =
        let found = Contains-map_from piece_of (versions_of nodes i) p (k, k_in, at_k) in
        let node = found.0 in
        let of_node = of_versions nodes i node found.1 in
        let version : node.version ≡ there.0 = ap (λ (q : Piece). q.version) found.2 ∙ p_version in (
          node,
          record {
            there = of_node.0;
            number = of_node.1;
            covering = ap (covers place) found.2 ∙ p_covers;
            gives = e ∙ sym p_byte ∙ sym (ap (byte_of place) found.2);
            highest = λ other c same over.
                let below : other.version ≤ there.0 =
                All-contains (λ q. covers place q ≡ true → q.version ≤ there.0) (map piece_of (versions_of nodes i)) (piece_of other) h.1 (Contains-map piece_of (versions_of nodes i) other (in_versions nodes i other c same)) over in
                omega arith;
          },
        )

byte_of_object : (nodes : List InodeNode) (i place : ℕ) (node : InodeNode) → place < node.isize
    → slice_index (object_by (versions_of nodes i) node).body place ≡ byte_at (visible (map piece_of (versions_of nodes i)) place)
byte_of_object nodes i place node within = (content_is_visible (map piece_of (versions_of nodes i)) node.isize place within).1

pub byte_is_of_highest : law.ByteIsOfHighest
byte_is_of_highest nodes i place o e within =
    ⊎_elim
    (λ (found : (node : InodeNode) × IsLatest nodes i node × (object_by (versions_of nodes i) node ≡ o)).
    let node = found.0 in
    let size : length o.body ≡ node.isize = (attributes (versions_of nodes i) node o found.2).size in
    let byte : slice_index o.body place ≡ byte_at (visible (map piece_of (versions_of nodes i)) place) =
    ap (λ (x : ObjectOf (List ℕ)). slice_index x.body place) (sym found.2) ∙ byte_of_object nodes i place node (omega arith) in
    visible_by nodes i place (slice_index o.body place) (visible (map piece_of (versions_of nodes i)) place) (visible_is_highest (map piece_of (versions_of nodes i)) place) byte)
    (λ (root : HasNone nodes i × (i ≡ 1) × (o ≡ default_root)). let none : length o.body ≡ 0 = ap (λ (x : ObjectOf (List ℕ)). length x.body) root.2 in absurd (omega arith))
    (by_latest nodes i o (latest (versions_of nodes i)) refl e)
