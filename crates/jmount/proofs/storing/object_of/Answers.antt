use Rattle.std.proofs.Common.{◌≡◌, ◌<◌, ◌^◌, ℕ, Some, List, All, map, refl, ap, sym, ◌∙◌, subst}
use Rattle.std.specs.Prelude.{option_map}
use Rattle.std.proofs.lemmas.List.Elements.{All-map}
use Rattle.jfrag.specs.declared.piece.Piece.{Piece}
use Rattle.jfrag.specs.Pieces.{end_of}
use Rattle.jfrag.specs.Overlays.{IsHighestAt}
use Rattle.jmount.specs.Inodes.{nodes_in}
use Rattle.jmount.specs.Stored.{visible_in}
use Rattle.jmount.specs.StateOf.{piece_of, object_by, with_bytes}
use Rattle.jmount.proofs.StoringLemmas.{latest_is, content-visible}
use Rattle.jmount.proofs.storing.object_of.Goals as goal

pub overlay-requires : goal.overlay-requires
overlay-requires c κs =
    let pieces : c.deref.result.now ≡ map piece_of (nodes_in c.args.versions.now) = c.deref.ensures.value ∙ c.in_ok-pieces.ensures in (
      (refl, tt),
      subst (λ (ps : List Piece). All (λ piece. end_of piece < 2 ^ 32) ps) (sym pieces)
          (All-map (λ (piece : Piece). end_of piece < 2 ^ 32) piece_of (nodes_in c.args.versions.now) c.requires.ends),
    )

pub returns-clause-made : goal.returns-clause-made
returns-clause-made c =
    let pieces : c.deref.result.now ≡ map piece_of (nodes_in c.args.versions.now) = c.deref.ensures.value ∙ c.in_ok-pieces.ensures in
    let highest : (place : ℕ) → IsHighestAt (map piece_of (nodes_in c.args.versions.now)) place (visible_in c.in_ok-bytes.bytes place) =
    λ place. subst (λ (ps : List Piece). IsHighestAt ps place (visible_in c.in_ok-bytes.bytes place)) pieces (c.in_ok-bytes.ensures.highest place) in
    let latest = c.args.versions.now.newest in
    let body = content-visible c.args.versions.now c.requires.by_version (visible_in c.in_ok-bytes.bytes) highest latest.isize in
    (λ i. Some (record (with_bytes latest (body i)) { device = c.device_of.ensures i }, latest.version))
    ∙ ap (option_map (λ node. (object_by (nodes_in c.args.versions.now) node, node.version))) (sym (latest_is c.args.versions.now c.requires.by_version))
