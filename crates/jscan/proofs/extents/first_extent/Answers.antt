use Rattle.std.proofs.Common.{subst, sym, ◌∙◌}
use Rattle.jnode.specs.declared.node.Seen.{Seen}
use Rattle.jscan.specs.Runs.{IsExtent}
use Rattle.jscan.specs.declared.tiles.TileKind.{TileKind}
use Rattle.jscan.specs.declared.extent.ExtentKind.TheVariants.{Tiled}
use Rattle.jscan.proofs.FrontLemmas.{IsFront}
use Rattle.jscan.proofs.ExtentLemmas.{begins_front, begins_word, node_extent, node_kind}
use Rattle.jscan.proofs.extents.first_extent.Goals as goal

pub first_run-requires : goal.first_run-requires
first_run-requires g c =
    let front = c.front-kind.ensures in
    record {
      whole_words = c.requires.whole_words;
      words = front.whole_words;
      nonempty = front.nonempty;
      within = front.within;
      begins = begins_word _ _ _ _ front.tile c.requires.nonempty front.within c.in-Word.is;
    }

pub returns-in-Node-clause-extent : goal.returns-in-Node-clause-extent
returns-in-Node-clause-extent g c =
    let front = c.front-kind.ensures in
    let tile = subst (λ (kind : TileKind). IsFront g.E.Order.order c.args.rest.now kind c.front-kind.result.1) c.in-Node.is front.tile in
    let seen = c.read_part.ensures.exact ∙ node_kind _ _ _ _ (front.good _ c.in-Node.is) tile in
    subst (λ (s : Seen). IsExtent g.E.Order.order c.args.rest.now c.front-kind.result.1 (Tiled s)) (sym seen)
    (node_extent _ _ _ _ (begins_front _ _ _ _ tile c.requires.nonempty front.within))
