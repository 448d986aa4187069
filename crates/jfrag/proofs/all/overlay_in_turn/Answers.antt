use Rattle.std.proofs.Common.{arith, ◌∙◌, ◌≡◌, refl, get_or}
use Rattle.jfrag.proofs.OverlaysLemmas.{highest_more, highest_all}
use Rattle.jfrag.proofs.all.overlay_in_turn.Goals as goal

pub add-requires : goal.add-requires
add-requires g c = λ k. ((refl, tt), (let same : c.copied.result ≡ get_or c.args.pieces.now c.loop-piece.piece-index c.piece-item.result = c.copied.ensures ∙ c.piece-item.is in rw same (c.requires.within c.loop-piece.piece-index c.piece-item.result c.loop-piece-test.true)))

pub loop-piece-preserved : goal.loop-piece-preserved
loop-piece-preserved g c = record {
  highest = λ i. highest_more c.args.pieces.now c.loop-piece.piece-index i c.copied.result c.piece-item.result (g.O.Overlay.visible_at c.loop-piece.overlaid i) (g.O.Overlay.visible_at c.add.new.self i) c.loop-piece-test.true (c.copied.ensures ∙ c.piece-item.is) (c.in_ok-add.ensures.overlaid i) (c.loop-piece.invariant.highest i);
  few = omega (arith, c.in_ok-add.ensures.two_ends, c.loop-piece.invariant.few);
}

pub returns-clause-highest : goal.returns-clause-highest
returns-clause-highest g c = λ i. highest_all c.args.pieces.now c.loop-piece.piece-index i (g.O.Overlay.visible_at c.loop-piece.overlaid i) c.loop-piece-test.false (c.loop-piece.invariant.highest i)
