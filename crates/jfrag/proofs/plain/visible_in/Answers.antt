use Rattle.std.proofs.Common.{◌∙◌, ap, sym, get_or}
use Rattle.jfrag.specs.declared.piece.Piece.{Piece}
use Rattle.jfrag.specs.Overlays.{overlaid}
use Rattle.jfrag.proofs.OverlaysLemmas.{visible_more}
use Rattle.jfrag.proofs.plain.visible_in.Goals as goal

pub loop-piece-preserved : goal.loop-piece-preserved
loop-piece-preserved c =
    c.overlaid_on-top.ensures
    ∙ ap (λ (p : Piece). overlaid c.args.place p c.loop-piece.top) c.piece-item.is
    ∙ ap (overlaid c.args.place (get_or c.args.pieces.now c.loop-piece.piece-index c.piece-item.result)) c.loop-piece.invariant
    ∙ sym (visible_more c.args.pieces.now c.loop-piece.piece-index c.args.place c.piece-item.result c.loop-piece-test.true)
