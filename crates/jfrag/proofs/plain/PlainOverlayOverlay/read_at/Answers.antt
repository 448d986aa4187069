use Rattle.std.proofs.Common.{◌∙◌, ap, List, ◌+◌, arith}
use Rattle.jfrag.specs.declared.piece.Piece.{Piece}
use Rattle.jfrag.specs.Overlays.{visible, byte_at}
use Rattle.jfrag.proofs.OverlaysLemmas.{filled}
use Rattle.jfrag.proofs.plain.PlainOverlayOverlay.read_at.Goals as goal

pub returns : goal.returns
returns c =
    filled c.fill.new.out c.args.out.now (λ k. byte_at (visible c.args.self.now.pieces.items (c.args.place + k))) (omega arith)
    (λ k l. c.fill.ensures k l ∙ ap (λ (ps : List Piece). byte_at (visible ps (c.args.place + k))) c.deref.ensures.value)
