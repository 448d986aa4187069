use Rattle.std.proofs.Common.{◌∙◌, ap, List}
use Rattle.jfrag.specs.declared.piece.Piece.{Piece}
use Rattle.jfrag.specs.Overlays.{visible}
use Rattle.jfrag.proofs.OverlaysLemmas.{one_more_piece}
use Rattle.jfrag.proofs.plain.PlainOverlayOverlay.add.Goals as goal

pub returns-clause-overlaid : goal.returns-clause-overlaid
returns-clause-overlaid c = λ place. ap (λ (ps : List Piece). visible ps place) c.in_ok-push.ensures.items ∙ one_more_piece c.args.self.now.pieces.items c.args.piece place
