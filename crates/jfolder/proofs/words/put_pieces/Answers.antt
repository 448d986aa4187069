use Rattle.std.proofs.Common.{[], take, ◌∙◌, refl, subst, get_or, take_all, ap}
use Rattle.std.specs.Io.KnownBytes.{Appends}
use Rattle.std.proofs.KnownBytes.{Appends-trans}
use Rattle.jline.proofs.TurnLemmas.{flat_map-next, item_failed}
use Rattle.jfolder.specs.Pieces.{piece_text, pieces_text}
use Rattle.jfolder.specs.declared.words.Piece.{Piece}
use Rattle.jfolder.specs.declared.words.Piece.TheVariants.{Plain}
use Rattle.jfolder.proofs.words.put_pieces.Goals as goal

abbrev none : Piece
none = Plain (record { ref_ptr = (0, 0); now = [] })

pub returns-in_err-put_piece : goal.returns-in_err-put_piece
returns-in_err-put_piece g c =
    let before = c.loop-piece.invariant in
    let put = c.in_err-put_piece.ensures in
    let i = c.loop-piece.piece-index in
    item_failed piece_text c.args.pieces.now i none (get_or c.args.pieces.now i none) _ (g.T.Sink.taken c.loop-piece.sink) _ _ _ _ _ c.from_residual.ensures.0
    c.loop-piece-test.true refl before.put before.failed put.0 put.1

pub loop-piece-preserved : goal.loop-piece-preserved
loop-piece-preserved g c =
    let before = c.loop-piece.invariant in
    let put = c.in_ok-put_piece.ensures in
    let i = c.loop-piece.piece-index in
    let pieces = c.args.pieces.now in
    record {
      put = subst (Appends (g.T.Sink.taken c.args.sink.now) (g.T.Sink.taken c.put_piece.new.sink))
          (flat_map-next piece_text pieces i none (get_or pieces i none) c.loop-piece-test.true refl)
          (Appends-trans _ (g.T.Sink.taken c.loop-piece.sink) _ (pieces_text (take i pieces)) (piece_text (get_or pieces i none)) before.put put.0);
      failed = put.1 ∙ before.failed;
    }

pub returns : goal.returns
returns g c =
    let done = c.loop-piece.invariant in (
      subst (Appends (g.T.Sink.taken c.args.sink.now) (g.T.Sink.taken c.loop-piece.sink))
          (ap pieces_text (take_all c.loop-piece.piece-index c.args.pieces.now c.loop-piece-test.false)) done.put,
      done.failed,
    )
