use Rattle.std.proofs.Common.{◌≡◌, take}
use Rattle.std.specs.Io.KnownBytes.{Appends}
use Rattle.jfolder.specs.Pieces.{pieces_text}
use Rattle.jfolder.proofs.words.put_pieces.Given as goal

abbrev pub invariant-loop-piece : goal.invariant-loop-piece
invariant-loop-piece g l = record {
  put : Appends (g.T.Sink.taken l.fn.sink) (g.T.Sink.taken l.sink) (pieces_text (take l.piece-index l.pieces));
  failed : g.T.Sink.failures l.sink ≡ g.T.Sink.failures l.fn.sink;
}
