-- What a plain overlay shows.
use Rattle.std.specs.Prelude.{List}
use Rattle.jfrag.specs.declared.piece.Piece.{Piece}
use Rattle.jfrag.specs.declared.plain.PlainOverlay.{PlainOverlay}

-- the pieces that were added, the latest last
abbrev pub pieces_of : PlainOverlay → List Piece
pieces_of overlay = overlay.pieces.items
