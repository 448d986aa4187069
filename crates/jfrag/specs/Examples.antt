-- The worked example: version 3 over places 0 to 9, version 2 over 50 to 59, version 1 over 0 to
-- 99.
use Rattle.std.specs.Prelude.{ℕ, List, [], ◌∷◌, replicate}
use Rattle.jfrag.specs.declared.piece.Piece.{Piece}
use Rattle.jfrag.specs.declared.piece.Body.TheVariants.{Bytes}

abbrev pub piece : ℕ → ℕ → ℕ → ℕ → Piece
piece version offset count byte =
    record { version = version; offset = offset; body = Bytes (replicate count byte) }

abbrev pub three_pieces : List Piece
three_pieces = piece 3 0 10 33 ∷ piece 2 50 10 22 ∷ piece 1 0 100 11 ∷ []
