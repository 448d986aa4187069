-- What is visible at a place of a file: the byte of the highest version that covers it
-- (Woodhouse 2001, JFFS: the node of highest version holds a range's current data).
use Rattle.std.specs.Prelude.{◌≡◌, ◌≢◌, ℕ, ◌≤◌, Bool, true, ◌&&◌, nat_lt, List, filter, Option, Some, None, option_map, if◌then◌else◌}
use Rattle.std.specs.List.{All, Any}
use Rattle.std.specs.Option.{MatchOption}
use Rattle.flashbase.specs.Lists.{newest, each_below}
use Rattle.jfrag.specs.declared.piece.Piece.{Piece}
use Rattle.jfrag.specs.Pieces.{covers, byte_of}

-- what is visible at a place: a version and a byte, or nothing
abbrev pub Visible : Type 0
Visible = Option (ℕ × ℕ)

-- the byte that a reader gets there: 0 where nothing is visible
abbrev pub byte_at : Visible → ℕ
byte_at None = 0
byte_at (Some there) = there.1

-- the piece covers the place, with this version and this byte
abbrev pub GivesAt : ℕ → ℕ × ℕ → Piece → Type 0
GivesAt place there piece =
    (covers place piece ≡ true) × (piece.version ≡ there.0) × (byte_of place piece ≡ there.1)

-- rule: The file system that nodes make: Each byte is that of the highest version that covers it,
--   else 0.
--   definitions: jfrag.Overlays.IsHighestAt, jfrag.Overlays.visible, jfrag.Overlays.content
--   code: jfrag::all::overlay, jmount::mounted::read_at
--   laws: jfrag::laws::visibility_laws, jfrag::laws::worked_example,
--   jmount::laws::objects_are_of_highest, jmount::examples::three_pieces
-- nothing is visible where no piece covers the place; else what a piece gives there, of the highest
-- version that covers it
abbrev pub IsHighestAt : List Piece → ℕ → Visible → Type 0
IsHighestAt pieces place visible = MatchOption visible
    (All (λ piece. covers place piece ≢ true) pieces)
    (λ there. Any (GivesAt place there) pieces
    × All (λ piece. covers place piece ≡ true → piece.version ≤ there.0) pieces)

-- the same, computed: of equal versions the first in the list gives the byte
abbrev pub visible : List Piece → ℕ → Visible
visible pieces place = option_map (λ piece. (piece.version, byte_of place piece))
    (newest (λ piece. piece.version) (filter (covers place) pieces))

-- the first `size` bytes of a file
abbrev pub content : List Piece → ℕ → List ℕ
content pieces size = each_below size (λ place. byte_at (visible pieces place))

-- whether a version is above the one that is visible, or nothing is visible
abbrev pub outranks : ℕ → Visible → Bool
outranks version None = true
outranks version (Some there) = nat_lt there.0 version

-- what is visible at a place after one more piece
abbrev pub overlaid : ℕ → Piece → Visible → Visible
overlaid place piece there = if covers place piece
    && outranks piece.version there then Some (piece.version, byte_of place piece) else there
