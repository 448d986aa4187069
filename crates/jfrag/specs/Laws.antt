-- Laws of overlays. Each is a statement: it holds since a function's contract names it.
use Rattle.std.specs.Prelude.{◌≡◌, ℕ, ◌<◌, true, List, [], ◌∷◌, ◌++◌, length, slice_index, Contains, Option}
use Rattle.std.specs.List.{AllPairs}
use Rattle.jfrag.specs.declared.piece.Piece.{Piece}
use Rattle.jfrag.specs.Pieces.{body_len, covers, byte_of}
use Rattle.jfrag.specs.IntervalMap.{seen, overwritten}
use Rattle.jfrag.specs.Overlays.{Visible, byte_at, IsHighestAt, visible, content, overlaid}

-- what the function computes is of the highest version
abbrev pub VisibleIsHighest : Type 0
VisibleIsHighest =
    (pieces : List Piece) (place : ℕ) → IsHighestAt pieces place (visible pieces place)

-- pieces of one version that both cover the place give one byte there
abbrev pub AgreeAt : List Piece → ℕ → Type 0
AgreeAt pieces place = AllPairs (λ p q. p.version ≡ q.version → covers place p ≡ true
    → covers place q ≡ true → byte_of place p ≡ byte_of place q) pieces

-- where pieces of one version agree, only one answer is of the highest version
abbrev pub OnlyOneIsHighest : Type 0
OnlyOneIsHighest = (pieces : List Piece) (place : ℕ) (s : Visible) → AgreeAt pieces place
    → IsHighestAt pieces place s → s ≡ visible pieces place

-- one more piece is visible where it covers a place that has nothing or a lower version, and
-- changes no other
abbrev pub OneMorePiece : Type 0
OneMorePiece = (pieces : List Piece) (piece : Piece) (place : ℕ)
    → visible (pieces ++ piece ∷ []) place ≡ overlaid place piece (visible pieces place)

-- a piece that is there already changes nothing
abbrev pub AgainChangesNothing : Type 0
AgainChangesNothing = (pieces : List Piece) (piece : Piece) (place : ℕ) (s : Visible)
    → Contains pieces piece → IsHighestAt pieces place s → overlaid place piece s ≡ s

-- a piece of no length changes nothing
abbrev pub EmptyChangesNothing : Type 0
EmptyChangesNothing =
    (piece : Piece) (place : ℕ) (s : Visible) → body_len piece.body ≡ 0 → overlaid place piece s ≡ s

-- the content is as long as was asked for, and each byte is the one that is visible
abbrev pub ContentIsVisible : Type 0
ContentIsVisible = (pieces : List Piece) (size place : ℕ) → place < size
    → (length (content pieces size) ≡ size)
    × (slice_index (content pieces size) place ≡ byte_at (visible pieces place))

-- a piece that changes nothing that is visible is nowhere taken for the one that is visible, so it
-- changes no interval
abbrev pub IdleIsNotTaken : Type 0
IdleIsNotTaken = (piece : Piece) (place : ℕ) (there : Option Piece)
    → overlaid place piece (seen there place) ≡ seen there place
    → overwritten piece place there ≡ there
