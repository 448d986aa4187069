-- The intervals of a file in each of which one piece is visible.
use Rattle.std.specs.Prelude.{◌≡◌, ◌≢◌, ℕ, ◌+◌, ◌<◌, ◌↔◌, List, length, Contains, Option, Some}
use Rattle.std.specs.List.{AllPairs}
use Rattle.jfrag.specs.declared.piece.Piece.{Piece}
use Rattle.jfrag.specs.declared.frag.FragOverlay.{FragOverlay}
use Rattle.jfrag.specs.Layouts.{laid_at, laid_ends}

-- the piece whose byte is visible at a place, or nothing
abbrev pub piece_at : FragOverlay → ℕ → Option Piece
piece_at overlay place = laid_at overlay.layout place

-- how many ends of intervals are stored: the end of one that is the beginning of the next counts
-- once
abbrev pub end_count : FragOverlay → ℕ
end_count overlay = laid_ends overlay.layout

-- an interval begins where a piece is visible that is not visible right before
abbrev pub Begins : (ℕ → Option Piece) → ℕ → Type 0
Begins visible_at place = (piece : Piece) × (visible_at place ≡ Some piece)
    × ((before : ℕ) → before + 1 ≡ place → visible_at before ≢ Some piece)

-- so many intervals: their beginnings, each once
pub record IsIntervalCount (visible_at : ℕ → Option Piece) (count : ℕ) : Type 0 where
  pub beginnings : List ℕ
  pub ascending : AllPairs (λ a b. a < b) beginnings
  pub each : (place : ℕ) → Contains beginnings place ↔ Begins visible_at place
  pub counted : length beginnings ≡ count
