-- How the intervals of an overlay are stored.
use Rattle.std.specs.Prelude.{ℕ, ◌<◌, ◌^◌, Option, Some, None, ⊤, if◌then◌else◌}
use Rattle.std.specs.BTreeMap.{btree_map_len}
use Rattle.std.proofs.Props.{props}
use Rattle.jfrag.specs.declared.piece.Piece.{Piece}
use Rattle.jfrag.specs.declared.layout.Layout.{Layout}
use Rattle.jfrag.specs.declared.layout.Layout.TheVariants.{Empty, One, Map}
use Rattle.jfrag.specs.Pieces.{covers, end_of}
use Rattle.jfrag.specs.IntervalMap.{interval_at, IsCovered, IsSettled, IsTight}

-- where one piece is all that there is, it is visible at the places that it covers
abbrev pub of_one : Piece → ℕ → Option Piece
of_one piece place = if covers place piece then Some piece else None

-- the piece whose byte is visible at a place, or nothing
abbrev pub laid_at : Layout → ℕ → Option Piece
laid_at Empty place = None
laid_at (One piece) place = of_one piece place
laid_at (Map intervals) place = interval_at intervals.entries place

-- how many ends of intervals there are: the end of one that is the beginning of the next counts
-- once
abbrev pub laid_ends : Layout → ℕ
laid_ends Empty = 0
laid_ends (One piece) = 2
laid_ends (Map intervals) = btree_map_len intervals

-- a piece alone has a byte at least, and ends below 2 ^ 32; of several each has what it wins, in
-- one interval where it can
abbrev pub IsSoundLayout : Layout → Type 0
IsSoundLayout Empty = ⊤
IsSoundLayout (One piece) = (piece.offset < end_of piece) × (end_of piece < 2 ^ 32)
IsSoundLayout (Map intervals) =
    IsCovered intervals.entries × IsSettled intervals.entries × IsTight intervals

pub IsSoundLayout-prop : (layout : Layout) → IsProp (IsSoundLayout layout)
IsSoundLayout-prop Empty = Prim.hlevel props
IsSoundLayout-prop (One piece) = Prim.hlevel props
IsSoundLayout-prop (Map intervals) = Prim.hlevel props
