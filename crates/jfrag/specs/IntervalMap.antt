-- Intervals: at each key begins what is visible up to the next key.
use Rattle.std.specs.Prelude.{◌≡◌, ◌≢◌, ℕ, ◌+◌, ◌<◌, ◌≤◌, ◌^◌, Bool, true, false, ◌&&◌, nat_lt, nat_le, List, [], ◌∷◌, Option, Some, None, if◌then◌else◌}
use Rattle.std.specs.Ordering.{nat_cmp}
use Rattle.std.specs.BTreeMap.{BTreeMap, get}
use Rattle.jfrag.specs.declared.piece.Piece.{Piece}
use Rattle.jfrag.specs.Pieces.{covers, byte_of, end_of, is_zeros}
use Rattle.jfrag.specs.Overlays.{Visible}

-- a piece, or a gap
abbrev pub Interval : Type 0
Interval = Option Piece

-- the interval of the last key at or below i, and d where there is none
abbrev pub interval_from : Interval → List (ℕ × Interval) → ℕ → Interval
interval_from d [] i = d
interval_from d (e ∷ es) i = if nat_lt i e.0 then d else interval_from e.1 es i

-- the interval that place i lies in
abbrev pub interval_at : List (ℕ × Interval) → ℕ → Interval
interval_at es i = interval_from None es i

-- whether an interval shows zeros that no node has: it is a gap, or a piece of zeros
abbrev pub is_hole : Interval → Bool
is_hole None = true
is_hole (Some p) = is_zeros p.body

-- what is visible at place i of an interval
abbrev pub seen : Interval → ℕ → Visible
seen None i = None
seen (Some p) i = Some (p.version, byte_of i p)

-- whether a version is above that of an interval, or the interval is a gap
abbrev pub is_under : ℕ → Interval → Bool
is_under v None = true
is_under v (Some p) = nat_lt p.version v

-- the interval at place i after the piece was overlaid on it
abbrev pub overwritten : Piece → ℕ → Interval → Interval
overwritten p i r = if covers i p && is_under p.version r then Some p else r

-- no key from lo up to, and without, hi
abbrev pub NoKeyIn : BTreeMap ℕ Interval → ℕ → ℕ → Type 0
NoKeyIn m lo hi = (q : ℕ) → lo ≤ q → q < hi → get nat_cmp m q ≡ None

-- whether i lies from k on and below hi
abbrev pub between : ℕ → ℕ → ℕ → Bool
between k hi i = nat_le k i && nat_lt i hi

-- the piece that is visible at a place covers it, and ends below 2 ^ 32
abbrev pub IsCovered : List (ℕ × Interval) → Type 0
IsCovered es =
    (i : ℕ) (p : Piece) → interval_at es i ≡ Some p → (covers i p ≡ true) × (end_of p < 2 ^ 32)

-- whether the piece wins place i
abbrev pub won : Piece → List (ℕ × Interval) → ℕ → Bool
won p es i = covers i p && is_under p.version (interval_at es i)

-- a piece that is visible somewhere has won each place that it covers, but for those where another
-- has at least its version
abbrev pub IsSettled : List (ℕ × Interval) → Type 0
IsSettled es = (i j : ℕ) (p : Piece) → interval_at es i ≡ Some p → covers j p ≡ true
    → is_under p.version (interval_at es j) ≡ false

-- no key is within one piece's interval
abbrev pub IsTight : BTreeMap ℕ Interval → Type 0
IsTight m =
    (j : ℕ) (p : Piece) → get nat_cmp m (j + 1) ≡ Some (Some p) → interval_at m.entries j ≢ Some p

-- no key is between two places in a row that the piece wins
abbrev pub IsJoined : Piece → List (ℕ × Interval) → BTreeMap ℕ Interval → Type 0
IsJoined p es m =
    (j : ℕ) → won p es j ≡ true → won p es (j + 1) ≡ true → get nat_cmp m (j + 1) ≡ None
