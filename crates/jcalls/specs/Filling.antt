-- Rows, given into memory of the caller.
use Rattle.std.specs.Prelude.{◌≡◌, ◌<◌, ℕ, ◌++◌, List, length, drop, take}

-- as many as there is room for, one after another
abbrev pub rows_given : {R : Type 0} → List R → List R → List R
rows_given all old = take (length old) all ++ drop (length all) old

-- All stand at the front of the caller's memory, which is as it was behind them.
abbrev pub GivesRows : {R : Type 0} → List R → List R → List R → ℕ → Type 0
GivesRows all old new needed =
    (needed ≡ length all) × (new ≡ all ++ drop (length all) old)

-- There is no room for all of them, and how many there are is told.
abbrev pub NeedsForRows : {R : Type 0} → List R → List R → ℕ → Type 0
NeedsForRows all old needed = (needed ≡ length all) × (length old < needed)
