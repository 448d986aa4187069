-- Laws of gaps. Each is a statement: it holds since a function's contract names it.
use Rattle.std.specs.Prelude.{◌≡◌, ◌↔◌, ℕ, ◌<◌, ◌≤◌, Bool, true, false, List, [], Contains}
use Rattle.std.specs.List.{AllPairs}
use Rattle.jgaps.specs.Gaps.{gaps_below, gaps_of_size, is_covered}
use Rattle.jgaps.specs.declared.fields.Stretch.{Stretch}

-- there is no gap exactly where each byte below the size is covered
abbrev pub NoGapWhereCovered : Type 0
NoGapWhereCovered = (sound : List Stretch) (ino size : ℕ)
    → (gaps_of_size sound ino size ≡ [])
    ↔ ((place : ℕ) → place < size → is_covered sound ino place ≡ true)

-- the place is in one of these
abbrev pub IsInGap : List (ℕ × ℕ) → ℕ → Type 0
IsInGap gaps place = (gap : ℕ × ℕ) × Contains gaps gap × (gap.0 ≤ place) × (place < gap.1)

-- The places below the size that are not covered are just those in gaps, and between one gap and
-- the next is a place that is in none: so each is as long as it can be.
pub record AreMaximal (covered : ℕ → Bool) (size : ℕ) (gaps : List (ℕ × ℕ)) : Type 0 where
  pub each : (place : ℕ)
      → IsInGap gaps place ↔ ((place < size) × (covered place ≡ false))
  pub apart : AllPairs (λ a b. a.1 < b.0) gaps

abbrev pub GapsAreMaximal : Type 0
GapsAreMaximal = (covered : ℕ → Bool) (size : ℕ) → AreMaximal covered size (gaps_below covered size)
