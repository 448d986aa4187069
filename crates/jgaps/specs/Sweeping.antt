-- The gaps of one file, as they are found from the lowest place up.
use Rattle.std.specs.Prelude.{◌≡◌, ℕ, ◌+◌, ◌*◌, ◌<◌, ◌≤◌, Bool, true, List, ◌++◌, map, min}
use Rattle.std.specs.List.{All, list_any}
use Rattle.std.specs.List.Sorted.{IsNonDecreasingBy}
use Rattle.jgaps.specs.Gaps.{gap_of, gaps_from, has_place, is_first}
use Rattle.jgaps.specs.declared.fields.Stretch.{Stretch}
use Rattle.jgaps.specs.declared.gap.Gap.{Gap}

-- the place where the range of a node begins; no file has a place from 2^32 - 1 on
abbrev pub begin_of : Stretch → ℕ
begin_of s = min s.from 4294967295

-- one number for it and its object, by which nodes are sorted
abbrev pub start_of : Stretch → ℕ
start_of s = s.ino * 4294967296 + begin_of s

abbrev pub AreSorted : List Stretch → Type 0
AreSorted sound = IsNonDecreasingBy start_of sound

-- their ranges begin in this order
abbrev pub Begin : List Stretch → Type 0
Begin ranges = IsNonDecreasingBy begin_of ranges

-- none begins before this one
abbrev pub BeginFrom : Stretch → List Stretch → Type 0
BeginFrom first ranges = All (λ s. begin_of first ≤ s.from) ranges

-- these ranges have exactly the places below the size that are covered
abbrev pub Cover : (ℕ → Bool) → ℕ → List Stretch → Type 0
Cover covered size ranges =
    (place : ℕ) → place < size → covered place ≡ list_any (has_place place) ranges

-- Up to a place all gaps were found. From there on just what the ranges that are left have is
-- covered.
pub record Swept (ino size : ℕ) (covered : ℕ → Bool) (all : List Gap) (left : List Stretch)
    (found : List Gap) (reach : ℕ) : Type 0 where
  pub within : reach ≤ size
  pub first : is_first covered reach ≡ true
  pub covers : (place : ℕ) → place < size → list_any (has_place place) left ≡ true
      → covered place ≡ true
  pub rest : (place : ℕ) → reach ≤ place → place < size
      → covered place ≡ list_any (has_place place) left
  pub so_far : all ≡ found ++ map (gap_of ino) (gaps_from covered size reach)
