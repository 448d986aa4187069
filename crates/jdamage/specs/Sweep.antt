-- Which damaged nodes hide nothing, found from the highest version down.
use Rattle.std.specs.Prelude.{◌≡◌, ℕ, ◌+◌, ◌*◌, ◌<◌, ◌≤◌, Bool, true, not, ◌==◌, ◌&&◌, nat_lt, nat_le, min, List, ◌++◌}
use Rattle.std.specs.List.{All, list_any}
use Rattle.std.specs.List.Sorted.{IsNonDecreasingBy}
use Rattle.std.specs.BTreeSet.{BTreeSet, contains}
use Rattle.std.specs.Ordering.{nat_cmp}
use Rattle.jgaps.specs.declared.fields.Stretch.{Stretch}

abbrev pub Numbers : Type 0
Numbers = BTreeSet ℕ

-- one number for a place of an object; its places from 2^32 - 1 on are one, past any size
abbrev pub spot : ℕ → ℕ → ℕ
spot ino place = ino * 4294967296 + min place 4294967295

-- whether a version has a spot
abbrev pub has_spot : ℕ → Stretch → Bool
has_spot c s = nat_le (spot s.ino s.from) c && nat_lt c (spot s.ino s.to)

-- in ascending order of version
abbrev pub Ascends : List Stretch → Type 0
Ascends ss = IsNonDecreasingBy (λ s. s.version) ss

abbrev pub AreBelow : ℕ → List Stretch → Type 0
AreBelow version ss = All (λ s. s.version < version) ss

-- the ends of their ranges are among the spots
abbrev pub HaveEnds : BTreeSet ℕ → List Stretch → Type 0
HaveEnds spots ss = All (λ s. contains nat_cmp spots (spot s.ino s.to) ≡ true) ss

-- Of all versions the last ones were taken, none of which is below this one: of the spots those are
-- bare that none of them has, and the numbers are theirs.
pub record Taken (version : ℕ) (all : List Stretch) (spots : BTreeSet ℕ) (left : List Stretch)
    (bare numbers : BTreeSet ℕ) : Type 0 where
  pub taken : List Stretch
  pub split : all ≡ left ++ taken
  pub high : All (λ s. version ≤ s.version) taken
  pub bare_are : (c : ℕ) → contains nat_cmp bare c
      ≡ (contains nat_cmp spots c && not (list_any (has_spot c) taken))
  pub numbers_are : (i : ℕ) → contains nat_cmp numbers i ≡ list_any (λ s. s.ino == i) taken
