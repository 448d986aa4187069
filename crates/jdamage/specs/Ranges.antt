-- The ranges of lost nodes, and which sound versions matter beside them.
use Rattle.std.specs.Prelude.{◌≡◌, ℕ, ◌<◌, ◌≤◌, ◌⊎◌, nat_le, if◌then◌else◌, List, length, slice_index_or, Contains, Option, Some, None}
use Rattle.std.specs.List.Sorted.{IsNonDecreasingBy}
use Rattle.std.specs.BTreeMap.{BTreeMap, get}
use Rattle.std.specs.Ordering.{nat_cmp}
use Rattle.jnode.specs.declared.order.Endian.{Endian}
use Rattle.jnode.specs.declared.node.Damage.{Damage}
use Rattle.jnode.specs.declared.node.Damage.TheVariants.{DataCrc}
use Rattle.jgaps.specs.Fields.{stretch_at}
use Rattle.jdamage.specs.Sweep.{spot}
use Rattle.jgaps.specs.declared.fields.Stretch.{Stretch}

-- the spots of a version: where its range begins, and where it ends
abbrev pub range_of : Stretch → ℕ × ℕ
range_of s = (spot s.ino s.from, spot s.ino s.to)

-- those of a node whose data are damaged
abbrev pub range_if : Endian → List ℕ → ℕ × Damage → Option (ℕ × ℕ)
range_if e image (addr, DataCrc) = Some (range_of (stretch_at e image addr))
range_if e image (addr, _) = None

-- Ranges in the order of their starts. For each lost one there is one that begins no later, from
-- which on none ends earlier; and each ends with a lost one that begins no later.
pub record FindsAll (lost ranges : List (ℕ × ℕ)) : Type 0 where
  pub ascend : IsNonDecreasingBy (λ r. r.0) ranges
  pub each : (r : ℕ × ℕ) → Contains lost r → (k : ℕ) × (k < length ranges)
      × ((slice_index_or ranges k (0, 0)).0 ≤ r.0)
      × ((j : ℕ) → k ≤ j → j < length ranges → r.1 ≤ (slice_index_or ranges j (0, 0)).1)
  pub real : (k : ℕ) → k < length ranges → (r : ℕ × ℕ) × Contains lost r
      × (r.0 ≤ (slice_index_or ranges k (0, 0)).0) × (r.1 ≡ (slice_index_or ranges k (0, 0)).1)

-- a version's range shares a place with a lost one, or one begins where the other ends
abbrev pub TouchesOne : List (ℕ × ℕ) → Stretch → Type 0
TouchesOne lost s = (r : ℕ × ℕ) × Contains lost r × (r.0 ≤ spot s.ino s.to)
    × (spot s.ino s.from ≤ r.1)

-- of these versions those are there that matter: each that touches a lost range, and of each object
-- one of the highest version
pub record KeepsWhatMatters (lost : List (ℕ × ℕ)) (all found : List Stretch) : Type 0 where
  pub within : (s : Stretch) → Contains found s → Contains all s
  pub touching : (s : Stretch) → Contains all s → TouchesOne lost s → Contains found s
  pub highest : (s : Stretch) → Contains all s → (t : Stretch) × Contains found t
      × (t.ino ≡ s.ino) × (s.version ≤ t.version)

-- of a version that was kept, where one was, and another: the higher one
abbrev pub higher_version : Option Stretch → Stretch → Stretch
higher_version None s = s
higher_version (Some t) s = if nat_le s.version t.version then t else s

-- one of the object is among those found or the highest ones, and no version is higher
abbrev pub HasHigher : List Stretch → BTreeMap ℕ Stretch → Stretch → Type 0
HasHigher found tops s = (t : Stretch) × (Contains found t ⊎ (get nat_cmp tops s.ino ≡ Some t))
    × (t.ino ≡ s.ino) × (s.version ≤ t.version)

-- the same while some versions are left
pub record Sifted (lost : List (ℕ × ℕ)) (all rest found : List Stretch) (tops : BTreeMap ℕ Stretch)
    : Type 0 where
  pub rest_within : (s : Stretch) → Contains rest s → Contains all s
  pub within : (s : Stretch) → Contains found s → Contains all s
  pub tops_within : (i : ℕ) (t : Stretch) → get nat_cmp tops i ≡ Some t
      → Contains all t × (t.ino ≡ i)
  pub each : (s : Stretch) → Contains all s
      → Contains rest s ⊎ ((TouchesOne lost s → Contains found s) × HasHigher found tops s)
