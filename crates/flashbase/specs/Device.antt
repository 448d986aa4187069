-- What a call of a device does to its bytes, where the device reports them, and to its count of
-- failures.
use Rattle.std.specs.Prelude.{◌≡◌, ◌+◌, ◌%◌, ◌^◌, ◌<◌, ◌≤◌, ℕ, List, take, length, Option, Result, Ok, Err}
use Rattle.std.specs.Io.KnownBytes.{Appends, Keeps}
use Rattle.flashbase.specs.declared.source.LoadFault.{LoadFault}
use Rattle.flashbase.specs.declared.source.LoadFault.TheVariants.{Device, TooLarge, OutOfMemory}

-- the count after one more failure: 0 follows the greatest u64
abbrev pub next_count : ℕ → ℕ
next_count n = (n + 1) % 2 ^ 64

-- an Err comes with a count that rose, an Ok leaves it
abbrev pub CountsErr : {T E : Type 0} → ℕ → ℕ → Result T E → Type 0
CountsErr before now (Ok _) = now ≡ before
CountsErr before now (Err _) = now ≡ next_count before

-- One put of a slice: the first n bytes are taken. To take none of a nonempty slice is a failure.
abbrev pub PutsOnce : {E : Type 0} → Option (List ℕ) → Option (List ℕ) → ℕ → ℕ → List ℕ → Result ℕ E
    → Type 0
PutsOnce old new before now bytes (Ok n) = (n ≤ length bytes) × Appends old new (take n bytes)
    × (0 < n → now ≡ before) × (n ≡ 0 → length bytes ≡ 0 → now ≡ before)
    × (n ≡ 0 → 0 < length bytes → now ≡ next_count before)
PutsOnce old new before now bytes (Err _) = Keeps old new × (now ≡ next_count before)

-- a beginning of the bytes went out
abbrev pub PutsPart : Option (List ℕ) → Option (List ℕ) → List ℕ → Type 0
PutsPart old new bytes = (n : ℕ) × Appends old new (take n bytes)

-- A call puts all of these bytes. At a fault a beginning of them went out, and the sink failed
-- once.
abbrev pub Puts : {T E : Type 0} → Option (List ℕ) → Option (List ℕ) → ℕ → ℕ → List ℕ → Result T E
    → Type 0
Puts old new before now bytes (Ok _) = Appends old new bytes × (now ≡ before)
Puts old new before now bytes (Err _) = PutsPart old new bytes × (now ≡ next_count before)

-- the count rose by one where a load's fault is the device's, and stayed otherwise
abbrev pub CountsLoad : {T : Type 0} → ℕ → ℕ → Result T LoadFault → Type 0
CountsLoad before now (Ok _) = now ≡ before
CountsLoad before now (Err Device) = now ≡ next_count before
CountsLoad before now (Err TooLarge) = now ≡ before
CountsLoad before now (Err OutOfMemory) = now ≡ before
