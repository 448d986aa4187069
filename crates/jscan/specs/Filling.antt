-- Why a block is not read.
use Rattle.std.specs.Prelude.{◌≡◌, ℕ, ◌<◌, ◌≤◌, List, length, drop, min, Option, Some, None, IfSome, ⊤}
use Rattle.flashbase.specs.Device.{next_count}
use Rattle.jscan.specs.declared.stream.StreamFault.{StreamFault}
use Rattle.jscan.specs.declared.stream.StreamFault.TheVariants.{BlockSize, Device, TooLarge, OutOfMemory}

-- A first part of the bytes was taken, of fewer than `size` of them,
abbrev pub StopsWithin : Option (List ℕ) → Option (List ℕ) → ℕ → Type 0
StopsWithin None left size = ⊤
StopsWithin (Some bytes) left size = (n : ℕ) × (n < size) × (left ≡ Some (drop n bytes))

-- or of more than `room` of them, and at most `size`.
abbrev pub StopsPast : Option (List ℕ) → Option (List ℕ) → ℕ → ℕ → Type 0
StopsPast None left room size = ⊤
StopsPast (Some bytes) left room size =
    (n : ℕ) × (room < n) × (n ≤ size) × (left ≡ Some (drop n bytes))

-- The device failed once, or the block of `size` bytes that comes next holds more than `room` bytes
-- of the source.
abbrev pub Breaks : Option (List ℕ) → ℕ → ℕ → ℕ → ℕ → StreamFault → Type 0
Breaks rest before now size room Device = now ≡ next_count before
Breaks rest before now size room TooLarge =
    IfSome rest (λ bytes. room < min size (length bytes)) × (now ≡ before)
Breaks rest before now size room BlockSize = ⊥
Breaks rest before now size room OutOfMemory = ⊥
