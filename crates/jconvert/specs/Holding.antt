-- What is held of the bytes that the data of an image's compressed nodes stand for.
use Rattle.std.specs.Prelude.{◌≡◌, ◌⊎◌, ℕ, ◌+◌, ◌<◌, ◌≤◌, ◌++◌, nat_le, List, [], length, drop, if◌then◌else◌}
use Rattle.jnode.specs.declared.order.Endian.{Endian}
use Rattle.jexpand.specs.Expanded.{unpacked_bytes}

-- a beginning of them
abbrev pub IsHeldOf : Endian → ℕ → List ℕ → List ℕ → Type 0
IsHeldOf e size image held = (more : List ℕ) × (unpacked_bytes e size image ≡ held ++ more)

-- What is held begins with the content of a tile, unless it is shorter.
abbrev pub BeginsAs : List ℕ → List ℕ → Type 0
BeginsAs content held = length content ≤ length held → held ≡ content ++ drop (length content) held

-- what is held of the tiles behind it: nothing, where the content was not held whole
abbrev pub held_after : List ℕ → List ℕ → List ℕ
held_after content held =
    if nat_le (length content) (length held) then drop (length content) held else []

-- There is no room for so many bytes more behind `len`: they pass the limit, or the memory that
-- there is already. So there always is room for none.
abbrev pub HasNoRoom : ℕ → ℕ → ℕ → ℕ → Type 0
HasNoRoom most len capacity count = (most < len + count) ⊎ (capacity < len + count)
