-- A law ranges over every number: these say which of them bytes can hold.
use Rattle.std.specs.Prelude.{ℕ, ◌<◌, ◌^◌, List, slice_index}

-- each is a byte (past the end `slice_index` answers 0)
abbrev pub AreBytes : List ℕ → Type 0
AreBytes bytes = (i : ℕ) → slice_index bytes i < 256

-- a number of 16 and of 32 bits
abbrev pub IsHalf : ℕ → Type 0
IsHalf n = n < 2 ^ 16

abbrev pub IsWord : ℕ → Type 0
IsWord n = n < 2 ^ 32
