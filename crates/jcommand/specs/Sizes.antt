-- The size of a block, as a text.
use Rattle.std.specs.Prelude.{◌+◌, ◌-◌, ◌*◌, ◌^◌, ◌&&◌, ◌==◌, ℕ, [], ◌∷◌, Option, Some, None, if◌then◌else◌, nat_lt, option_and_then}
use Rattle.std.specs.Char.{is_ascii_digit}
use Rattle.clap.specs.Words.{Text}
use Rattle.jline.specs.Read.{digit_of}

-- a number below 2 ^ 32
abbrev pub if_number : ℕ → Option ℕ
if_number n = if nat_lt n (2 ^ 32) then Some n else None

-- ---- in hexadecimal digits

abbrev pub hex_next : ℕ → ℕ → Option ℕ
hex_next n b = option_and_then (λ d. if_number (16 * n + d)) (digit_of b)

-- in which n stands for the digits before
abbrev pub hex_from : ℕ → Text → Option ℕ
hex_from n [] = Some n
hex_from n (b ∷ bs) = option_and_then (λ m. hex_from m bs) (hex_next n b)

abbrev pub hex_number : Text → Option ℕ
hex_number [] = None
hex_number (b ∷ bs) = hex_from 0 (b ∷ bs)

-- what stands behind `0x`
abbrev pub behind_hex : Text → Option Text
behind_hex (a ∷ b ∷ digits) = if a == 48 && b == 120 then Some digits else None
behind_hex _ = None

-- ---- in decimal digits, and a unit behind them

abbrev pub letter_unit : ℕ → Option ℕ
letter_unit b = if b == 75 then Some 1024 else if b == 77 then Some 1048576 else None

-- `K` or `KiB`, `M` or `MiB`, or nothing
abbrev pub unit_of : Text → Option ℕ
unit_of [] = Some 1
unit_of (b ∷ []) = letter_unit b
unit_of (b ∷ i ∷ c ∷ []) = if i == 105 && c == 66 then letter_unit b else None
unit_of _ = None

abbrev pub in_unit : ℕ → Text → Option ℕ
in_unit n unit = option_and_then (λ u. if_number (n * u)) (unit_of unit)

-- in which n stands for the digits before
abbrev pub scaled_from : ℕ → Text → Option ℕ
scaled_from n [] = in_unit n []
scaled_from n (b ∷ bs) = if is_ascii_digit b && nat_lt (10 * n + (b - 48)) (2 ^ 32)
    then scaled_from (10 * n + (b - 48)) bs
    else in_unit n (b ∷ bs)

abbrev pub scaled_number : Text → Option ℕ
scaled_number [] = None
scaled_number (b ∷ bs) = if is_ascii_digit b then scaled_from 0 (b ∷ bs) else None

-- a size in bytes, below 2 ^ 32
abbrev pub size_by : Text → Option Text → Option ℕ
size_by text (Some digits) = hex_number digits
size_by text None = scaled_number text

abbrev pub size_number : Text → Option ℕ
size_number text = size_by text (behind_hex text)
