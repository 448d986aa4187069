-- Numbers in a line.
use Rattle.std.specs.Prelude.{ℕ, ◌+◌, ◌*◌, ◌-◌, ◌==◌, ◌&&◌, ◌||◌, Bool, false, nat_le, List, [], ◌∷◌, length, fold, if◌then◌else◌}
use Rattle.std.specs.List.{list_all}

abbrev pub is_decimal_digit : ℕ → Bool
is_decimal_digit b = nat_le 48 b && nat_le b 57

-- whether a word is a number of JSON (RFC 8259, section 6): decimal digits with no zero in front
abbrev pub is_number : List ℕ → Bool
is_number [] = false
is_number (b ∷ []) = is_decimal_digit b
is_number (b ∷ c ∷ bs) = nat_le 49 b && nat_le b 57 && list_all is_decimal_digit (c ∷ bs)

-- a lower-case hexadecimal digit
abbrev pub is_hex_digit : ℕ → Bool
is_hex_digit b = is_decimal_digit b || (nat_le 97 b && nat_le b 102)

abbrev pub hex_value : ℕ → ℕ
hex_value b = if is_decimal_digit b then b - 48 else b - 87

-- an address is eight of them
abbrev pub is_address : List ℕ → Bool
is_address word = length word == 8 && list_all is_hex_digit word

abbrev pub with_digit : ℕ → ℕ → ℕ
with_digit n b = 16 * n + hex_value b

-- the number that it is
abbrev pub address_number : List ℕ → ℕ
address_number word = fold with_digit 0 word
