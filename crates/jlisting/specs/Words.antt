-- What the words of a listing stand for. No word is empty: an empty one stands for nothing.
use Rattle.std.specs.Prelude.{ℕ, ◌+◌, ◌-◌, ◌*◌, ◌==◌, ◌&&◌, Bool, nat_le, nat_lt, List, [], ◌∷◌, length, codes, Option, Some, None, if◌then◌else◌}
use Rattle.std.specs.Str.{bytes_eq, is_utf8}
use Rattle.jsteps.specs.declared.device.DeviceKind.{DeviceKind}
use Rattle.jsteps.specs.declared.device.DeviceKind.TheVariants.{Character, Block}
use Rattle.jline.specs.Read.{◌>>=◌, pairs_of, unescaped}

-- ---- numbers

abbrev pub is_digit : ℕ → ℕ → Bool
is_digit base b = nat_le 48 b && nat_lt b (48 + base)

-- the number that digits stand for after those that make n, up to a limit
abbrev pub digits_from : ℕ → ℕ → ℕ → List ℕ → Option ℕ
digits_from base limit n [] = Some n
digits_from base limit n (b ∷ bs) =
    if is_digit base b && nat_le (base * n + (b - 48)) limit then digits_from base limit
    (base * n + (b - 48)) bs else None

-- so many digits at most
abbrev pub number_of : ℕ → ℕ → ℕ → List ℕ → Option ℕ
number_of base most limit word = if nat_le 1 (length word)
    && nat_le (length word) most then digits_from base limit 0 word else None

-- rule: Listings: Numbers, modes and bytes in a line.
--   definitions: jlisting.Words.decimal_of, jlisting.Words.mode_of, jlisting.Words.hex_data_of
--   code: jlisting::words::digits
--   laws: jlisting::laws::numbers_are_numerals, jlisting::laws::decimals_are_read_back
abbrev pub decimal_of : ℕ → List ℕ → Option ℕ
decimal_of limit word = number_of 10 10 limit word

abbrev pub mode_of : List ℕ → Option ℕ
mode_of word = number_of 8 6 0o777777 word

-- the kind of a device
abbrev pub device_kind_of : List ℕ → Option DeviceKind
device_kind_of word =
    if bytes_eq word (codes "c") then Some Character
    else if bytes_eq word (codes "b") then Some Block
    else None

-- ---- bytes

-- where a word is not empty, what is read of it
abbrev pub of_word : List ℕ → Option (List ℕ) → Option (List ℕ)
of_word word read = if length word == 0 then None else read

-- a path or a target
abbrev pub text_of : List ℕ → Option (List ℕ)
text_of word = of_word word (unescaped word)

-- what is to be written; a dash is no bytes
abbrev pub hex_data_of : List ℕ → Option (List ℕ)
hex_data_of word = of_word word (if bytes_eq word (codes "-") then Some [] else pairs_of word)

-- bytes that are text
abbrev pub as_name : List ℕ → Option (List ℕ)
as_name bytes = if is_utf8 bytes then Some bytes else None

-- the name of a file of the host: text, which stands as it is
abbrev pub file_name_of : List ℕ → Option (List ℕ)
file_name_of word = of_word word (as_name word)

-- and one that is read as a path is, so that it may hold any character
abbrev pub escaped_name_of : List ℕ → Option (List ℕ)
escaped_name_of word = text_of word >>= as_name
