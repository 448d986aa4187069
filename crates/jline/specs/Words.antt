-- How numbers, names and lines are spelled in what the program prints.
use Rattle.std.specs.Prelude.{ℕ, zero, suc, ◌/◌, ◌%◌, ◌==◌, ◌&&◌, ◌||◌, not, Bool, false, nat_lt, nat_le, ◌+◌, List, [], ◌∷◌, ◌++◌, if◌then◌else◌}
use Rattle.std.specs.List.{flat_map}
use Rattle.std.specs.Fmt.{radix_digits}
use Rattle.jline.specs.declared.spelling.Spelling.{Spelling}
use Rattle.jline.specs.declared.spelling.Spelling.TheVariants as spelling

-- a lower-case hexadecimal digit
abbrev pub hex_digit : ℕ → ℕ
hex_digit d = if nat_lt d 10 then 48 + d else 87 + d

-- the last k hexadecimal digits of n
unfoldable pub hex : ℕ → ℕ → List ℕ
hex zero n = []
hex (suc k) n = hex k (n / 16) ++ hex_digit (n % 16) ∷ []

-- a number in octal digits, with no zero in front
abbrev pub octal : ℕ → List ℕ
octal n = radix_digits 8 false n

-- a byte that stands for itself: one that is seen, and is neither a backslash nor a slash
abbrev pub is_plain : ℕ → Bool
is_plain b = nat_le 0x21 b && nat_le b 0x7E && not (b == 92) && not (b == 47)

-- `\x` and the two hexadecimal digits of a byte
abbrev pub hex_escape : ℕ → List ℕ
hex_escape b = 92 ∷ 120 ∷ hex_digit (b / 16) ∷ hex_digit (b % 16) ∷ []

abbrev pub escaped_byte : ℕ → List ℕ
escaped_byte b = if is_plain b then b ∷ [] else hex_escape b

-- rule: What is printed: Names, numbers and addresses in a line.
--   definitions: jline.Words.escaped, jline.Words.hex, jline.Words.octal
--   code: jline::line::LineBuffer
--   laws: jreport::report_examples::names_are_escaped
abbrev pub escaped : List ℕ → List ℕ
escaped bytes = flat_map escaped_byte bytes

-- a byte that would end the line that it is in, or hide in it
abbrev pub is_control : ℕ → Bool
is_control b = nat_lt b 0x20 || b == 0x7F

-- in a line it is `\x` and its two hexadecimal digits, and any other byte stands for itself
abbrev pub in_line_byte : ℕ → List ℕ
in_line_byte b = if is_control b then hex_escape b else b ∷ []

-- a text within a line
abbrev pub in_line : List ℕ → List ℕ
in_line bytes = flat_map in_line_byte bytes

-- a byte of a path or a target: a slash is itself, and any other byte that is not plain is escaped
abbrev pub word_byte : ℕ → List ℕ
word_byte b = if b == 47 then b ∷ [] else escaped_byte b

-- rule: What is printed: Paths in a listing that is written.
--   definitions: jline.Words.word_of
--   code: jline::escapes::put_word
--   laws: jfolder::laws::listing_is_read_back
-- a path or a target
abbrev pub word_of : List ℕ → List ℕ
word_of bytes = flat_map word_byte bytes

-- ---- each of them, by its name

abbrev pub spelled_byte : Spelling → ℕ → List ℕ
spelled_byte spelling.Escaped = escaped_byte
spelled_byte spelling.InLine = in_line_byte
spelled_byte spelling.Word = word_byte

abbrev pub spelled : Spelling → List ℕ → List ℕ
spelled way bytes = flat_map (spelled_byte way) bytes
