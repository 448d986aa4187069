-- Objects of JSON, each on a line of its own (RFC 8259; JSON Lines).
use Rattle.std.specs.Prelude.{ℕ, ◌/◌, ◌%◌, ◌==◌, ◌||◌, nat_lt, List, [], ◌∷◌, ◌++◌, codes, if◌then◌else◌}
use Rattle.std.specs.List.{flat_map}
use Rattle.std.specs.Str.{is_utf8}
use Rattle.jline.specs.Words.{hex_digit}
use Rattle.jjson.specs.declared.spelling.Spelling.{Spelling}
use Rattle.jjson.specs.declared.spelling.Spelling.TheVariants as spelling

-- the two hexadecimal digits of a byte
abbrev pub hex_pair : ℕ → List ℕ
hex_pair b = hex_digit (b / 16) ∷ hex_digit (b % 16) ∷ []

-- a byte within a string (RFC 8259, section 7): a quotation mark and a backslash have a backslash
-- before them, a control byte is `\u00` and its two hexadecimal digits
abbrev pub string_byte : ℕ → List ℕ
string_byte b =
    if b == 34 || b == 92 then 92 ∷ b ∷ []
    else if nat_lt b 0x20 then 92 ∷ codes "u00" ++ hex_pair b
    else b ∷ []

-- a byte within a string, by how the string spells bytes
abbrev pub string_spelled_byte : Spelling → ℕ → List ℕ
string_spelled_byte spelling.Text = string_byte
string_spelled_byte spelling.Hex = hex_pair

abbrev pub string_spelled : Spelling → List ℕ → List ℕ
string_spelled way bytes = flat_map (string_spelled_byte way) bytes

-- a string of bytes
abbrev pub string_of : Spelling → List ℕ → List ℕ
string_of way bytes = codes "\"" ++ (string_spelled way bytes ++ codes "\"")

-- a member of an object, behind others; its name is plain
abbrev pub member : List ℕ → List ℕ → List ℕ
member name value = codes ",\"" ++ (name ++ (codes "\":" ++ value))

-- rule: What is printed: A text in JSON is a string, or hexadecimal digits if it is not UTF-8.
--   definitions: jjson.Json.text_member, jjson.Json.string_byte
--   code: jjson::members::put_text_member
--   laws: jjson::examples::known_members
-- Bytes that are UTF-8 are a string. Of others the member's name ends with `_bytes`, and the string
-- has their hexadecimal digits.
abbrev pub text_member : List ℕ → List ℕ → List ℕ
text_member name bytes =
    if is_utf8 bytes then member name (string_of spelling.Text bytes)
    else member (name ++ codes "_bytes") (string_of spelling.Hex bytes)

-- an object of these members, whose first one says which kind of line it is
abbrev pub json_object : List ℕ → List ℕ → List ℕ
json_object kind members =
    codes "{\"line\":\"" ++ (kind ++ (codes "\"" ++ (members ++ codes "}\n")))
