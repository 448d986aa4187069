-- The shapes of lines, and the JSON of a line by its shape.
use Rattle.std.specs.Prelude.{ℕ, ◌==◌, ◌&&◌, Bool, true, false, nat_le, List, [], ◌∷◌, ◌++◌, length, codes, decimal, if◌then◌else◌}
use Rattle.std.specs.Str.{bytes_eq}
use Rattle.jjson.specs.Json.{member, json_object, text_member}
use Rattle.jjson.specs.Numbers.{address_number, is_address, is_number}
use Rattle.jjson.specs.Words.{meant, words_of}
use Rattle.jjson.specs.declared.part.PartKind.{PartKind}
use Rattle.jjson.specs.declared.part.PartKind.TheVariants as part

-- A shape is a name of a kind of line, and a text of parts, one for each word. A part is a mark and
-- the name of a member, or a word without a mark, which the line has too.
abbrev pub Shape : Type 0
Shape = List ℕ × List ℕ

abbrev pub part_kind : ℕ → PartKind
part_kind mark =
    if mark == 35 then part.Number
    else if mark == 94 then part.Large
    else if mark == 64 then part.Address
    else if mark == 61 then part.Text
    else if mark == 37 then part.Name
    else if mark == 47 then part.Path
    else if mark == 63 then part.Flag
    else if mark == 62 then part.Empty
    else part.Word

abbrev pub is_path : List ℕ → Bool
is_path [] = false
is_path (b ∷ bs) = b == 47

-- ---- what a part takes

-- `#` a number, `^` one of four digits or more, `@` an address, `=` a text, `%` a name, `/` a path,
-- `?` its name in parentheses, `>` the arrow before an empty target; any other part itself
abbrev pub kind_takes : PartKind → ℕ → List ℕ → List ℕ → Bool
kind_takes part.Number mark name word = is_number word
kind_takes part.Large mark name word = is_number word && nat_le 4 (length word)
kind_takes part.Address mark name word = is_address word
kind_takes part.Text mark name word = true
kind_takes part.Name mark name word = true
kind_takes part.Path mark name word = is_path word
kind_takes part.Flag mark name word = bytes_eq word (codes "(" ++ (name ++ codes ")"))
kind_takes part.Empty mark name word = bytes_eq word (codes "->")
kind_takes part.Word mark name word = bytes_eq word (mark ∷ name)

abbrev pub part_takes : List ℕ → List ℕ → Bool
part_takes [] word = false
part_takes (mark ∷ name) word = kind_takes (part_kind mark) mark name word

-- whether there is a word for each part, and each part takes its word
abbrev pub fits : List (List ℕ) → List (List ℕ) → Bool
fits [] [] = true
fits [] (word ∷ words) = false
fits (part ∷ parts) [] = false
fits (part ∷ parts) (word ∷ words) = part_takes part word && fits parts words

abbrev pub has_shape : List ℕ → Shape → Bool
has_shape line shape = fits (words_of shape.1) (words_of line)

-- ---- what a part gives

-- the member of a part
abbrev pub kind_gives : PartKind → List ℕ → List ℕ → List ℕ
kind_gives part.Number name word = member name word
kind_gives part.Large name word = member name word
kind_gives part.Address name word = member name (decimal (address_number word))
kind_gives part.Text name word = text_member name word
kind_gives part.Name name word = text_member name (meant word)
kind_gives part.Path name word = text_member name (meant word)
kind_gives part.Flag name word = member name (codes "true")
kind_gives part.Empty name word = text_member name []
kind_gives part.Word name word = []

abbrev pub part_gives : List ℕ → List ℕ → List ℕ
part_gives [] word = []
part_gives (mark ∷ name) word = kind_gives (part_kind mark) name word

abbrev pub members : List (List ℕ) → List (List ℕ) → List ℕ
members [] words = []
members (part ∷ parts) [] = []
members (part ∷ parts) (word ∷ words) = part_gives part word ++ members parts words

-- the JSON of a line of a shape; a shape without a name is that of a heading, which gives none
abbrev pub shaped_line : Shape → List ℕ → List ℕ
shaped_line ([], parts) line = []
shaped_line (b ∷ kind, parts) line =
    json_object (b ∷ kind) (members (words_of parts) (words_of line))
