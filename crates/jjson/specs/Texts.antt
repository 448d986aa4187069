-- The JSON of what a command prints.
use Rattle.std.specs.Prelude.{ℕ, ◌==◌, Bool, List, [], ◌∷◌, ◌++◌, codes, find, Option, Some, None, if◌then◌else◌}
use Rattle.std.specs.List.{flat_map}
use Rattle.jjson.specs.Json.{json_object, text_member}
use Rattle.jjson.specs.Shapes.{Shape, has_shape, shaped_line}
use Rattle.jjson.specs.Tables.{shapes}
use Rattle.jjson.specs.declared.lines.Lines.{Lines}

-- ---- one line

-- by a shape, if one is found
abbrev pub json_line_by : Option Shape → List ℕ → List ℕ
json_line_by (Some shape) line = shaped_line shape line
json_line_by None line = json_object (codes "text") (text_member (codes "text") line)

-- rule: What is printed: The JSON of a line is an object by the first shape that the line has.
--   definitions: jjson.Texts.json_line, jjson.Shapes.shaped_line, jjson.Tables.shapes
--   code: jjson::line::put_line
--   laws: jjson::examples::known_lines
-- the JSON of a line of a command's text, without its line feed
abbrev pub json_line : Lines → List ℕ → List ℕ
json_line lines line = json_line_by (find (has_shape line) (shapes lines)) line

-- ---- a text

abbrev pub is_feed : ℕ → Bool
is_feed b = b == 10

-- lines, of whose first one a beginning came before
abbrev pub after_beginning : List ℕ → List (List ℕ) → List (List ℕ)
after_beginning begun [] = []
after_beginning begun (line ∷ lines) = (begun ++ line) ∷ lines

-- the lines that a line feed ends, without it
abbrev pub ended_lines : List ℕ → List (List ℕ)
ended_lines [] = []
ended_lines (b ∷ text) =
    if is_feed b then [] ∷ ended_lines text else after_beginning (b ∷ []) (ended_lines text)

-- the unfinished line at the end of a text, of whose first line a beginning came before
abbrev pub unfinished : List ℕ → List ℕ → List ℕ
unfinished begun [] = begun
unfinished begun (b ∷ text) =
    if is_feed b then unfinished [] text else unfinished (begun ++ b ∷ []) text

-- the JSON of a text, of whose first line a beginning came before
abbrev pub json_after : Lines → List ℕ → List ℕ → List ℕ
json_after lines begun text = flat_map (json_line lines) (after_beginning begun (ended_lines text))

-- rule: What is printed: The JSON of a text is that of its lines.
--   definitions: jjson.Texts.json_of
--   code: jjson::sink::JsonSink
--   laws: jjson::laws::goes_on, jjson::laws::one_line
-- the JSON of what a command prints; an unfinished last line gives none
abbrev pub json_of : Lines → List ℕ → List ℕ
json_of lines text = flat_map (json_line lines) (ended_lines text)
