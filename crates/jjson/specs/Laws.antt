-- Laws of these words. Each is a statement: it holds where a function's contract names it.
use Rattle.std.specs.Prelude.{◌≡◌, ◌<◌, ◌⊎◌, ℕ, false, List, [], ◌∷◌, ◌++◌}
use Rattle.std.specs.List.{All}
use Rattle.jline.specs.Words.{escaped}
use Rattle.jjson.specs.Texts.{is_feed, json_after, json_line, json_of, unfinished}
use Rattle.jjson.specs.Words.{meant}
use Rattle.jjson.specs.declared.lines.Lines.{Lines}

-- The JSON of a text that goes on is that of the first part, and then that of the rest behind the
-- line that the first part begins.
abbrev pub JsonGoesOn : Type 0
JsonGoesOn = (lines : Lines) (front text : List ℕ)
    → json_of lines (front ++ text)
    ≡ json_of lines front ++ json_after lines (unfinished [] front) text

-- Whole lines do not matter to the lines after them.
abbrev pub WholeLinesAreApart : Type 0
WholeLinesAreApart = (lines : Lines) (front text : List ℕ) → unfinished [] front ≡ []
    → json_of lines (front ++ text) ≡ json_of lines front ++ json_of lines text

-- bytes with one line feed, at their end
abbrev pub IsOneLine : List ℕ → Type 0
IsOneLine bytes = (line : List ℕ) × (bytes ≡ line ++ 10 ∷ [])
    × All (λ b. is_feed b ≡ false) line

-- A line gives one line of JSON, or none.
abbrev pub GivesOneLine : Type 0
GivesOneLine = (lines : Lines) (line : List ℕ)
    → (json_line lines line ≡ []) ⊎ IsOneLine (json_line lines line)

-- A name that is printed with its escapes is meant.
abbrev pub NamesAreMeant : Type 0
NamesAreMeant = (name : List ℕ) → All (λ b. b < 256) name → meant (escaped name) ≡ name
