-- The words of a line, and what they stand for.
use Rattle.std.specs.Prelude.{ℕ, ◌==◌, Bool, true, false, List, [], ◌∷◌, filter, unwrap_or}
use Rattle.std.specs.List.{slice_split}
use Rattle.jline.specs.Read.{unescaped}

abbrev pub is_space : ℕ → Bool
is_space b = b == 32

abbrev pub has_bytes : List ℕ → Bool
has_bytes [] = false
has_bytes (b ∷ bs) = true

-- the words of a text: what is between its spaces, however many these are
abbrev pub words_of : List ℕ → List (List ℕ)
words_of text = filter has_bytes (slice_split is_space text)

-- rule: What is printed: A name in JSON is the bytes that its escapes stand for.
--   definitions: jjson.Words.meant
--   code: jjson::members::put_meant
--   laws: jjson::laws::names_are_meant, jjson::examples::known_words
-- the bytes that a word stands for, by its escapes; one with another backslash stands for itself
abbrev pub meant : List ℕ → List ℕ
meant word = unwrap_or (unescaped word) word
