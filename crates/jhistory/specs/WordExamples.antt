-- Worked rows of words.
use Rattle.std.specs.Prelude.{ℕ, Bool, List, Option, None, map}
use Rattle.jcompact.specs.Matters.{Placed}
use Rattle.jhistory.specs.HistoryText.{Selection}
use Rattle.jhistory.specs.NodeWords.{node_word}
use Rattle.jhistory.specs.declared.word.NodeWord.{NodeWord}

-- the words of nodes, where these numbers are reached
abbrev pub words_of_rows : (ℕ → Bool) → List Placed → List NodeWord
words_of_rows reached ns = map (node_word ns reached) ns

-- the nodes of all objects, from a time on or of any
abbrev pub all_since : Option ℕ → Selection
all_since first =
    record { subjects = None; period = record { since = first; until = None } }
