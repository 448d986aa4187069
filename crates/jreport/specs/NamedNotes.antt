-- What a reader of several images is told of the findings of each.
use Rattle.std.specs.Prelude.{ℕ, List, ◌++◌, codes, decimal}
use Rattle.jline.specs.Words.{in_line}
use Rattle.jreport.specs.ExtractionNotes.{line_of_count}
use Rattle.jreport.specs.Notes.{findings_text}

-- what is said of n of them behind the name of their image
unfoldable pub named_findings : ℕ → List ℕ
named_findings n = codes ": " ++ (decimal n ++ findings_text n)

-- the line on n findings of the image of this name
abbrev pub named_note_of : List ℕ → ℕ → List ℕ
named_note_of name n = codes "jffs2_image: note: " ++ (in_line name ++ named_findings n)

-- the lines on so many of two images, where there are any
unfoldable pub named_notes_of : List ℕ → ℕ → List ℕ → ℕ → List ℕ
named_notes_of first n second m =
    line_of_count (named_note_of first) n ++ line_of_count (named_note_of second) m
