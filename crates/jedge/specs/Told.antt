-- What a command found: how much of what it looks for, and what is noted of it on standard error.
use Rattle.std.specs.Prelude.{◌==◌, ℕ, List, [], ◌++◌, Option, Some, None, option_map, unwrap_or, if◌then◌else◌}
use Rattle.jhint.specs.Hints.{hint_lines}
use Rattle.jinfo.specs.Containers.{container_line}
use Rattle.jreport.specs.ExtractionNotes.{extraction_notes_of, line_of_count}
use Rattle.jreport.specs.NamedNotes.{named_notes_of}
use Rattle.jreport.specs.NoNodes.{none_notes_of}
use Rattle.jreport.specs.Notes.{note_line_of}
use Rattle.jreserve.specs.Note.{reserve_line}
use Rattle.jedge.specs.declared.found.Found.{Found}
use Rattle.jedge.specs.declared.found.Note.{Note}
use Rattle.jedge.specs.declared.found.Note.TheVariants as note
use Rattle.jedge.specs.declared.found.ReadNotes.{ReadNotes}
use Rattle.jedge.specs.Missing.{bytes_missing_line}

pub record Told : Type 0 where
  pub counted : ℕ
  pub noted : Option (List ℕ)

-- the notes on an image that is shown: that it has so many findings, if there are any, and where no
-- node is found in it, how many the other byte order has
abbrev pub shown_notes : ℕ → Option ℕ → List ℕ
shown_notes findings None = line_of_count note_line_of findings
shown_notes findings (Some others) = none_notes_of findings others

-- the notes on an image that was read
abbrev pub read_note_text : ReadNotes → List ℕ
read_note_text of = shown_notes of.findings of.others ++ hint_lines of.hint

-- the text of a note
abbrev pub note_text : Note → List ℕ
note_text (note.Container container) = container_line container
note_text (note.Findings findings) = note_line_of findings
note_text (note.NoNodes findings others) = none_notes_of findings others
note_text (note.Extraction of) =
    extraction_notes_of of.findings of.lost_bits of.attributes ++ hint_lines of.hint
note_text (note.Both first second) =
    named_notes_of first.name.now first.findings second.name.now second.findings
note_text (note.Read of) = read_note_text of
note_text (note.Left of) = shown_notes of.findings of.others ++ reserve_line of.left of.reserve
note_text (note.Content of) =
    bytes_missing_line of.missing ++ unwrap_or (option_map read_note_text of.read) []

-- of two numbers of things found one that is not zero, if there is one
abbrev pub either : ℕ → ℕ → ℕ
either n m = if n == 0 then m else n

abbrev pub found_told : Found → Told
found_told found = record { counted = found.counted; noted = option_map note_text found.note }
