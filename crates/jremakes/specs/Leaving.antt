-- What is told of what an image has that does not go out: damage and dirt, extended attributes, and
-- nodes that clash.
use Rattle.std.specs.Prelude.{◌==◌, ◌&&◌, ℕ, Bool, List, [], ◌∷◌, ◌++◌, codes, flat_map, if◌then◌else◌, length, Option, Some, None}
use Rattle.jclash.specs.declared.parting.LeftOut.{LeftOut}
use Rattle.jline.specs.Words.{hex}
use Rattle.jreport.specs.ExtractionNotes.{left_attributes_line_of, line_of_count}
use Rattle.jreport.specs.FoundIn.{found_count}
use Rattle.jreport.specs.Notes.{note_line_of}
use Rattle.jreport.specs.declared.findings.Found.{Found}
use Rattle.jedge.specs.Told.{Told, either}
use Rattle.jremakes.specs.declared.apart.ApartDone.{ApartDone}

-- ---- of each image that another one is made of

-- the note on so many findings, if there are any
abbrev pub findings_line : ℕ → List ℕ
findings_line n = if n == 0 then [] else note_line_of n

-- that on findings, and behind it that on extended attributes
abbrev pub remade_notes : Found → List ℕ
remade_notes found =
    findings_line found.noted ++ line_of_count left_attributes_line_of found.attributes

-- an image has neither
abbrev pub leaves_none : Found → Bool
leaves_none found = (found.noted == 0) && (found.attributes == 0)

abbrev pub remade_noted : Found → Option (List ℕ)
remade_noted found = if leaves_none found then None else Some (remade_notes found)

-- rule: What is printed: Extended attributes that are left out are noted, and found.
--   definitions: jremakes.Leaving.remade_told, jmakes.Notes.base_told,
--   jfolders.Extracting.extracted_told
--   code: jremakes::leaving::report_remade, jmakes::base_note::note_on,
--   jfolders::extracting::extracted
-- the findings of the image that was read are found, or else the extended attributes that it had
abbrev pub remade_told : Found → Told
remade_told found = record {
  counted = found_count found;
  noted = remade_noted found;
}

-- ---- of one whose nodes may clash

-- a node that is left out, by its address in the image that was read
abbrev pub clashing_line : LeftOut → List ℕ
clashing_line l =
    codes "left out " ++ hex 8 l.addr ++ codes ": clashes with " ++ hex 8 l.by ++ codes "\n"

abbrev pub clashing_lines : List LeftOut → List ℕ
clashing_lines ls = flat_map clashing_line ls

-- the lines of those nodes, and the notes behind them
abbrev pub left_out_noted : List LeftOut → Found → Option (List ℕ)
left_out_noted [] found = remade_noted found
left_out_noted (l ∷ ls) found = Some (clashing_lines (l ∷ ls) ++ remade_notes found)

-- nodes that are left out are found, or else what is found of any image
abbrev pub left_out_told : List LeftOut → Found → Told
left_out_told left found = record {
  counted = either (length left) (found_count found);
  noted = left_out_noted left found;
}

abbrev pub apart_told : ApartDone → Told
apart_told done = left_out_told done.left.items done.found
