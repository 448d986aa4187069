-- What an extraction goes on with, a part of an image's tree; and what it comes to.
use Rattle.std.specs.Prelude.{◌≡◌, ◌⊎◌, ◌==◌, ◌&&◌, ◌++◌, ℕ, Bool, true, false, IsTrue, IsSome, List, if◌then◌else◌, Option, Some, None, Result, Ok, Err}
use Rattle.jmount.specs.Find.{find}
use Rattle.jmount.specs.Mount.{Mount}
use Rattle.jmount.specs.Tree.{State}
use Rattle.jmount.specs.declared.fault.FindFault.{FindFault}
use Rattle.jextract.specs.Parts.{IsPartAsked}
use Rattle.jextract.specs.PartsOf.{part_of}
use Rattle.jextract.specs.declared.parts.Part.{Part}
use Rattle.jextract.specs.declared.totals.Totals.{Totals}
use Rattle.jhint.specs.Hints.{hint_lines}
use Rattle.jhint.specs.declared.hint.Hint.{Hint}
use Rattle.jreport.specs.ExtractionNotes.{attribute_count, extraction_notes_of}
use Rattle.jreport.specs.FoundIn.{found_count}
use Rattle.jreport.specs.Notes.{noted as findings}
use Rattle.jreport.specs.declared.faults.ProgramFault.TheVariants as program
use Rattle.jreport.specs.declared.findings.Found.{Found}
use Rattle.jedge.specs.Told.{Told, either}
use Rattle.jedge.specs.declared.fault.Fault.{Fault}
use Rattle.jedge.specs.declared.fault.Fault.TheVariants as fault

-- ---- the part of a tree

-- a path that names nothing; or there is no memory for the way to a part
abbrev pub NamesNoPart : State → Option (List ℕ) → Fault → Type 0
NamesNoPart s part f = ((path : List ℕ) × (why : FindFault) × (part ≡ Some path)
    × (f ≡ fault.Refused (program.Path why)) × (find s path ≡ Err why))
    ⊎ (IsSome part × (f ≡ fault.OutOfMemory))

-- the part of a tree that is asked for, or there is none
abbrev pub HasPart : State → Option (List ℕ) → Result State Fault → Type 0
HasPart s part (Ok of) = IsPartAsked s part of
HasPart s part (Err f) = NamesNoPart s part f

-- a part as the program has it
abbrev pub state_of_part : State → Option Part → State
state_of_part s None = s
state_of_part s (Some part) = part_of part s

-- ---- what it comes to

-- what was found in a mounted image
abbrev pub found_mounted : Mount → Found
found_mounted m = record { noted = findings m; attributes = attribute_count m }

-- the notes, if there are any, with what the image shows, if it was read with other options
abbrev pub extraction_noted : Option Hint → Found → Totals → Option (List ℕ)
extraction_noted hint found totals =
    if (found.noted == 0) && (totals.lost_bits == 0) && (found.attributes == 0) then None
    else Some (extraction_notes_of found.noted totals.lost_bits found.attributes ++ hint_lines hint)

-- objects that were left out are found, or else the findings of the image, or else its extended
-- attributes
abbrev pub extracted_told : Option Hint → Found → Totals → Told
extracted_told hint found totals = record {
  counted = either totals.left_out (found_count found);
  noted = extraction_noted hint found totals;
}
