-- What is printed of two trees, and what is found of them.
use Rattle.std.specs.Prelude.{◌≡◌, ◌==◌, ◌&&◌, ◌-◌, ◌^◌, ℕ, List, length, min, if◌then◌else◌, Option, Some, None, Result, Ok, Err}
use Rattle.std.specs.List.{flat_map}
use Rattle.jmount.specs.Mount.{Mount}
use Rattle.jdiff.specs.Differing.{AreDifferences}
use Rattle.jdiff.specs.declared.comparing.Comparing.{Comparing}
use Rattle.jreport.specs.NamedNotes.{named_notes_of}
use Rattle.jreport.specs.Notes.{noted as findings}
use Rattle.jreport.specs.declared.faults.ProgramFault.{ProgramFault}
use Rattle.jedge.specs.Acts.{Saying}
use Rattle.jedge.specs.Faults.{command_fault}
use Rattle.jedge.specs.Showing.{IsFrontOf}
use Rattle.jedge.specs.Told.{Told, either}
use Rattle.jedge.specs.declared.fault.Fault.{Fault}
use Rattle.jedge.specs.declared.fault.Fault.TheVariants as fault

-- the notes on the findings of the images of two names, if there are any
abbrev pub both_noted : List ℕ → ℕ → List ℕ → ℕ → Option (List ℕ)
both_noted first n second m =
    if (n == 0) && (m == 0) then None else Some (named_notes_of first n second m)

-- lines are found, or else the findings of an image
abbrev pub compared : List ℕ → List ℕ → Mount → Mount → ℕ → Told
compared first second left right lines = record {
  counted = either lines (either (findings left) (findings right));
  noted = both_noted first (findings left) second (findings right);
}

-- by what was put of them
abbrev pub lines_compared : (ℕ → Told) → Result ℕ ProgramFault → Result Told Fault
lines_compared told (Ok lines) = Ok (told lines)
lines_compared told (Err why) = Err (command_fault why)

-- a beginning of the lines on two trees
abbrev pub IsPartOfDifferences : Comparing → Mount → Mount → List ℕ → Type 0
IsPartOfDifferences how left right text = (lines : List (List ℕ))
    × AreDifferences how left.state right.state lines
    × IsFrontOf (flat_map (λ line. line) lines) text

-- The lines on two trees, and by their number, or the greatest u64, what is told; or a beginning of
-- them, where the output fails or memory runs out.
abbrev pub Compares : Comparing → Mount → Mount → (ℕ → Told) → Saying Told
Compares how left right answer text (Ok told) = (lines : List (List ℕ))
    × AreDifferences how left.state right.state lines × (text ≡ flat_map (λ line. line) lines)
    × (told ≡ answer (min (length lines) (2 ^ 64 - 1)))
Compares how left right answer text (Err (fault.File file)) = ⊥
Compares how left right answer text (Err (fault.NotRead file)) = ⊥
Compares how left right answer text (Err (fault.NoNodes of others)) = ⊥
Compares how left right answer text (Err (fault.NoSpace folder)) = ⊥
Compares how left right answer text (Err (fault.Findings of n)) = ⊥
Compares how left right answer text (Err (fault.Refused why)) = ⊥
Compares how left right answer text (Err fault.Output) = IsPartOfDifferences how left right text
Compares how left right answer text (Err fault.OutOfMemory) =
    IsPartOfDifferences how left right text
