-- Files that are counted as they are measured, each once.
use Rattle.std.specs.Prelude.{◌≡◌, ◌+◌, ℕ, List, [], Option, is_some, Result, Ok, Err}
use Rattle.jscan.specs.Image.{greatest_image}
use Rattle.jedge.specs.Acts.{Act, DoesFrom}
use Rattle.jedge.specs.Calls.{Event}
use Rattle.jedge.specs.declared.fault.Fault.{Fault}
use Rattle.jlisting.specs.declared.line.Line.{Line}
use Rattle.jreads.specs.Named.{Measured, each, files_named, was_measured, measures_one, total}

-- those files are seen, and the others may have so many bytes
pub record IsCountOf (seen : List ℕ → Option (List ℕ)) (left : ℕ) (files : List Measured) : Type 0
  where
    pub known : (name : List ℕ) → is_some (seen name) ≡ was_measured name files
    pub room : left + total files ≡ greatest_image

-- the act answers files that are then counted, or its fault
abbrev pub CountsTo : Option (List Event) → Option (List Event) → Act (List Measured)
    → (List ℕ → Option (List ℕ)) → ℕ → Result Unit Fault → Type 0
CountsTo old new act seen left (Ok _) =
    (files : List Measured) × DoesFrom old new act (Ok files) × IsCountOf seen left files
CountsTo old new act seen left (Err f) = DoesFrom old new act (Err f)

-- the files that lines name are measured, each once
abbrev pub MeasuresAll : Option (List Event) → Option (List Event) → List Line → Result Unit Fault
    → Type 0
MeasuresAll old new lines (Ok _) =
    (files : List Measured) × DoesFrom old new (each measures_one (files_named lines) []) (Ok files)
MeasuresAll old new lines (Err f) =
    DoesFrom old new (each measures_one (files_named lines) []) (Err f)
