-- The files that the lines of a listing name: each is measured, and then read, once.
use Rattle.std.specs.Prelude.{◌≡◌, ◌++◌, ◌<◌, ◌≤◌, ◌+◌, ◌||◌, ℕ, Bool, true, false, List, [], ◌∷◌, Some, None, is_some, bytes_eq, filter_map, if◌then◌else◌, sum_by, Result, Ok, Err}
use Rattle.flashbase.specs.declared.source.LoadFault.TheVariants as load
use Rattle.jscan.specs.Image.{greatest_image}
use Rattle.jlisting.specs.Listing.{file_of}
use Rattle.jlisting.specs.declared.line.Line.{Line}
use Rattle.jbuild.specs.HostFiles.{read_of}
use Rattle.jbuild.specs.declared.host_files.HostFiles.{HostFiles}
use Rattle.jreport.specs.declared.faults.ProgramFault.TheVariants as program
use Rattle.jedge.specs.Acts.{Act, Then, answers, opens, reads_whole}
use Rattle.jedge.specs.Calls.{Did, Measure}
use Rattle.jedge.specs.declared.fault.Fault.{Fault}
use Rattle.jedge.specs.declared.fault.Fault.TheVariants as fault

-- the names of the files, in the order of the lines
abbrev pub files_named : List Line → List (List ℕ)
files_named lines = filter_map (λ line. file_of line.action) lines

-- an act for each name, one after the other, on what the one before it answered
abbrev pub each : {S : Type 0} → (List ℕ → S → Act S) → List (List ℕ) → S → Act S
each one [] s = answers (λ result. result ≡ Ok s)
each one (name ∷ names) s = Then (one name s) (each one names)

-- ---- how long they are

-- how long the file of a name is, as the host says
abbrev pub measures : List ℕ → Act ℕ
measures name events result = (n : ℕ) × (result ≡ Ok n) × (events ≡ Did (Measure name n) ∷ [])

-- a file, and how long it is
pub record Measured : Type 0 where
  pub name : List ℕ
  pub bytes : ℕ

abbrev pub was_measured : List ℕ → List Measured → Bool
was_measured name [] = false
was_measured name (file ∷ files) = bytes_eq file.name name || was_measured name files

-- how long they are together
abbrev pub total : List Measured → ℕ
total files = sum_by (λ file. file.bytes) files

-- One more is counted, if they are then together no longer than the greatest image. There may be no
-- memory for its name.
abbrev pub CountsMeasured : List Measured → Measured → Result (List Measured) Fault → Type 0
CountsMeasured files file (Ok all) =
    (all ≡ files ++ file ∷ []) × (total files + file.bytes ≤ greatest_image)
CountsMeasured files file (Err (fault.File of)) = ⊥
CountsMeasured files file (Err (fault.NotRead of)) = ⊥
CountsMeasured files file (Err (fault.NoNodes of others)) = ⊥
CountsMeasured files file (Err (fault.NoSpace of)) = ⊥
CountsMeasured files file (Err (fault.Findings of count)) = ⊥
CountsMeasured files file (Err (fault.Refused why)) =
    (why ≡ program.Load load.TooLarge) × (greatest_image < total files + file.bytes)
CountsMeasured files file (Err fault.Output) = ⊥
CountsMeasured files file (Err fault.OutOfMemory) = total files + file.bytes ≤ greatest_image

-- the file of a name is measured, and counted with those that were measured before, if it is not
-- among them
abbrev pub measures_if : Bool → List ℕ → List Measured → Act (List Measured)
measures_if true name files = answers (λ result. result ≡ Ok files)
measures_if false name files = Then (measures name) (λ n.
    answers (CountsMeasured files (record { name = name; bytes = n })))

abbrev pub measures_one : List ℕ → List Measured → Act (List Measured)
measures_one name files = measures_if (was_measured name files) name files

-- ---- their bytes

-- A file of these bytes is kept, and each other one as it was. There may be no memory for its name.
abbrev pub KeepsFile : List ℕ → List ℕ → HostFiles → Result HostFiles Fault → Type 0
KeepsFile name bytes files (Ok kept) = (other : List ℕ)
    → read_of kept other ≡ (if bytes_eq name other then Some bytes else read_of files other)
KeepsFile name bytes files (Err (fault.File of)) = ⊥
KeepsFile name bytes files (Err (fault.NotRead of)) = ⊥
KeepsFile name bytes files (Err (fault.NoNodes of others)) = ⊥
KeepsFile name bytes files (Err (fault.NoSpace of)) = ⊥
KeepsFile name bytes files (Err (fault.Findings of count)) = ⊥
KeepsFile name bytes files (Err (fault.Refused why)) = why ≡ program.Load load.OutOfMemory
KeepsFile name bytes files (Err fault.Output) = ⊥
KeepsFile name bytes files (Err fault.OutOfMemory) = ⊥

-- the file of a name, which is open, is read to its end, and kept with others
abbrev pub reads_with : HostFiles → List ℕ → Act HostFiles
reads_with files name = Then (reads_whole name) (λ bytes. answers (KeepsFile name bytes files))

-- the file of a name is read, if it is not among those that were read before
abbrev pub loads_if : Bool → List ℕ → HostFiles → Act HostFiles
loads_if true name files = answers (λ result. result ≡ Ok files)
loads_if false name files = Then (opens name) (reads_with files)

abbrev pub loads_one : List ℕ → HostFiles → Act HostFiles
loads_one name files = loads_if (is_some (read_of files name)) name files

-- ---- all

-- The files that lines name are measured, and then they are read, but those that were read before.
abbrev pub loads_named : List Line → HostFiles → Act HostFiles
loads_named lines files =
    Then (each measures_one (files_named lines) []) (λ _. each loads_one (files_named lines) files)

-- no file was read
abbrev pub NoneRead : Result HostFiles Fault → Type 0
NoneRead result =
    (files : HostFiles) × (result ≡ Ok files) × ((name : List ℕ) → read_of files name ≡ None)

-- the same where no file was read before
abbrev pub loads_listed : List Line → Act HostFiles
loads_listed lines = Then (answers NoneRead) (loads_named lines)
