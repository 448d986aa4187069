-- What `check --scan` does: read it as the manual page. The file is read block by block, and the
-- lines of each block are printed before the next one is read. All that is read of it is one event,
-- and so is all that is printed.
use Rattle.std.specs.Prelude.{◌≡◌, ◌≢◌, ◌++◌, ◌<◌, ◌≤◌, ◌+◌, ◌-◌, ◌*◌, ℕ, List, [], ◌∷◌, length, Option, Some, None, IfSome, Result, Ok, Err, string_bytes}
use Rattle.flashbase.specs.declared.source.LoadFault.TheVariants as load
use Rattle.jnode.specs.declared.order.Endian.{Endian}
use Rattle.jscan.specs.Counts.{is_found}
use Rattle.jscan.specs.Image.{block_count, greatest_image}
use Rattle.jcommand.specs.declared.parsed.Options.{Options}
use Rattle.jreport.specs.Report.{count_in_image, lines_below, scan_text}
use Rattle.jreport.specs.declared.faults.ProgramFault.{ProgramFault}
use Rattle.jreport.specs.declared.faults.ProgramFault.TheVariants as program
use Rattle.jedge.specs.Acts.{Act, Saying, Then, answers, opens, prints_put}
use Rattle.jedge.specs.Calls.{Event, Did, Failed, Read, ReadPart}
use Rattle.jedge.specs.Faults.{command_fault}
use Rattle.jedge.specs.Showing.{IsFrontOf}
use Rattle.jedge.specs.Told.{Told}
use Rattle.jedge.specs.Views.{HasBlockSize}
use Rattle.jedge.specs.declared.fault.FailedFile.{FailedFile}
use Rattle.jedge.specs.declared.fault.Fault.{Fault}
use Rattle.jedge.specs.declared.fault.Fault.TheVariants as fault
use Rattle.jreads.specs.CutTexts.{HasMemory}

-- ---- a file that is read as a stream

-- these bytes of it were read and those are left, where it is told what happens and what is left
abbrev pub IsReadUpTo : Option (List Event) → Option (List ℕ) → Option (List ℕ) → List ℕ → List ℕ
    → Type 0
IsReadUpTo history whole rest read left = IfSome history (λ _.
    (whole ≡ Some (read ++ left)) × IfSome rest (λ bytes. bytes ≡ left))

-- all bytes of a file were read, or a beginning of them
abbrev pub read_up_to : List ℕ → List ℕ → List ℕ → List Event
read_up_to name read [] = Did (Read name read) ∷ []
read_up_to name read (b ∷ left) = Did (ReadPart name read) ∷ []

-- The file of a name, of which these bytes were read and those are left, is closed. It fails where
-- it failed while it was read.
abbrev pub closes_stream : List ℕ → ℕ → List ℕ → List ℕ → Act Unit
closes_stream name failures read left events (Ok _) =
    (failures ≡ 0) × (events ≡ read_up_to name read left)
closes_stream name failures read left events (Err (fault.File file)) = ⊥
closes_stream name failures read left events (Err (fault.NotRead file)) = (failures ≢ 0)
    × (string_bytes file.name ≡ name) × (events ≡ Failed (ReadPart name read) file.reason ∷ [])
closes_stream name failures read left events (Err (fault.NoNodes of others)) = ⊥
closes_stream name failures read left events (Err (fault.NoSpace folder)) = ⊥
closes_stream name failures read left events (Err (fault.Findings of findings)) = ⊥
closes_stream name failures read left events (Err (fault.Refused why)) = ⊥
closes_stream name failures read left events (Err fault.Output) = ⊥
closes_stream name failures read left events (Err fault.OutOfMemory) = ⊥

-- how far a file was read: not at all, since there is no memory for a block; up to a place where
-- these bytes were read and those are left; or up to where it failed
pub data Progress : Type 0 where
  NotBegun : Progress
  UpTo : List ℕ → List ℕ → Progress
  UpToFailure : List ℕ → FailedFile → Progress

abbrev pub GetsTo : List ℕ → Progress → List Event → Type 0
GetsTo name NotBegun events = events ≡ []
GetsTo name (UpTo read left) events = events ≡ read_up_to name read left
GetsTo name (UpToFailure read file) events = (string_bytes file.name ≡ name)
    × (events ≡ Failed (ReadPart name read) file.reason ∷ [])

-- the file of a name, which is open, is read, as far as one gets
abbrev pub reads_stream : List ℕ → Act Progress
reads_stream name events result =
    (progress : Progress) × (result ≡ Ok progress) × GetsTo name progress events

-- ---- what is printed of it

-- so many findings
abbrev pub found_scanned : ℕ → Told
found_scanned findings = record { counted = findings; noted = None }

-- The file failed: the lines of the blocks that were read are printed, and less than a block is
-- read past them.
abbrev pub AreLinesBefore : Endian → ℕ → List ℕ → List ℕ → Type 0
AreLinesBefore e size read text = (n : ℕ) × (n ≤ block_count size read)
    × (length read < (n + 1) * size) × (text ≡ lines_below e size read n)

-- The output failed: a beginning of the report is printed, with the lines of all blocks that were
-- read but the last.
abbrev pub IsCutReport : Endian → ℕ → List ℕ → List ℕ → List ℕ → Type 0
IsCutReport e size read left text = IsFrontOf (scan_text e size (read ++ left)) text
    × ((more : List ℕ) × (text ≡ lines_below e size read (block_count size read - 1) ++ more))

-- The report of a file that was read to its end, and how many findings it has; or the lines of
-- whole blocks, where the file is longer than the greatest image.
abbrev pub ReportsUpTo : Endian → ℕ → List ℕ → List ℕ → Saying Told
ReportsUpTo e size read left text (Ok told) = (left ≡ []) × (text ≡ scan_text e size read)
    × (told ≡ found_scanned (count_in_image is_found e size read))
ReportsUpTo e size read left text (Err (fault.File file)) = ⊥
ReportsUpTo e size read left text (Err (fault.NotRead file)) = ⊥
ReportsUpTo e size read left text (Err (fault.NoNodes of others)) = ⊥
ReportsUpTo e size read left text (Err (fault.NoSpace folder)) = ⊥
ReportsUpTo e size read left text (Err (fault.Findings of findings)) = ⊥
ReportsUpTo e size read left text (Err (fault.Refused why)) = (why ≡ program.Load load.TooLarge)
    × (greatest_image < length read)
    × ((n : ℕ) × (n * size ≤ length read) × (text ≡ lines_below e size read n))
ReportsUpTo e size read left text (Err fault.Output) = IsCutReport e size read left text
ReportsUpTo e size read left text (Err fault.OutOfMemory) = ⊥

-- what is printed of a file that was read so far, and what comes of it
abbrev pub ReportsScan : Endian → ℕ → Progress → Saying Told
ReportsScan e size NotBegun text result =
    (text ≡ []) × (result ≡ Err (fault.Refused (program.Load load.OutOfMemory)))
ReportsScan e size (UpTo read left) text result = ReportsUpTo e size read left text result
ReportsScan e size (UpToFailure read file) text result =
    AreLinesBefore e size read text × (result ≡ Err (fault.NotRead file))

-- what it comes to, by what was put and how the file was closed
abbrev pub scan_found : Result ℕ ProgramFault → Result Told Fault
scan_found (Ok findings) = Ok (found_scanned findings)
scan_found (Err why) = Err (command_fault why)

abbrev pub scan_closed : Result ℕ ProgramFault → Result Unit Fault → Result Told Fault
scan_closed put (Ok _) = scan_found put
scan_closed put (Err f) = Err f

-- ---- `check --scan`

-- there is memory for the output; the file of a name, which is open, is read, and the report of
-- what was read is printed
abbrev pub scans_open : Endian → ℕ → List ℕ → Act Told
scans_open e size name =
    Then (answers (HasMemory {A = Unit})) (λ _.
    Then (reads_stream name) (λ progress.
    prints_put (ReportsScan e size progress)))

-- The file is opened, and then the size of a block is judged; the file is read as a stream, and its
-- report is printed.
abbrev pub scans : Endian → ℕ → List ℕ → Act Told
scans e size name =
    Then (opens name) (λ opened.
    Then (answers (HasBlockSize size)) (λ _.
    scans_open e size opened))

abbrev pub scan_act : Options → List ℕ → Act Told
scan_act options = scans options.endian options.geometry.block
