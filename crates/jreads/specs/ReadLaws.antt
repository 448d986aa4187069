-- What is true of the acts that read a listing and its files, or a file as a stream.
use Rattle.std.specs.Prelude.{◌≡◌, ◌⊎◌, ◌≤◌, ℕ, Contains, List, Option, Some, Ok}
use Rattle.flashbase.specs.declared.source.LoadFault.TheVariants as load
use Rattle.jlog.specs.declared.fault.SessionFault.{SessionFault}
use Rattle.jscan.specs.Image.{greatest_image}
use Rattle.jscan.specs.declared.page.Page.{Page}
use Rattle.jlisting.specs.declared.line.Line.{Line}
use Rattle.jbuild.specs.HostFiles.{read_of}
use Rattle.jbuild.specs.declared.host_files.HostFiles.{HostFiles}
use Rattle.jcommand.specs.declared.parsed.Options.{Options}
use Rattle.jreport.specs.declared.cause.Cause.{Cause}
use Rattle.jreport.specs.declared.faults.ProgramFault.TheVariants as program
use Rattle.jedge.specs.Calls.{Event, Did, Measure, Read}
use Rattle.jedge.specs.Commands.{reported}
use Rattle.jedge.specs.Laws.{BlamesFailed, Happened, JudgesFirstBut, MakesNothing}
use Rattle.jedge.specs.declared.fault.FailedFile.{FailedFile}
use Rattle.jedge.specs.declared.fault.Fault.{Fault}
use Rattle.jedge.specs.declared.fault.Fault.TheVariants as fault
use Rattle.jreads.specs.Cutting.{cuts_act}
use Rattle.jreads.specs.Named.{Measured, files_named, loads_named, total}
use Rattle.jreads.specs.Scanning.{scan_act}

-- ---- the files that a listing names

-- the file of a name is kept, with the bytes that were read of it, or that it had before
abbrev pub IsFileKept : HostFiles → HostFiles → List Event → List ℕ → Type 0
IsFileKept before files events name = (bytes : List ℕ) × (read_of files name ≡ Some bytes)
    × ((read_of before name ≡ Some bytes) ⊎ Happened (Did (Read name bytes)) events)

-- each file that lines name is kept
abbrev pub AreAllKept : Type 0
AreAllKept = (lines : List Line) (before files : HostFiles) (events : List Event)
    → loads_named lines before events (Ok files) → (name : List ℕ)
    → Contains (files_named lines) name → IsFileKept before files events name

-- a file of a name was measured, and this is how long it is
abbrev pub IsMeasuredIn : List Measured → List Event → List ℕ → Type 0
IsMeasuredIn all events name = (n : ℕ) × Contains all (record { name = name; bytes = n })
    × Happened (Did (Measure name n)) events

-- each of them was measured, and they are together no longer than the greatest image
abbrev pub AreAllMeasured : Type 0
AreAllMeasured = (lines : List Line) (before files : HostFiles) (events : List Event)
    → loads_named lines before events (Ok files)
    → (all : List Measured) × (total all ≤ greatest_image)
    × ((name : List ℕ) → Contains (files_named lines) name → IsMeasuredIn all events name)

-- ---- `cuts`

-- `cuts` makes no file, and changes none, whatever it answers
abbrev pub CutsReadOnly : Type 0
CutsReadOnly = (options : Options) (blocks : ℕ) (page : Page) (on : Option (List ℕ))
    (listing : List ℕ) → MakesNothing (reported (cuts_act options blocks page on listing))

-- a fault of it that names a file comes with that file's failed call, and that of the output with a
-- print that failed
abbrev pub CutsBlameFailed : Type 0
CutsBlameFailed = (options : Options) (blocks : ℕ) (page : Page) (on : Option (List ℕ))
    (listing : List ℕ) → BlamesFailed (cuts_act options blocks page on listing)

-- an operation of a line is refused, behind what is told of those before it
abbrev pub IsRefusedAtLine : Fault → Type 0
IsRefusedAtLine f = (why : SessionFault) × (line : ℕ) × (cause : Cause)
    × (f ≡ fault.Refused (program.Session why (Some line) cause))

-- all else is refused before anything is printed
abbrev pub CutsJudgedFirst : Type 0
CutsJudgedFirst = (options : Options) (blocks : ℕ) (page : Page) (on : Option (List ℕ))
    (listing : List ℕ)
    → JudgesFirstBut IsRefusedAtLine (cuts_act options blocks page on listing)

-- ---- `check --scan`

-- it makes no file, and changes none, whatever it answers
abbrev pub ScanReadsOnly : Type 0
ScanReadsOnly =
    (options : Options) (image : List ℕ) → MakesNothing (reported (scan_act options image))

-- a fault of it that names a file comes with that file's failed call, and that of the output with a
-- print that failed
abbrev pub ScanBlamesFailed : Type 0
ScanBlamesFailed = (options : Options) (image : List ℕ) → BlamesFailed (scan_act options image)

-- the file fails, or is longer than the greatest image, behind what is printed of it
abbrev pub IsOfStream : Fault → Type 0
IsOfStream f = ((file : FailedFile) × (f ≡ fault.NotRead file))
    ⊎ (f ≡ fault.Refused (program.Load load.TooLarge))

-- all else is refused before anything is printed
abbrev pub ScanJudgedFirst : Type 0
ScanJudgedFirst = (options : Options) (image : List ℕ)
    → JudgesFirstBut IsOfStream (scan_act options image)
