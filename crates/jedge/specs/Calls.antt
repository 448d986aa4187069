-- The calls of the host, as they are made.
use Rattle.std.specs.Prelude.{ℕ, Bool, List, [], ◌∷◌, Option}
use Rattle.jextract.specs.Folders.{Made}
use Rattle.jfolder.specs.Known.{Known}
use Rattle.jreport.specs.declared.reason.Reason.{Reason}
use Rattle.jjson.specs.declared.lines.Lines.{Lines}
use Rattle.jspare.specs.declared.region.Region.{Region}

-- a stream that the program prints on: standard output, or standard error
pub data Stream : Type 0 where
  Answers : Stream
  Errors : Stream

-- how a file is made: only where none has its name, or in place of one; and the bits of its mode
pub record Creation : Type 0 where
  pub exclusive : Bool
  pub mode : ℕ

-- what the host has under a name: nothing, a regular file, or something else, such as a device
pub data Kind : Type 0 where
  Nothing : Kind
  Regular : Kind
  Special : Kind

-- what a name means: the name at the end of its symbolic links, and what is there
pub record Meaning : Type 0 where
  pub target : List ℕ
  pub kind : Kind

-- A call, on the file or the folder of a name, or on a stream. A name, and what is read, written or
-- printed, is a list of bytes.
pub data Call : Type 0 where
  -- how many bytes the host says that a file has: those of a regular file, and 0 of anything else
  Measure : List ℕ → ℕ → Call
  -- a file is opened, to be read; it is read to its end, or a beginning of it is
  Open : List ℕ → Call
  Read : List ℕ → List ℕ → Call
  ReadPart : List ℕ → List ℕ → Call
  -- From here on what is read of the files of these names is this part of each.
  ReadRegion : Region → List (List ℕ) → Call
  -- from here on what is printed on standard output goes out as JSON, an object for each line
  PrintJson : Lines → Call
  -- the host is asked what a name means, and whether two names mean one file
  Find : List ℕ → Meaning → Call
  Compare : List ℕ → List ℕ → Bool → Call
  -- a text is printed
  Print : Stream → List ℕ → Call
  -- a file is made; what is there is opened, to be written; it is written, and has all on the
  -- medium that was written
  Create : List ℕ → Creation → Call
  OpenToWrite : List ℕ → Call
  Write : List ℕ → List ℕ → Call
  Sync : List ℕ → Call
  SyncFolder : List ℕ → Call
  -- the first name becomes the second one
  Rename : List ℕ → List ℕ → Call
  Remove : List ℕ → Call
  Close : List ℕ → Call
  -- a folder is asked for, to be made and filled; quietly, or it is told how far that is
  FillFolder : List ℕ → Bool → Call
  -- this is made in the folder of a name
  Fill : List ℕ → Made → Call
  -- a folder is asked for, to be read, quietly or not; this is known of what the host tells there
  ReadFolder : List ℕ → Bool → Known → Call
  -- what lies in it is looked through
  LookThrough : List ℕ → Call
  -- the files that are found in it are read, and kept: of each name these bytes
  Keep : List ℕ → (List ℕ → Option (List ℕ)) → Call

-- what came of a call: it was done, or failed, for this reason of the host's
pub data Event : Type 0 where
  Did : Call → Event
  Failed : Call → Reason → Event

-- a whole text is printed by one call; an empty one by none
abbrev pub printed : Stream → List ℕ → List Event
printed stream [] = []
printed stream (b ∷ bytes) = Did (Print stream (b ∷ bytes)) ∷ []
