-- Operations of a listing that are to be done to an image, on a flash.
use Rattle.std.specs.Prelude.{◌≡◌, ◌⊎◌, ◌==◌, ℕ, Bool, true, List, [], length, map, take, All, slice_get, slice_index_or, is_some, IsTrue, IsFalse, IsOk, Option, Some, None, Ok, Err, if◌then◌else◌}
use Rattle.flashbase.specs.Sinks.{SinkChange}
use Rattle.jnode.specs.declared.order.Endian.{Endian}
use Rattle.jscan.specs.declared.page.Page.{Page}
use Rattle.jscan.specs.declared.page.Page.TheVariants.{P4096, P8192, P16384}
use Rattle.jmount.specs.Mount.{Mount}
use Rattle.jmount.specs.Mounts.{Answers}
use Rattle.jmount.specs.declared.fault.MountFault.{MountFault}
use Rattle.jsteps.specs.declared.op.Op.{Op}
use Rattle.jlog.specs.Resuming.{resumes}
use Rattle.jlog.specs.declared.fault.SessionFault.{SessionFault}
use Rattle.jlog.specs.declared.start.Flash.{Flash}
use Rattle.jlisting.specs.Broken.{IsListingFault}
use Rattle.jlisting.specs.Listing.{file_of, lines_of}
use Rattle.jlisting.specs.declared.fault.ListingFault.{ListingFault}
use Rattle.jlisting.specs.declared.line.Line.{Line}
use Rattle.jbuild.specs.Operations.{ops_in}
use Rattle.jcalls.specs.Files.{bytes_named, file_in, RowsRefused}
use Rattle.jcalls.specs.Told.{told_at, told_number, mount_told, told_of_listing, session_told}
use Rattle.jcalls.specs.declared.given.FileRow.{FileRow}
use Rattle.jcalls.specs.declared.told.Told.{Told}
use Rattle.jcalls.specs.declared.working.Work.{Work}

-- ---- the flash

-- the page of so many bytes
abbrev pub page_with : ℕ → Option Page
page_with n =
    if n == 4096 then Some P4096
    else if n == 8192 then Some P8192
    else if n == 16384 then Some P16384
    else None

abbrev pub flash_by : ℕ → ℕ → Page → Flash
flash_by size blocks page =
    record { geometry = record { block = size }; blocks = blocks; page = page }

-- ---- the operations

-- the text of a listing, and the files that it may name
pub record Listed : Type 0 where
  pub text : List ℕ
  pub bytes : List ℕ
  pub rows : List FileRow

abbrev pub listed_with : List ℕ → List ℕ → List FileRow → Listed
listed_with text bytes rows = record { text = text; bytes = bytes; rows = rows }

abbrev pub listed_in : Work → Listed
listed_in work = listed_with work.listing.now work.files.bytes.now work.files.rows.now

-- the file that a line names is given, if it names one
abbrev pub is_file_given : Listed → Option (List ℕ) → Bool
is_file_given l None = true
is_file_given l (Some name) = is_some (file_in l.bytes l.rows name)

abbrev pub AreGiven : Listed → List Line → Type 0
AreGiven l lines = All (λ line. IsTrue (is_file_given l (file_of line.action))) lines

-- These are the operations of a listing's lines, with the bytes of the files that they name, and
-- the numbers of the lines.
pub record AreOpsOf (e : Endian) (l : Listed) (ops : List Op) (numbers : List ℕ) : Type 0 where
  pub lines : List Line
  pub read : lines_of l.text ≡ Ok lines
  pub given : AreGiven l lines
  pub ops_are : ops ≡ ops_in e (bytes_named l.bytes l.rows) lines
  pub numbers_are : numbers ≡ map (λ line. line.number) lines

-- ---- why they are not done

-- the page is none that files are cut by
abbrev pub PageRefused : ℕ → Told → Type 0
PageRefused n told = (page_with n ≡ None) × (told ≡ told_at 25 0 0)

-- a line means nothing, or memory runs out
abbrev pub TextRefused : List ℕ → Told → Type 0
TextRefused text told =
    (why : ListingFault) × IsListingFault text why × (told ≡ told_of_listing why)

-- the first one of these lines that names a file that is not given is told by its number
pub record FileMissing (l : Listed) (lines : List Line) (told : Told) : Type 0 where
  pub at : ℕ
  pub line : Line
  pub is : slice_get lines at ≡ Some line
  pub missing : IsFalse (is_file_given l (file_of line.action))
  pub before : AreGiven l (take at lines)
  pub says : told ≡ told_at 33 (told_number line.number) 0

abbrev pub FileRefused : Listed → Told → Type 0
FileRefused l told = (lines : List Line) × (lines_of l.text ≡ Ok lines) × FileMissing l lines told

-- the image does not mount
abbrev pub BaseRefused : Endian → ℕ → List ℕ → Told → Type 0
BaseRefused e size image told =
    (why : MountFault) × Answers e size image (Err why) × (told ≡ mount_told why)

-- it does, and is not gone on from
abbrev pub StartRefused : Endian → Flash → List ℕ → Told → Type 0
StartRefused e flash image told = (m : Mount) × (why : SessionFault)
    × Answers e flash.geometry.block image (Ok m) × (resumes e flash m ≡ Err why)
    × (told ≡ session_told 0 why)

-- it is gone on from
abbrev pub IsGoneOn : Endian → Flash → List ℕ → Type 0
IsGoneOn e flash image = (m : Mount) × Answers e flash.geometry.block image (Ok m)
    × IsOk (resumes e flash m)

-- what the listing and its files are refused for
abbrev pub OpsRefused : Listed → Told → Type 0
OpsRefused l told =
    RowsRefused (length l.bytes) l.rows told ⊎ TextRefused l.text told ⊎ FileRefused l told

-- and the image
abbrev pub ImageRefused : Endian → Flash → List ℕ → Told → Type 0
ImageRefused e flash image told =
    BaseRefused e flash.geometry.block image told ⊎ StartRefused e flash image told

-- the number of the line of an operation, by its index
abbrev pub line_number_at : List ℕ → ℕ → ℕ
line_number_at numbers i = slice_index_or numbers i 0

-- a sink that had nothing, and has these bytes now; it has failed so often
abbrev pub sink_with : List ℕ → ℕ → SinkChange
sink_with bytes failures = record { old = Some []; new = Some bytes; before = 0; now = failures }
