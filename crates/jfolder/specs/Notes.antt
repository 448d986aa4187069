-- What is told of what a listing leaves out.
use Rattle.std.specs.Prelude.{◌≡◌, ◌+◌, ◌%◌, ◌^◌, ℕ, List, ◌++◌, [], ◌⊎◌, length, codes, decimal, All, Option, Result, Ok, Err}
use Rattle.std.specs.List.{flat_map}
use Rattle.std.specs.Io.KnownBytes.{Appends}
use Rattle.flashbase.specs.Device.{PutsPart, next_count}
use Rattle.flashbase.specs.Sinks.{SinkChange}
use Rattle.jfolder.specs.Complete.{IsComplete, LeftOut}
use Rattle.jfolder.specs.Known.{Known}
use Rattle.jfolder.specs.Reasons.{IsRight, IsRootWhy}
use Rattle.jfolder.specs.SoFar.{IsBeginning}
use Rattle.jline.specs.Words.{word_of}
use Rattle.jfolder.specs.declared.fault.ReadFault.{ReadFault}
use Rattle.jfolder.specs.declared.fault.ReadFault.TheVariants as fault
use Rattle.jfolder.specs.declared.found.Options.{Options}
use Rattle.jfolder.specs.declared.reading.FolderTree.{FolderTree}
use Rattle.jfolder.specs.declared.reason.Reason.{Reason}
use Rattle.jfolder.specs.declared.reason.Reason.TheVariants as reason

unfoldable pub reason_text : Reason → List ℕ
reason_text reason.Refused = codes "the host refused it"
reason_text reason.NoText = codes "no text"
reason_text reason.Output = codes "the listing itself"
reason_text (reason.Unnamed count) = codes "names that are no text: "
reason_text reason.BadName = codes "a name that no file has"
reason_text reason.LongName = codes "a name of more than 254 bytes"
reason_text reason.Repeated = codes "a name that was told before"
reason_text reason.CharacterDevice = codes "character device"
reason_text reason.BlockDevice = codes "block device"
reason_text reason.UnknownKind = codes "a kind that is not known"
reason_text reason.Large = codes "more than 268435456 bytes"
reason_text reason.Owner = codes "an owner above 65535"
reason_text reason.Time = codes "a time before 1970 or after 2106"
reason_text reason.Target = codes "a target of no bytes, of more than 4095, or with a zero byte"
reason_text reason.NotDirectory = codes "no directory"
reason_text reason.Symlink = codes "a symlink, which is not followed"

-- how many names there are
abbrev pub count_text : Reason → List ℕ
count_text (reason.Unnamed count) = decimal count
count_text _ = []

unfoldable pub left_out_line : LeftOut → List ℕ
left_out_line left = codes "left out " ++ word_of left.0 ++ codes ": " ++ reason_text left.1
    ++ count_text left.1 ++ codes "\n"

-- the line of a folder that is not read at all
unfoldable pub not_listed_line : Reason → List ℕ
not_listed_line why = codes "not listed: " ++ reason_text why ++ codes "\n"

abbrev pub left_out_text : List LeftOut → List ℕ
left_out_text lefts = flat_map left_out_line lefts

-- A part of a reading tells of some paths that are left out, and counts them modulo 2^64. Where the
-- sink failed, a beginning of the lines went out. It finds no fault with the folder itself. `fits`
-- says of the answer which paths these are, and `begins` which they are at a fault.
abbrev pub TellsMore : {X : Type 0} → (X → List LeftOut → Type 0) → (List LeftOut → Type 0)
    → SinkChange → ℕ → ℕ → Result X ReadFault → Type 0
TellsMore fits begins notes count total (Ok x) =
    (lefts : List LeftOut) × Appends notes.old notes.new (left_out_text lefts)
    × (notes.now ≡ notes.before)
    × (total ≡ (count + length lefts) % 2 ^ 64) × fits x lefts
TellsMore fits begins notes count total (Err fault.Notes) =
    (lefts : List LeftOut) × PutsPart notes.old notes.new (left_out_text lefts)
    × (notes.now ≡ next_count notes.before) × begins lefts
TellsMore fits begins notes count total (Err fault.OutOfMemory) =
    (lefts : List LeftOut) × Appends notes.old notes.new (left_out_text lefts)
    × (notes.now ≡ notes.before) × begins lefts
TellsMore fits begins notes count total (Err (fault.Folder why)) = ⊥

-- The folder itself is not read, and a line tells why. Where the sink failed, a beginning of it
-- went out.
abbrev pub TellsWhy : Reason → SinkChange → ReadFault → Type 0
TellsWhy why notes (fault.Folder told) =
    (told ≡ why) × Appends notes.old notes.new (not_listed_line why) × (notes.now ≡ notes.before)
TellsWhy why notes fault.Notes =
    PutsPart notes.old notes.new (not_listed_line why) × (notes.now ≡ next_count notes.before)
TellsWhy why notes fault.OutOfMemory = ⊥

-- rule: Listings: The lines on paths that a listing leaves out, and on a folder that is not listed.
--   definitions: jfolder.Notes.Tells, jfolder.Notes.TellsWhy
--   code: jfolder::reading::read_folder
-- A reading tells of the paths that it leaves out, each for a reason that is right, and counts them
-- modulo 2^64; each path that the host tells of is read, or is one of them. Where the folder itself
-- is at fault it tells that alone. At another fault it told of those that were left out up to
-- there, and if the sink failed, the line that it was at went out in part.
abbrev pub Tells : Known → Options → SinkChange → Result FolderTree ReadFault → Type 0
Tells known options notes (Ok read) = (lefts : List LeftOut)
    × Appends notes.old notes.new (left_out_text lefts) × (notes.now ≡ notes.before)
    × (read.left_out ≡ length lefts % 2 ^ 64)
    × IsComplete known read.items.items lefts × All (IsRight known options read.items.items) lefts
Tells known options notes (Err (fault.Folder why)) =
    Appends notes.old notes.new (not_listed_line why) × (notes.now ≡ notes.before)
    × IsRootWhy known options why
Tells known options notes (Err fault.Notes) = (((lefts : List LeftOut)
    × PutsPart notes.old notes.new (left_out_text lefts) × IsBeginning known options lefts)
    ⊎ ((why : Reason) × PutsPart notes.old notes.new (not_listed_line why)
    × IsRootWhy known options why))
    × (notes.now ≡ next_count notes.before)
Tells known options notes (Err fault.OutOfMemory) = ((lefts : List LeftOut)
    × Appends notes.old notes.new (left_out_text lefts) × IsBeginning known options lefts)
    × (notes.now ≡ notes.before)
