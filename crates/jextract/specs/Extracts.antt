-- What a call that extracts a file system does to the folder and to the notes.
use Rattle.std.specs.Prelude.{◌≡◌, ℕ, Bool, List, [], take, Result, Ok, Err}
use Rattle.std.specs.Io.KnownBytes.{Appends}
use Rattle.flashbase.specs.Device.{PutsPart, next_count}
use Rattle.flashbase.specs.Sinks.{SinkChange}
use Rattle.jmount.specs.Tree.{State}
use Rattle.jextract.specs.Folders.{FolderChange, refused_once, ReportsMore}
use Rattle.jextract.specs.Outcomes.{Outcome, root_alone, tasks_in, AreOutcomes, AreFirstOutcomes, all_made, all_lines, failures_after, totals_of}
use Rattle.jextract.specs.declared.fault.ExtractFault.{ExtractFault}
use Rattle.jextract.specs.declared.fault.ExtractFault.TheVariants.{Folder, Notes, NoSpace, OutOfMemory}
use Rattle.jextract.specs.declared.totals.Totals.{Totals}

-- what comes of a file system's tree in a folder: what is made of it, what is told, and how often
-- the folder refused
abbrev pub AreTreeOutcomes : State → Bool → List Outcome → Type 0
AreTreeOutcomes s owners outcomes = AreOutcomes s owners root_alone (tasks_in s [] 1) outcomes

-- the first of that
abbrev pub AreFirstTreeOutcomes : State → Bool → List Outcome → Type 0
AreFirstTreeOutcomes s owners outcomes =
    AreFirstOutcomes s owners root_alone (tasks_in s [] 1) outcomes

-- the whole tree was gone through
abbrev pub DoesAll : State → Bool → FolderChange → SinkChange → Totals → Type 0
DoesAll s owners folder notes n =
    (outcomes : List Outcome) × AreTreeOutcomes s owners outcomes
    × ReportsMore folder.old folder.new (all_made outcomes)
    × (folder.now ≡ failures_after folder.before outcomes)
    × Appends notes.old notes.new (all_lines outcomes) × (notes.now ≡ notes.before)
    × (n ≡ totals_of outcomes)

-- it was gone through up to a place; what was made stays, and a beginning of the lines was told
abbrev pub DoesPart : State → Bool → FolderChange → SinkChange → Type 0
DoesPart s owners folder notes =
    (outcomes : List Outcome) × AreFirstTreeOutcomes s owners outcomes
    × ((k : ℕ) × ReportsMore folder.old folder.new (take k (all_made outcomes)))
    × PutsPart notes.old notes.new (all_lines outcomes)

-- A call extracts a file system. Each fault comes only where what it blames failed once.
abbrev pub Extracts : State → Bool → FolderChange → SinkChange → Result Totals ExtractFault
    → Type 0
Extracts s owners folder notes (Ok n) = DoesAll s owners folder notes n
Extracts s owners folder notes (Err Folder) =
    ReportsMore folder.old folder.new [] × (folder.now ≡ refused_once folder.before)
    × Appends notes.old notes.new [] × (notes.now ≡ notes.before)
Extracts s owners folder notes (Err Notes) =
    DoesPart s owners folder notes × (notes.now ≡ next_count notes.before)
    × (folder.now.full ≡ folder.before.full)
Extracts s owners folder notes (Err NoSpace) =
    DoesPart s owners folder notes × (notes.now ≡ notes.before)
    × (folder.now.full ≡ next_count folder.before.full)
Extracts s owners folder notes (Err OutOfMemory) =
    DoesPart s owners folder notes × (notes.now ≡ notes.before)
    × (folder.now.full ≡ folder.before.full)
