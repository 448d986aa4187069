-- What is true of the acts on folders.
use Rattle.std.specs.Prelude.{◌≡◌, ◌⊎◌, ℕ, Bool, List, Err, string_bytes}
use Rattle.jextract.specs.Folders.{Made}
use Rattle.jfolder.specs.declared.found.Options.{Options}
use Rattle.jreport.specs.declared.reason.Reason.{Reason}
use Rattle.jedge.specs.Acts.{Act}
use Rattle.jedge.specs.Calls.{Call, Event, Did, Failed, Stream, Print, Open, Fill, LookThrough}
use Rattle.jedge.specs.Commands.{reported}
use Rattle.jedge.specs.Laws.{BlamesEvent, Happened, JudgesFirst, MakesNothing}
use Rattle.jedge.specs.declared.fault.Fault.{Fault}
use Rattle.jedge.specs.declared.fault.Fault.TheVariants as fault
use Rattle.jcommand.specs.declared.parsed.Extraction.{Extraction}
use Rattle.jfolders.specs.Commands.{extract_act, listing_act}
use Rattle.jfolders.specs.Filling.{the_folder}
use Rattle.jfolders.specs.Keeping.{reads_folder}

-- ---- a folder that is read stays as it is

-- neither `listing` nor the reading of a folder for `pack` makes anything
abbrev pub ReadingMakesNothing : Type 0
ReadingMakesNothing = (options : Options) (quiet : Bool) (name : List ℕ)
    → MakesNothing (reported (listing_act options quiet name))
    × MakesNothing (reads_folder name quiet options)

-- ---- all that is refused is refused before anything is made

-- nothing is made in a folder
abbrev pub NoneFilled : List Event → Type 0
NoneFilled events = (name : List ℕ) (made : Made) → Happened (Did (Fill name made)) events → ⊥

-- An extraction that ends by this fault made nothing. Only if it has no more room or memory, or
-- standard error fails, something may be there.
abbrev pub IsFilledLast : Fault → List Event → Type 0
IsFilledLast (fault.File file) events = NoneFilled events
IsFilledLast (fault.NotRead file) events = NoneFilled events
IsFilledLast (fault.NoNodes name others) events = NoneFilled events
IsFilledLast (fault.NoSpace folder) events = Unit {0}
IsFilledLast (fault.Findings name findings) events = NoneFilled events
IsFilledLast (fault.Refused why) events = NoneFilled events
IsFilledLast fault.Output events = Unit {0}
IsFilledLast fault.OutOfMemory events = Unit {0}

abbrev pub EndsUnfilled : {A : Type 0} → Act A → Type 0
EndsUnfilled act = (events : List Event) (f : Fault) → act events (Err f) → IsFilledLast f events

abbrev pub FilledLast : Type 0
FilledLast = (x : Extraction (List ℕ)) → EndsUnfilled (extract_act x)

-- ---- a fault is an event

-- a call on the file or the folder of a name: it is opened, it is made, or it is looked through
abbrev pub IsOn : List ℕ → Call → Type 0
IsOn name call = (call ≡ Open name) ⊎ ((call ≡ Fill name the_folder) ⊎ (call ≡ LookThrough name))

-- A fault that names a file or a folder comes with a call on it that failed, for the same reason;
-- that of the output with a print that failed, on standard output or, for what is left out, on
-- standard error.
abbrev pub BlamesCall : Fault → List Event → Type 0
BlamesCall (fault.File file) events =
    (call : Call) × IsOn (string_bytes file.name) call × Happened (Failed call file.reason) events
BlamesCall (fault.NotRead file) events = BlamesEvent (fault.NotRead file) events
BlamesCall (fault.NoNodes name others) events = BlamesEvent (fault.NoNodes name others) events
BlamesCall (fault.NoSpace folder) events = BlamesEvent (fault.NoSpace folder) events
BlamesCall (fault.Findings name findings) events =
    BlamesEvent (fault.Findings name findings) events
BlamesCall (fault.Refused why) events = BlamesEvent (fault.Refused why) events
BlamesCall fault.Output events = (stream : Stream) × (rest : List ℕ) × (reason : Reason)
    × Happened (Failed (Print stream rest) reason) events
BlamesCall fault.OutOfMemory events = Unit {0}

abbrev pub BlamesOnlyFailed : {A : Type 0} → Act A → Type 0
BlamesOnlyFailed act = (events : List Event) (f : Fault) → act events (Err f) → BlamesCall f events

abbrev pub FoldersBlamed : Type 0
FoldersBlamed = ((options : Options) (quiet : Bool) (name : List ℕ)
    → BlamesOnlyFailed (listing_act options quiet name)
    × BlamesOnlyFailed (reads_folder name quiet options))
    × ((x : Extraction (List ℕ)) → BlamesOnlyFailed (extract_act x))

-- ---- all that is refused is refused before anything is printed

abbrev pub ListingJudgedFirst : Type 0
ListingJudgedFirst = (options : Options) (quiet : Bool) (name : List ℕ)
    → JudgesFirst (listing_act options quiet name)
