-- A file that a command makes: how it is opened, what goes out to it, and how it takes its name.
use Rattle.std.specs.Prelude.{◌≡◌, ◌≢◌, ◌⊎◌, ◌++◌, ◌==◌, ◌-◌, ◌%◌, ℕ, Bool, true, false, List, [], ◌∷◌, if◌then◌else◌, length, Option, Some, None, Result, Ok, Err, string_bytes}
use Rattle.flashbase.specs.Bytes.{erased}
use Rattle.jreport.specs.declared.reason.Reason.{Reason}
use Rattle.jreport.specs.declared.reason.Reason.TheVariants as because
use Rattle.jedge.specs.Acts.{Act, Then}
use Rattle.jedge.specs.Calls.{Call, Event, Did, Failed, Creation, Kind, Nothing, Regular, Special, Meaning, Compare, Create, Find, OpenToWrite, Remove, Rename, Sync, SyncFolder, Write}
use Rattle.jedge.specs.declared.fault.FailedFile.{FailedFile}
use Rattle.jedge.specs.declared.fault.Fault.{Fault}
use Rattle.jedge.specs.declared.fault.Fault.TheVariants as fault
use Rattle.jmakes.specs.declared.wanted.CloseFault.{CloseFault}
use Rattle.jmakes.specs.declared.wanted.CloseFault.TheVariants as close
use Rattle.jmakes.specs.declared.wanted.Filling.{Filling}
use Rattle.jmakes.specs.declared.wanted.Filling.TheVariants as filling
use Rattle.jmakes.specs.declared.wanted.Wanted.{Wanted}

-- ---- what is wanted

-- the file of a name; whether it takes that name only when all is written, and up to where it is
-- filled with erased flash, if it is
pub record WantedFile : Type 0 where
  pub name : List ℕ
  pub atomic : Bool
  pub filling : Option Filling

abbrev pub wanted_file : Wanted → WantedFile
wanted_file wanted = record {
  name = wanted.name.now;
  atomic = wanted.atomic;
  filling = wanted.filling;
}

-- how many erased bytes follow so many: up to a length, or up to the end of the last block that has
-- a byte
abbrev pub fill_length : Filling → ℕ → ℕ
fill_length (filling.Length whole) n = whole - n
fill_length (filling.Block size) n = if size == 0 then 0 else (size - n % size) % size

abbrev pub filled_to : Option Filling → List ℕ → List ℕ
filled_to None bytes = bytes
filled_to (Some to) bytes = bytes ++ erased (fill_length to (length bytes))

-- ---- a file is opened

-- where its bytes go: to the file of this name; or to a new one of the first name, which takes the
-- second one
pub data FilePlace : Type 0 where
  InPlace : List ℕ → FilePlace
  Beside : List ℕ → List ℕ → FilePlace

-- also in place of a file that is there
abbrev pub over : Creation
over = record { exclusive = false; mode = 0o666 }

-- Only where nothing has its name. For its owner alone where it will replace a file.
abbrev pub anew : Kind → Creation
anew Nothing = record { exclusive = true; mode = 0o666 }
anew Regular = record { exclusive = true; mode = 0o600 }
anew Special = record { exclusive = true; mode = 0o600 }

-- a call fails, which blames the file of the name that was given
abbrev pub IsCallRefused : List ℕ → Call → List Event → Fault → Type 0
IsCallRefused name call events f = (file : FailedFile) × (f ≡ fault.File file)
    × (string_bytes file.name ≡ name) × (events ≡ Failed call file.reason ∷ [])

-- The file of a name is made, or cut off. Memory may run out before that, or behind it.
abbrev pub opens_over : List ℕ → Act FilePlace
opens_over name events (Ok place) =
    (place ≡ InPlace name) × (events ≡ Did (Create name over) ∷ [])
opens_over name events (Err f) = IsCallRefused name (Create name over) events f
    ⊎ (f ≡ fault.OutOfMemory) × ((events ≡ []) ⊎ (events ≡ Did (Create name over) ∷ []))

-- names that other files have were tried
abbrev pub AreTaken : Kind → List Event → Type 0
AreTaken kind [] = Unit {0}
AreTaken kind (event ∷ events) = ((other : List ℕ)
    × (event ≡ Failed (Create other (anew kind)) because.Exists)) × AreTaken kind events

-- a file is removed, or that fails
abbrev pub IsRemoved : List ℕ → List Event → Type 0
IsRemoved name events = (events ≡ Did (Remove name) ∷ [])
    ⊎ ((reason : Reason) × (events ≡ Failed (Remove name) reason ∷ []))

-- memory runs out when nothing was made, or what was made is removed
abbrev pub IsUndone : Kind → List Event → Type 0
IsUndone kind events = (events ≡ []) ⊎ ((other : List ℕ) × (removed : List Event)
    × IsRemoved other removed × (events ≡ Did (Create other (anew kind)) ∷ removed))

-- a new file is made, under another name than that which it will take
abbrev pub MakesBeside : List ℕ → Kind → List ℕ → List Event → Result FilePlace Fault → Type 0
MakesBeside name kind target events (Ok place) = (other : List ℕ) × (other ≢ target)
    × (place ≡ Beside other target) × (events ≡ Did (Create other (anew kind)) ∷ [])
MakesBeside name kind target events (Err f) =
    ((other : List ℕ) × IsCallRefused name (Create other (anew kind)) events f)
    ⊎ (f ≡ fault.OutOfMemory) × IsUndone kind events

-- the same, at the first name that no other file has
pub record opens_anew (name : List ℕ) (kind : Kind) (target : List ℕ) (events : List Event)
    (result : Result FilePlace Fault) : Type 0 where
  pub tried : List Event
  pub last : List Event
  pub taken : AreTaken kind tried
  pub made : MakesBeside name kind target last result
  pub all : events ≡ tried ++ last

-- what is no regular file is written in its place
abbrev pub opens_special : List ℕ → List ℕ → Act FilePlace
opens_special name target events (Ok place) =
    (place ≡ InPlace target) × (events ≡ Did (OpenToWrite target) ∷ [])
opens_special name target events (Err f) = IsCallRefused name (OpenToWrite target) events f
    ⊎ (f ≡ fault.OutOfMemory) × ((events ≡ []) ⊎ (events ≡ Did (OpenToWrite target) ∷ []))

abbrev pub opens_by : List ℕ → List ℕ → Kind → Act FilePlace
opens_by name target Nothing = opens_anew name Nothing target
opens_by name target Regular = opens_anew name Regular target
opens_by name target Special = opens_special name target

abbrev pub opens_meant : List ℕ → Meaning → Act FilePlace
opens_meant name meaning = opens_by name meaning.target meaning.kind

-- what the host tells of a name; memory may run out
abbrev pub finds : List ℕ → Act Meaning
finds name events (Ok meaning) = events ≡ Did (Find name meaning) ∷ []
finds name events (Err f) = (f ≡ fault.OutOfMemory) × (events ≡ [])

-- a file that is wanted is opened
abbrev pub creates_by : Bool → List ℕ → Act FilePlace
creates_by true name = Then (finds name) (opens_meant name)
creates_by false name = opens_over name

abbrev pub creates : WantedFile → Act FilePlace
creates file = creates_by file.atomic file.name

-- ---- what goes out to it

-- a text is written by one call; an empty one by none
abbrev pub written_out : List ℕ → List ℕ → List Event
written_out name [] = []
written_out name (b ∷ bytes) = Did (Write name (b ∷ bytes)) ∷ []

-- a beginning of a text is written, and then that fails
pub record IsWrittenInPart (name text : List ℕ) (reason : Reason) (events : List Event) : Type 0
  where
    pub begun : List ℕ
    pub left : List ℕ
    pub rest : List ℕ
    pub of : text ≡ begun ++ left
    pub happened : events ≡ written_out name begun ++ Failed (Write name rest) reason ∷ []

-- ---- it ends

-- its name is on the medium, or that can't be told
abbrev pub IsFolderSynced : List ℕ → List Event → Type 0
IsFolderSynced name events = (events ≡ Did (SyncFolder name) ∷ [])
    ⊎ ((reason : Reason) × (events ≡ Failed (SyncFolder name) reason ∷ []))

-- what is written is on the medium, and the new file takes its name
pub record GetsName (other target : List ℕ) (events : List Event) : Type 0 where
  pub last : List Event
  pub synced : IsFolderSynced target last
  pub happened : events ≡ Did (Sync other) ∷ Did (Rename other target) ∷ last

-- or it does not, and is removed
pub record GetsNoName (other target : List ℕ) (reason : Reason) (events : List Event) : Type 0 where
  pub first : List Event
  pub last : List Event
  pub fails : (first ≡ Failed (Sync other) reason ∷ [])
      ⊎ (first ≡ Did (Sync other) ∷ Failed (Rename other target) reason ∷ [])
  pub removed : IsRemoved other last
  pub happened : events ≡ first ++ last

-- A file that took a text, and failed so often, gets all of it, and ends.
abbrev pub EndsInPlace : List ℕ → ℕ → List ℕ → List Event → Result Unit CloseFault → Type 0
EndsInPlace name failures text events (Ok _) = (failures ≡ 0) × (events ≡ written_out name text)
EndsInPlace name failures text events (Err (close.NotWritten reason)) =
    IsWrittenInPart name text reason events
EndsInPlace name failures text events (Err (close.NotNamed reason)) = ⊥

-- The same of a new one, which takes its name; or fails, and is removed.
abbrev pub EndsNamed : List ℕ → List ℕ → ℕ → List ℕ → List Event → Result Unit CloseFault → Type 0
EndsNamed other target failures text events (Ok _) = (failures ≡ 0)
    × ((last : List Event) × GetsName other target last × (events ≡ written_out other text ++ last))
EndsNamed other target failures text events (Err (close.NotWritten reason)) =
    (first last : List Event) × IsWrittenInPart other text reason first × IsRemoved other last
    × (events ≡ first ++ last)
EndsNamed other target failures text events (Err (close.NotNamed reason)) = (failures ≡ 0)
    × ((last : List Event) × GetsNoName other target reason last
    × (events ≡ written_out other text ++ last))

-- The same of a new one that is not wanted any more.
pub record EndsRemoved (other : List ℕ) (failures : ℕ) (text : List ℕ) (events : List Event)
    (result : Result Unit CloseFault) : Type 0 where
  pub first : List Event
  pub last : List Event
  pub ends : EndsInPlace other failures text first result
  pub removed : IsRemoved other last
  pub happened : events ≡ first ++ last

-- What a file took goes out to it. If all went well so far, it is filled up, and takes its name.
abbrev pub closes_file : FilePlace → Option Filling → Bool → ℕ → List ℕ
    → Act (Result Unit CloseFault)
closes_file place to well failures text events (Err f) = ⊥
closes_file (InPlace name) to true failures text events (Ok closed) =
    EndsInPlace name failures (filled_to to text) events closed
closes_file (InPlace name) to false failures text events (Ok closed) =
    EndsInPlace name failures text events closed
closes_file (Beside other target) to true failures text events (Ok closed) =
    EndsNamed other target failures (filled_to to text) events closed
closes_file (Beside other target) to false failures text events (Ok closed) =
    EndsRemoved other failures text events closed

-- ---- a file is made

-- what a call says of the text that it put into a file, how often that failed, and its answer
abbrev pub FileSaying : Type 0 → Type 1
FileSaying A = List ℕ → ℕ → A → Type 0

-- how a file was made: the answer of the call that put its text, and how it ended
pub record FileMade (A : Type 0) : Type 0 where
  pub answer : A
  pub closed : Result Unit CloseFault

-- a call puts a text into a file that was opened, and the file ends; well, if the answer is
pub record puts_out {A : Type 0} (Puts : FileSaying A) (IsWell : A → Bool) (to : Option Filling)
    (place : FilePlace) (events : List Event) (result : Result (FileMade A) Fault) : Type 0 where
  pub text : List ℕ
  pub failures : ℕ
  pub made : FileMade A
  pub puts : Puts text failures made.answer
  pub ends : closes_file place to (IsWell made.answer) failures text events (Ok made.closed)
  pub is : result ≡ Ok made

-- the file that is wanted is opened, and a call puts its text
abbrev pub makes : {A : Type 0} → WantedFile → FileSaying A → (A → Bool) → Act (FileMade A)
makes file Puts IsWell = Then (creates file) (puts_out Puts IsWell file.filling)

-- ---- two names

-- whether two names mean one file that is there, by what the host tells
abbrev pub compares_names : List ℕ → List ℕ → Act Bool
compares_names first second events (Ok same) = events ≡ Did (Compare first second same) ∷ []
compares_names first second events (Err f) = ⊥
