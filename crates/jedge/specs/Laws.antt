-- What is true of the acts of all commands.
use Rattle.std.specs.Prelude.{◌≡◌, ◌⊎◌, ℕ, List, [], ◌∷◌, Result, Err, string_bytes}
use Rattle.jlog.specs.declared.fault.SessionFault.TheVariants as session
use Rattle.flashbase.specs.declared.source.LoadFault.TheVariants as load
use Rattle.jextract.specs.Folders.{Made}
use Rattle.jmount.specs.declared.fault.MountFault.TheVariants as mount
use Rattle.jreport.specs.declared.faults.ProgramFault.{ProgramFault}
use Rattle.jreport.specs.declared.faults.ProgramFault.TheVariants as program
use Rattle.jreport.specs.declared.image_fault.ImageFault.TheVariants as image
use Rattle.jreport.specs.declared.reason.Reason.{Reason}
use Rattle.jedge.specs.Acts.{Act}
use Rattle.jedge.specs.Calls.{Call, Event, Did, Failed, Answers, Errors, Open, Read, ReadPart, ReadRegion, PrintJson, Find, Compare, Print, Create, OpenToWrite, Write, Sync, SyncFolder, Rename, Remove, Close, FillFolder, Fill, ReadFolder, LookThrough, Keep, Measure}
use Rattle.jedge.specs.Commands.{Command, Cat, Check, Damage, Diff, Info, Ls, act_of, reported}
use Rattle.jedge.specs.declared.fault.Fault.{Fault}
use Rattle.jedge.specs.declared.fault.Fault.TheVariants as fault

-- ---- nothing is made

-- a call that makes nothing, and changes no file
abbrev pub IsLooking : Call → Type 0
IsLooking (Measure name n) = Unit {0}
IsLooking (Open name) = Unit {0}
IsLooking (Read name bytes) = Unit {0}
IsLooking (ReadPart name bytes) = Unit {0}
IsLooking (ReadRegion region names) = Unit {0}
IsLooking (PrintJson lines) = Unit {0}
IsLooking (Find name meaning) = Unit {0}
IsLooking (Compare name other same) = Unit {0}
IsLooking (Print stream text) = Unit {0}
IsLooking (Create name how) = ⊥
IsLooking (OpenToWrite name) = ⊥
IsLooking (Write name bytes) = ⊥
IsLooking (Sync name) = ⊥
IsLooking (SyncFolder name) = ⊥
IsLooking (Rename name other) = ⊥
IsLooking (Remove name) = ⊥
IsLooking (Close name) = ⊥
IsLooking (FillFolder name quiet) = ⊥
IsLooking (Fill name made) = ⊥
IsLooking (ReadFolder name quiet known) = Unit {0}
IsLooking (LookThrough name) = Unit {0}
IsLooking (Keep name files) = Unit {0}

abbrev pub Looks : Event → Type 0
Looks (Did call) = IsLooking call
Looks (Failed call reason) = IsLooking call

abbrev pub LooksOnly : List Event → Type 0
LooksOnly [] = Unit {0}
LooksOnly (event ∷ events) = Looks event × LooksOnly events

-- an act makes nothing, and changes no file, whatever it answers
abbrev pub MakesNothing : {A : Type 0} → Act A → Type 0
MakesNothing {A} act =
    (events : List Event) (result : Result A Fault) → act events result → LooksOnly events

-- no command of these makes anything
abbrev pub ReadsOnly : Type 0
ReadsOnly = (command : Command) → MakesNothing (reported (act_of command))

-- ---- a fault is an event

abbrev pub Happened : Event → List Event → Type 0
Happened event [] = ⊥
Happened event (first ∷ events) = (first ≡ event) ⊎ Happened event events

-- What was read, or is asked for, is refused for what it is, or there is no memory for it. That
-- names no file, and blames no call.
abbrev pub IsOfBytes : ProgramFault → Type 0
IsOfBytes (program.Load load.Device) = ⊥
IsOfBytes (program.Load load.TooLarge) = Unit {0}
IsOfBytes (program.Load load.OutOfMemory) = Unit {0}
IsOfBytes (program.Scan why) = Unit {0}
IsOfBytes (program.Mount why) = Unit {0}
IsOfBytes (program.Clash addr other) = Unit {0}
IsOfBytes (program.File file) = ⊥
IsOfBytes (program.NotRead file) = ⊥
IsOfBytes (program.Listing line) = Unit {0}
IsOfBytes (program.Session (session.Refused why) line cause) = Unit {0}
IsOfBytes (program.Session (session.Full needed free) line cause) = Unit {0}
IsOfBytes (program.Session session.ReadOnly line cause) = Unit {0}
IsOfBytes (program.Session session.Sink line cause) = ⊥
IsOfBytes (program.Session session.OutOfMemory line cause) = Unit {0}
IsOfBytes (program.Session session.Broken line cause) = Unit {0}
IsOfBytes (program.Session session.Geometry line cause) = Unit {0}
IsOfBytes (program.Path why) = Unit {0}
IsOfBytes program.NotRegular = Unit {0}
IsOfBytes program.Output = ⊥
IsOfBytes program.OutOfMemory = ⊥
IsOfBytes (program.NoSpace name) = ⊥
IsOfBytes (program.Data addr) = Unit {0}
IsOfBytes (program.TooLong addr) = Unit {0}
IsOfBytes (program.Image (image.NoNodes name others)) = ⊥
IsOfBytes (program.Image (image.Findings name findings)) = ⊥
IsOfBytes (program.Image image.Part) = Unit {0}
IsOfBytes (program.Image (image.NoInode ino)) = Unit {0}
IsOfBytes (program.Image (image.NoContent ino)) = Unit {0}

-- A fault that names a file comes with a call on that file that failed, for the same reason; that
-- of the output with a print that failed.
abbrev pub BlamesEvent : Fault → List Event → Type 0
BlamesEvent (fault.File file) events =
    Happened (Failed (Open (string_bytes file.name)) file.reason) events
BlamesEvent (fault.NotRead file) events = (bytes : List ℕ)
    × Happened (Failed (ReadPart (string_bytes file.name) bytes) file.reason) events
BlamesEvent (fault.NoNodes name others) events = Unit {0}
BlamesEvent (fault.NoSpace folder) events = (what : Made) × (reason : Reason)
    × Happened (Failed (Fill (string_bytes folder) what) reason) events
BlamesEvent (fault.Findings name findings) events = Unit {0}
BlamesEvent (fault.Refused why) events = IsOfBytes why
BlamesEvent fault.Output events =
    (rest : List ℕ) × (reason : Reason) × Happened (Failed (Print Answers rest) reason) events
BlamesEvent fault.OutOfMemory events = Unit {0}

abbrev pub BlamesFailed : {A : Type 0} → Act A → Type 0
BlamesFailed act = (events : List Event) (f : Fault) → act events (Err f) → BlamesEvent f events

abbrev pub BlamedIsFailed : Type 0
BlamedIsFailed = (command : Command) → BlamesFailed (act_of command)

-- ---- all that is refused is refused before anything is printed

-- standard output gets nothing by this call
abbrev pub IsUnprinted : Call → Type 0
IsUnprinted (Measure name n) = Unit {0}
IsUnprinted (Open name) = Unit {0}
IsUnprinted (Read name bytes) = Unit {0}
IsUnprinted (ReadPart name bytes) = Unit {0}
IsUnprinted (ReadRegion region names) = Unit {0}
IsUnprinted (PrintJson lines) = Unit {0}
IsUnprinted (Find name meaning) = Unit {0}
IsUnprinted (Compare name other same) = Unit {0}
IsUnprinted (Print Answers text) = ⊥
IsUnprinted (Print Errors text) = Unit {0}
IsUnprinted (Create name how) = Unit {0}
IsUnprinted (OpenToWrite name) = Unit {0}
IsUnprinted (Write name bytes) = Unit {0}
IsUnprinted (Sync name) = Unit {0}
IsUnprinted (SyncFolder name) = Unit {0}
IsUnprinted (Rename name other) = Unit {0}
IsUnprinted (Remove name) = Unit {0}
IsUnprinted (Close name) = Unit {0}
IsUnprinted (FillFolder name quiet) = Unit {0}
IsUnprinted (Fill name made) = Unit {0}
IsUnprinted (ReadFolder name quiet known) = Unit {0}
IsUnprinted (LookThrough name) = Unit {0}
IsUnprinted (Keep name files) = Unit {0}

-- nor by any of these; a print that failed gave it nothing
abbrev pub NonePrinted : List Event → Type 0
NonePrinted [] = Unit {0}
NonePrinted (Did call ∷ events) = IsUnprinted call × NonePrinted events
NonePrinted (Failed call reason ∷ events) = NonePrinted events

-- Where it ends by this fault, nothing was printed; but that of the output may come at any time.
abbrev pub ComesFirst : Fault → List Event → Type 0
ComesFirst (fault.File file) events = NonePrinted events
ComesFirst (fault.NotRead file) events = NonePrinted events
ComesFirst (fault.NoNodes name others) events = NonePrinted events
ComesFirst (fault.NoSpace folder) events = NonePrinted events
ComesFirst (fault.Findings name findings) events = NonePrinted events
ComesFirst (fault.Refused why) events = NonePrinted events
ComesFirst fault.Output events = Unit {0}
ComesFirst fault.OutOfMemory events = NonePrinted events

abbrev pub JudgesFirst : {A : Type 0} → Act A → Type 0
JudgesFirst act = (events : List Event) (f : Fault) → act events (Err f) → ComesFirst f events

-- the same of one that may also end by such faults when it has printed
abbrev pub JudgesFirstBut : {A : Type 0} → (Fault → Type 0) → Act A → Type 0
JudgesFirstBut Late act = (events : List Event) (f : Fault) → (Late f → ⊥) → act events (Err f)
    → ComesFirst f events

-- Those of each command: memory alone is wanted later. `ls` and `diff` take it while they print,
-- and `check` mounts an image behind the report of it.
abbrev pub IsLate : Command → Fault → Type 0
IsLate (Check options shape name) f =
    (f ≡ fault.OutOfMemory) ⊎ (f ≡ fault.Refused (program.Mount mount.OutOfMemory))
IsLate (Ls options decompress name word) f = f ≡ fault.OutOfMemory
IsLate (Cat options decompress strict name word) f = ⊥
IsLate (Info name) f = ⊥
IsLate (Damage options decompress name) f = ⊥
IsLate (Diff asked) f = f ≡ fault.OutOfMemory

abbrev pub JudgedFirst : Type 0
JudgedFirst = (command : Command) → JudgesFirstBut (IsLate command) (act_of command)
