-- What is left of a file that does not take its name.
use Rattle.std.specs.Prelude.{◌≡◌, ◌⊎◌, ◌++◌, ℕ, Bool, true, false, List, [], ◌∷◌, Result, Ok, Err}
use Rattle.jreport.specs.declared.reason.Reason.{Reason}
use Rattle.jedge.specs.Calls.{Call, Event, Did, Failed, Special, Nothing, Regular, Kind, Measure, Open, Read, ReadPart, ReadRegion, PrintJson, Find, Compare, Print, Create, OpenToWrite, Write, Sync, SyncFolder, Rename, Remove, Close, FillFolder, Fill, ReadFolder, LookThrough, Keep}
use Rattle.jedge.specs.Laws.{Happened}
use Rattle.jedge.specs.declared.fault.Fault.{Fault}
use Rattle.jmakes.specs.Making.{FileMade}
use Rattle.jmakes.specs.declared.wanted.CloseFault.{CloseFault}

-- ---- files that are not the command's own

-- this is one of the names
abbrev pub IsOwn : List ℕ → List (List ℕ) → Type 0
IsOwn name [] = ⊥
IsOwn name (own ∷ more) = (own ≡ name) ⊎ IsOwn name more

-- The names that are its own behind a call: of what it made, and of what is no regular file.
abbrev pub own_at : Kind → List ℕ → List (List ℕ)
own_at Nothing name = []
own_at Regular name = []
own_at Special name = name ∷ []

abbrev pub own_of : Call → List (List ℕ)
own_of (Find name meaning) = own_at meaning.kind meaning.target
own_of (Create name how) = name ∷ []
own_of _ = []

-- a call changes nothing but its own; what it makes was not there before
abbrev pub IsOnOwn : List (List ℕ) → Call → Type 0
IsOnOwn own (Measure name n) = Unit {0}
IsOnOwn own (Open name) = Unit {0}
IsOnOwn own (Read name bytes) = Unit {0}
IsOnOwn own (ReadPart name bytes) = Unit {0}
IsOnOwn own (ReadRegion region names) = Unit {0}
IsOnOwn own (PrintJson lines) = Unit {0}
IsOnOwn own (Find name meaning) = Unit {0}
IsOnOwn own (Compare name other same) = Unit {0}
IsOnOwn own (Print stream text) = Unit {0}
IsOnOwn own (Create name how) = how.exclusive ≡ true
IsOnOwn own (OpenToWrite name) = IsOwn name own
IsOnOwn own (Write name bytes) = IsOwn name own
IsOnOwn own (Sync name) = IsOwn name own
IsOnOwn own (SyncFolder name) = Unit {0}
IsOnOwn own (Rename name other) = ⊥
IsOnOwn own (Remove name) = IsOwn name own
IsOnOwn own (Close name) = Unit {0}
IsOnOwn own (FillFolder name quiet) = ⊥
IsOnOwn own (Fill name made) = ⊥
IsOnOwn own (ReadFolder name quiet known) = Unit {0}
IsOnOwn own (LookThrough name) = Unit {0}
IsOnOwn own (Keep name files) = Unit {0}

-- the same of a call that failed; a rename that did changes nothing
abbrev pub IsTriedOnOwn : List (List ℕ) → Call → Type 0
IsTriedOnOwn own (Rename name other) = IsOwn name own
IsTriedOnOwn own call = IsOnOwn own call

abbrev pub LeavesOthers : List (List ℕ) → List Event → Type 0
LeavesOthers own [] = Unit {0}
LeavesOthers own (Did call ∷ events) = IsOnOwn own call × LeavesOthers (own_of call ++ own) events
LeavesOthers own (Failed call reason ∷ events) = IsTriedOnOwn own call × LeavesOthers own events

-- ---- files that it made

-- a file is removed later, or that fails
abbrev pub IsRemovedIn : List Event → List ℕ → Type 0
IsRemovedIn events name = Happened (Did (Remove name)) events
    ⊎ ((reason : Reason) × Happened (Failed (Remove name) reason) events)

abbrev pub AllRemoved : List Event → Type 0
AllRemoved [] = Unit {0}
AllRemoved (Did (Create name how) ∷ events) = IsRemovedIn events name × AllRemoved events
AllRemoved (_ ∷ events) = AllRemoved events

-- No file has another content or another name than before, but those that are no regular files; and
-- what was made is removed, or that failed.
pub record LeavesFiles (events : List Event) : Type 0 where
  pub others : LeavesOthers [] events
  pub removed : AllRemoved events

-- no file took its name, by how it was closed and whether all went well before
abbrev pub EndsUnnamed : Bool → Result Unit CloseFault → Type 0
EndsUnnamed well (Ok _) = well ≡ false
EndsUnnamed well (Err f) = Unit {0}

abbrev pub HasNoName : {A : Type 0} → (A → Bool) → Result (FileMade A) Fault → Type 0
HasNoName IsWell (Ok made) = EndsUnnamed (IsWell made.answer) made.closed
HasNoName IsWell (Err f) = Unit {0}
