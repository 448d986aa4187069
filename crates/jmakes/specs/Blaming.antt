-- A fault of a file that is made is an event.
use Rattle.std.specs.Prelude.{◌≡◌, ℕ, List, Result, Ok, Err, string_bytes}
use Rattle.jreport.specs.declared.reason.Reason.{Reason}
use Rattle.jedge.specs.Calls.{Call, Event, Failed, Create, OpenToWrite, Rename, Sync, Write}
use Rattle.jedge.specs.Laws.{Happened}
use Rattle.jedge.specs.declared.fault.FailedFile.{FailedFile}
use Rattle.jedge.specs.declared.fault.Fault.{Fault}
use Rattle.jedge.specs.declared.fault.Fault.TheVariants as fault
use Rattle.jmakes.specs.declared.wanted.CloseFault.{CloseFault}
use Rattle.jmakes.specs.declared.wanted.CloseFault.TheVariants as close

-- a call that makes a file, or gives it its name
abbrev pub IsMaking : Call → Type 0
IsMaking (Create name how) = Unit {0}
IsMaking (OpenToWrite name) = Unit {0}
IsMaking (Sync name) = Unit {0}
IsMaking (Rename name other) = Unit {0}
IsMaking _ = ⊥

-- such a call failed, for this reason
abbrev pub HasFailedMaking : Reason → List Event → Type 0
HasFailedMaking reason events =
    (call : Call) × IsMaking call × Happened (Failed call reason) events

-- a write failed, for this reason
abbrev pub HasFailedWriting : Reason → List Event → Type 0
HasFailedWriting reason events =
    (name : List ℕ) × (rest : List ℕ) × Happened (Failed (Write name rest) reason) events

-- how a file ended, by the calls that failed
abbrev pub IsEndBlamed : Result Unit CloseFault → List Event → Type 0
IsEndBlamed (Ok _) events = Unit {0}
IsEndBlamed (Err (close.NotWritten reason)) events = HasFailedWriting reason events
IsEndBlamed (Err (close.NotNamed reason)) events = HasFailedMaking reason events

-- the file of this name is blamed, since a call that makes it failed
abbrev pub IsFileBlamed : List ℕ → Fault → List Event → Type 0
IsFileBlamed name f events = (file : FailedFile) × (f ≡ fault.File file)
    × (string_bytes file.name ≡ name) × HasFailedMaking file.reason events
