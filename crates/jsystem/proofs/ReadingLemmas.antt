-- Files that are read by a host that tells nothing.
use Rattle.std.proofs.Common.{◌≡◌, ◌≤◌, ◌++◌, ℕ, List, [], ◌∷◌, Some, None, Ok, Err, inl, inr, refl}
use Rattle.std.specs.Prelude.{◌≢◌, bytes_eq, if◌then◌else◌, length, string_bytes}
use Rattle.flashbase.specs.declared.source.LoadFault.{LoadFault}
use Rattle.flashbase.specs.declared.source.LoadFault.TheVariants as load
use Rattle.jscan.specs.Image.{greatest_image}
use Rattle.jbuild.specs.HostFiles.{read_of}
use Rattle.jbuild.specs.declared.host_files.HostFiles.{HostFiles}
use Rattle.jreport.specs.declared.reason.Reason.{Reason}
use Rattle.jedge.specs.Acts.{DoesFrom, Ends, GoesOn, reads_whole}
use Rattle.jedge.specs.Calls.{Did, Event, Failed, Measure, Read, ReadPart}
use Rattle.jedge.specs.declared.fault.FailedFile.{FailedFile}
use Rattle.jedge.specs.declared.fault.Fault.{Fault}
use Rattle.jedge.specs.declared.fault.Fault.TheVariants as fault
use Rattle.jreads.specs.Named.{measures, reads_with}
use Rattle.jreads.specs.Scanning.{closes_stream, read_up_to}
use Rattle.jsystem.specs.Failing.{FailsReading}
use Rattle.jsystem.proofs.UntoldLemmas.{longer_than, untold}

-- a file is not read to its end
stops : (name : List ℕ) (reason : Reason) (why : LoadFault) (f : Fault) → FailsReading name reason why f → (events : List Event) × reads_whole name events (Err f)
stops name reason load.Device f is = rw is.1 (Failed (ReadPart name []) is.0.reason ∷ [], (is.2, ([], refl)))
stops name reason load.TooLarge f is =
    let long = longer_than greatest_image in
    rw is (Did (ReadPart name long.0) ∷ [], (long.0, refl, inl (refl, long.1)))
stops name reason load.OutOfMemory f is = rw is (Did (ReadPart name []) ∷ [], ([], refl, inr refl))

pub read_failed : (name : List ℕ) (reason : Reason) (why : LoadFault) (f : Fault) → FailsReading name reason why f → DoesFrom None None (reads_whole name) (Err f)
read_failed name reason why f is = let ends = stops name reason why f is in untold ends.0 ends.1

pub read_with_failed : (name : List ℕ) (files : HostFiles) (reason : Reason) (why : LoadFault) (f : Fault) → FailsReading name reason why f → DoesFrom None None (reads_with files name) (Err f)
read_with_failed name files reason why f is =
    let ends = stops name reason why f is in untold ends.0 (Ends f ends.1 refl)

pub measured : (name : List ℕ) (n : ℕ) → DoesFrom None None (measures name) (Ok n)
measured name n = untold (Did (Measure name n) ∷ []) (n, refl, refl)

-- it is, and kept with others
pub file_kept : (name : List ℕ) (old new : HostFiles) (bytes : List ℕ) → length bytes ≤ greatest_image → ((n : List ℕ) → read_of new n ≡ (if bytes_eq name n then Some bytes else read_of old n))
    → DoesFrom None None (reads_with old name) (Ok new)
file_kept name old new bytes within keeps =
    let done = Did (Read name bytes) ∷ [] in untold done (GoesOn bytes done [] (refl, within) (refl, keeps) refl)

-- ---- a file that is read as a stream

pub stream_closed : (name : List ℕ) (failures : ℕ) (read left : List ℕ) → failures ≡ 0 → DoesFrom None None (closes_stream name failures read left) (Ok tt)
stream_closed name failures read left none = untold (read_up_to name read left) (none, refl)

pub stream_failed : (name : List ℕ) (failures : ℕ) (read left : List ℕ) (file : FailedFile) → failures ≢ 0 → string_bytes file.name ≡ name → DoesFrom None None (closes_stream name failures read left) (Err (fault.NotRead file))
stream_failed name failures read left file some is = untold (Failed (ReadPart name read) file.reason ∷ []) (some, is, refl)
