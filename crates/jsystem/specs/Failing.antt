-- Why a file of the system is not made, or not read.
use Rattle.std.specs.Prelude.{◌≡◌, ◌⊎◌, ℕ, List, string_bytes}
use Rattle.std.specs.declared.io.ErrorKind.{ErrorKind}
use Rattle.flashbase.specs.declared.source.LoadFault.{LoadFault}
use Rattle.flashbase.specs.declared.source.LoadFault.TheVariants as load
use Rattle.jreport.specs.Reasons.{reason_of_kind}
use Rattle.jreport.specs.declared.faults.ProgramFault.TheVariants as program
use Rattle.jreport.specs.declared.reason.Reason.{Reason}
use Rattle.jedge.specs.declared.fault.FailedFile.{FailedFile}
use Rattle.jedge.specs.declared.fault.Fault.{Fault}
use Rattle.jedge.specs.declared.fault.Fault.TheVariants as fault

-- an error of this kind blames the file of a name; or memory runs out
abbrev pub FailsMaking : List ℕ → ErrorKind → Fault → Type 0
FailsMaking name kind f = ((file : FailedFile) × (f ≡ fault.File file)
    × (string_bytes file.name ≡ name) × (file.reason ≡ reason_of_kind kind))
    ⊎ (f ≡ fault.OutOfMemory)

-- the file of this name is not read to its end, and blamed if it failed
abbrev pub FailsReading : List ℕ → Reason → LoadFault → Fault → Type 0
FailsReading name reason load.Device f = (file : FailedFile) × (f ≡ fault.NotRead file)
    × (string_bytes file.name ≡ name) × (file.reason ≡ reason)
FailsReading name reason load.TooLarge f = f ≡ fault.Refused (program.Load load.TooLarge)
FailsReading name reason load.OutOfMemory f = f ≡ fault.Refused (program.Load load.OutOfMemory)
