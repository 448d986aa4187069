-- Why a command ends early, and what standard error is told of it.
use Rattle.std.specs.Prelude.{◌≡◌, ℕ, List, Option, option_map, string_bytes}
use denote.Ref.{Bor}
use Rattle.jreport.specs.Advice.{fault_lines_of}
use Rattle.jreport.specs.FoundIn.{TellsFindings}
use Rattle.jreport.specs.declared.faults.ProgramFault.{ProgramFault}
use Rattle.jreport.specs.declared.faults.ProgramFault.TheVariants as program
use Rattle.jreport.specs.declared.image_fault.ImageFault.{ImageFault}
use Rattle.jreport.specs.declared.image_fault.ImageFault.TheVariants as image
use Rattle.jreport.specs.declared.reason.Unopened.{Unopened}
use Rattle.jedge.specs.declared.fault.FailedFile.{FailedFile}
use Rattle.jedge.specs.declared.fault.Fault.{Fault}
use Rattle.jedge.specs.declared.fault.Fault.TheVariants as fault

-- this file, for this reason
abbrev pub IsThisFile : FailedFile → Unopened → Type 0
IsThisFile file told = (told.name.now ≡ string_bytes file.name) × (told.reason ≡ file.reason)

-- no node is found in the image of this name, where it has one, and so many of the other order are
abbrev pub IsNoNodesTold : Option (List ℕ) → ℕ → ImageFault → Type 0
IsNoNodesTold name others (image.NoNodes told count) =
    (option_map (λ text. text.now) told ≡ name) × (count ≡ others)
IsNoNodesTold name others (image.Findings told findings) = ⊥
IsNoNodesTold name others image.Part = ⊥
IsNoNodesTold name others (image.NoInode ino) = ⊥
IsNoNodesTold name others (image.NoContent ino) = ⊥

-- a fault as the program tells it, of which the texts are made
abbrev pub IsToldAs : Fault → ProgramFault → Type 0
IsToldAs (fault.File file) told = (of : Unopened) × (told ≡ program.File of) × IsThisFile file of
IsToldAs (fault.NotRead file) told =
    (of : Unopened) × (told ≡ program.NotRead of) × IsThisFile file of
IsToldAs (fault.NoNodes name others) told = (why : ImageFault) × (told ≡ program.Image why)
    × IsNoNodesTold (option_map string_bytes name) others why
IsToldAs (fault.NoSpace folder) told =
    (name : Bor (List ℕ)) × (told ≡ program.NoSpace name) × (name.now ≡ string_bytes folder)
IsToldAs (fault.Findings name findings) told =
    (why : ImageFault) × (told ≡ program.Image why) × TellsFindings (string_bytes name) findings why
IsToldAs (fault.Refused why) told = told ≡ why
IsToldAs fault.Output told = told ≡ program.Output
IsToldAs fault.OutOfMemory told = told ≡ program.OutOfMemory

-- a fault of a library, as the command ends by it
abbrev pub command_fault : ProgramFault → Fault
command_fault program.Output = fault.Output
command_fault program.OutOfMemory = fault.OutOfMemory
command_fault why = fault.Refused why

-- the lines of a fault, and of the note after it
pub record TellsFault (f : Fault) (text : List ℕ) : Type 0 where
  pub why : ProgramFault
  pub told : IsToldAs f why
  pub lines : text ≡ fault_lines_of why
