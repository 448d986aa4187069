-- What is true of the acts of these commands.
use Rattle.std.specs.Prelude.{◌≡◌, ◌⊎◌, ◌↔◌, ℕ, Bool, List, Option}
use Rattle.jnode.specs.declared.order.Endian.{Endian}
use Rattle.jmount.specs.declared.fault.MountFault.TheVariants as mount
use Rattle.jthrough.specs.Plain.{HasNoCompressed}
use Rattle.jhistory.specs.declared.period.Period.{Period}
use Rattle.jversions.specs.declared.revision.Revision.{Revision}
use Rattle.jcommand.specs.declared.parsed.Options.{Options}
use Rattle.jreport.specs.WholeImage.{IsCheck}
use Rattle.jreport.specs.declared.faults.ProgramFault.TheVariants as program
use Rattle.jedge.specs.Acts.{Act}
use Rattle.jedge.specs.Commands.{reported}
use Rattle.jedge.specs.Laws.{BlamesFailed, JudgesFirstBut, MakesNothing}
use Rattle.jedge.specs.Told.{Told}
use Rattle.jedge.specs.declared.fault.Fault.{Fault}
use Rattle.jedge.specs.declared.fault.Fault.TheVariants as fault
use Rattle.jinspects.specs.Inspecting.{cat_inode_act, check_through_act, history_act, map_act}
use Rattle.jinspects.specs.ThroughVerdict.{IsCheckThrough}

-- a command, and what is asked of it
pub data InspectCommand : Type 0 where
  CheckThrough : Options → Bool → List ℕ → InspectCommand
  MapNodes : Options → Bool → List ℕ → InspectCommand
  History : Options → Period → List ℕ → Option (List ℕ) → InspectCommand
  CatInode : Options → Revision → List ℕ → InspectCommand

abbrev pub inspect_act_of : InspectCommand → Act Told
inspect_act_of (CheckThrough options shape name) = check_through_act options shape name
inspect_act_of (MapNodes options svg name) = map_act options svg name
inspect_act_of (History options period name word) = history_act options period name word
inspect_act_of (CatInode options r name) = cat_inode_act options r name

-- no command of these makes a file, or changes one, whatever it answers
abbrev pub InspectsOnly : Type 0
InspectsOnly = (command : InspectCommand) → MakesNothing (reported (inspect_act_of command))

-- a fault that names a file comes with that file's failed call, and that of the output with a print
-- that failed
abbrev pub InspectedBlamesFailed : Type 0
InspectedBlamesFailed = (command : InspectCommand) → BlamesFailed (inspect_act_of command)

-- Memory alone may be wanting when something was printed: behind the report of `check`.
abbrev pub IsLateInspected : InspectCommand → Fault → Type 0
IsLateInspected (CheckThrough options shape name) f =
    (f ≡ fault.OutOfMemory) ⊎ (f ≡ fault.Refused (program.Mount mount.OutOfMemory))
IsLateInspected (MapNodes options svg name) f = ⊥
IsLateInspected (History options period name word) f = ⊥
IsLateInspected (CatInode options r name) f = ⊥

-- all else is refused before anything is printed
abbrev pub InspectedJudgedFirst : Type 0
InspectedJudgedFirst = (command : InspectCommand)
    → JudgesFirstBut (IsLateInspected command) (inspect_act_of command)

-- Of an image without compressed nodes `check --decompress` prints what `check` does.
abbrev pub PlainIsChecked : Type 0
PlainIsChecked = (e : Endian) (size : ℕ) (image : List ℕ) (asked : Bool) (text : List ℕ)
    → HasNoCompressed e size image
    → ((found : Bool) × IsCheckThrough e size image asked text found)
    ↔ ((found : Bool) × IsCheck e size image asked text found)
