-- What `cuts --update` prints of operations on a device's image, and why it stops.
use Rattle.std.specs.Prelude.{◌≡◌, ◌⊎◌, ℕ, List, length, Some, None, Ok, Err}
use Rattle.jnode.specs.declared.order.Endian.{Endian}
use Rattle.jlog.specs.declared.fault.SessionFault.{SessionFault}
use Rattle.jlog.specs.declared.start.Flash.{Flash}
use Rattle.jcuts.specs.Cuts.{Asked}
use Rattle.jcuts.specs.Lines.{weak_count}
use Rattle.jdevice.specs.declared.running.DevicePlan.{DevicePlan}
use Rattle.jstops.specs.Planned.{Forming}
use Rattle.jhalts.specs.Halts.{DeclinesNextIn}
use Rattle.jhalts.specs.InRow.{RowPoint, device_point, forming_on, row_standings}
use Rattle.jhalts.specs.RowLines.{AdvancesIn, all_row_text, row_text}
use Rattle.jreport.specs.declared.faults.ProgramFault.{ProgramFault}
use Rattle.jreport.specs.declared.faults.ProgramFault.TheVariants as program
use Rattle.jedge.specs.Acts.{Saying}
use Rattle.jedge.specs.Showing.{IsFrontOf}
use Rattle.jedge.specs.Told.{Told}
use Rattle.jedge.specs.declared.fault.Fault.TheVariants as fault
use Rattle.jreads.specs.CutTexts.{LacksPlan, cut_cause, weak_found}

-- All operations are accepted in some forms; these are told in order, and then all of them in a
-- line.
pub record AreRowFormsToldWhole (on : Forming) (asked : Asked) (from : RowPoint) (text : List ℕ)
    (told : Told) : Type 0 where
  pub forms : List (List ℕ)
  pub to : RowPoint
  pub leads : AdvancesIn on from asked.ops (length asked.ops) forms to
  pub whole : text ≡ all_row_text on asked from forms
  pub weak : told ≡ weak_found (weak_count (row_standings on from forms))

-- One is declined, and the forms of those before it are told. The fault has the number of its line.
pub record StopsAtLineIn (on : Forming) (asked : Asked) (from : RowPoint) (flash : Flash)
    (image text : List ℕ) (why : ProgramFault) : Type 0 where
  pub accepted : ℕ
  pub line : ℕ
  pub forms : List (List ℕ)
  pub declined : SessionFault
  pub next : DeclinesNextIn on asked from accepted line forms declined
  pub begun : text ≡ row_text on asked from accepted forms
  pub is : why ≡ program.Session declined (Some line) (cut_cause flash image declined None)

-- a beginning of what is told of operations that are accepted
abbrev pub IsPartOfRowForms : Forming → Asked → RowPoint → List ℕ → Type 0
IsPartOfRowForms on asked from text = ((n : ℕ) × (forms : List (List ℕ))
    × ((to : RowPoint) × AdvancesIn on from asked.ops n forms to)
    × IsFrontOf (row_text on asked from n forms) text)
    ⊎ ((forms : List (List ℕ))
    × ((to : RowPoint) × AdvancesIn on from asked.ops (length asked.ops) forms to)
    × IsFrontOf (all_row_text on asked from forms) text)

-- What is told of operations on a device's image: of all of them, or of those before one that is
-- declined; or a beginning of it, where the output fails; or nothing, where memory runs out.
abbrev pub TellsRowForms : Endian → DevicePlan → List ℕ → Asked → Saying Told
TellsRowForms e on image asked text (Ok told) =
    AreRowFormsToldWhole (forming_on e on) asked (device_point e on image) text told
TellsRowForms e on image asked text (Err (fault.File file)) = ⊥
TellsRowForms e on image asked text (Err (fault.NotRead file)) = ⊥
TellsRowForms e on image asked text (Err (fault.NoNodes of others)) = ⊥
TellsRowForms e on image asked text (Err (fault.NoSpace folder)) = ⊥
TellsRowForms e on image asked text (Err (fault.Findings of findings)) = ⊥
TellsRowForms e on image asked text (Err (fault.Refused why)) = LacksPlan on.flash image text why
    ⊎ StopsAtLineIn (forming_on e on) asked (device_point e on image) on.flash image text why
TellsRowForms e on image asked text (Err fault.Output) =
    IsPartOfRowForms (forming_on e on) asked (device_point e on image) text
TellsRowForms e on image asked text (Err fault.OutOfMemory) = ⊥
