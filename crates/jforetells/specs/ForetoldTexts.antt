-- What `cuts` prints of operations on an image that is mounted through its compression, and why it
-- stops.
use Rattle.std.specs.Prelude.{◌≡◌, ◌⊎◌, ℕ, List, length, Some, None, Result, Ok, Err}
use Rattle.jnode.specs.declared.order.Endian.{Endian}
use Rattle.jlog.specs.declared.fault.SessionFault.{SessionFault}
use Rattle.jlog.specs.declared.start.Flash.{Flash}
use Rattle.jcuts.specs.Cuts.{Asked}
use Rattle.jcuts.specs.Lines.{weak_count}
use Rattle.jcuts.specs.declared.cuts.CutsFault.{CutsFault}
use Rattle.jcuts.specs.declared.cuts.CutsFault.TheVariants as cuts
use Rattle.jstops.specs.FormLines.{AdvancesAs, forms_text, all_forms_text}
use Rattle.jstops.specs.Planned.{Forming, HeldPoint, forming_with, form_standings, through_point}
use Rattle.jstops.specs.Stops.{DeclinesNextAs}
use Rattle.jstops.specs.declared.planned.StopsPlan.{StopsPlan}
use Rattle.jreport.specs.declared.faults.ProgramFault.{ProgramFault}
use Rattle.jreport.specs.declared.faults.ProgramFault.TheVariants as program
use Rattle.jedge.specs.Acts.{Saying}
use Rattle.jedge.specs.Showing.{IsFrontOf}
use Rattle.jedge.specs.Told.{Told}
use Rattle.jedge.specs.declared.fault.Fault.{Fault}
use Rattle.jedge.specs.declared.fault.Fault.TheVariants as fault
use Rattle.jreads.specs.CutTexts.{LacksPlan, cut_cause, weak_found}

-- what the command comes to, by what was put; of the blocks that an operation needs nothing is told
abbrev pub stops_found : Flash → List ℕ → Result ℕ CutsFault → Result Told Fault
stops_found flash image (Ok weak) = Ok (weak_found weak)
stops_found flash image (Err (cuts.Session f line blocks)) =
    Err (fault.Refused (program.Session f line (cut_cause flash image f None)))
stops_found flash image (Err cuts.Output) = Err fault.Output

-- All operations are accepted in some forms; these are told in order, and then all of them in a
-- line.
pub record AreFormsToldWhole (on : Forming) (asked : Asked) (from : HeldPoint) (text : List ℕ)
    (told : Told) : Type 0 where
  pub forms : List (List ℕ)
  pub to : HeldPoint
  pub leads : AdvancesAs on from asked.ops (length asked.ops) forms to
  pub whole : text ≡ all_forms_text on asked from forms
  pub weak : told ≡ weak_found (weak_count (form_standings on from forms))

-- One is declined, and the forms of those before it are told. The fault has the number of its line.
pub record StopsAtLineAs (on : Forming) (asked : Asked) (from : HeldPoint) (flash : Flash)
    (image text : List ℕ) (why : ProgramFault) : Type 0 where
  pub accepted : ℕ
  pub line : ℕ
  pub forms : List (List ℕ)
  pub declined : SessionFault
  pub next : DeclinesNextAs on asked from accepted line forms declined
  pub begun : text ≡ forms_text on asked from accepted forms
  pub is : why ≡ program.Session declined (Some line) (cut_cause flash image declined None)

-- a beginning of what is told of operations that are accepted
abbrev pub IsPartOfForms : Forming → Asked → HeldPoint → List ℕ → Type 0
IsPartOfForms on asked from text = ((n : ℕ) × (forms : List (List ℕ))
    × ((to : HeldPoint) × AdvancesAs on from asked.ops n forms to)
    × IsFrontOf (forms_text on asked from n forms) text)
    ⊎ ((forms : List (List ℕ))
    × ((to : HeldPoint) × AdvancesAs on from asked.ops (length asked.ops) forms to)
    × IsFrontOf (all_forms_text on asked from forms) text)

-- What is told of operations on an image that is mounted through its compression: of all of them,
-- or of those before one that is declined; or a beginning of it, where the output fails; or
-- nothing, where memory runs out.
abbrev pub TellsForms : Endian → StopsPlan → List ℕ → Asked → Saying Told
TellsForms e on image asked text (Ok told) = AreFormsToldWhole (forming_with e on.forms on.flash)
    asked (through_point e on.flash image) text told
TellsForms e on image asked text (Err (fault.File file)) = ⊥
TellsForms e on image asked text (Err (fault.NotRead file)) = ⊥
TellsForms e on image asked text (Err (fault.NoNodes of others)) = ⊥
TellsForms e on image asked text (Err (fault.NoSpace folder)) = ⊥
TellsForms e on image asked text (Err (fault.Findings of findings)) = ⊥
TellsForms e on image asked text (Err (fault.Refused why)) = LacksPlan on.flash image text why
    ⊎ StopsAtLineAs (forming_with e on.forms on.flash) asked (through_point e on.flash image)
    on.flash image text why
TellsForms e on image asked text (Err fault.Output) = IsPartOfForms
    (forming_with e on.forms on.flash) asked (through_point e on.flash image) text
TellsForms e on image asked text (Err fault.OutOfMemory) = ⊥
