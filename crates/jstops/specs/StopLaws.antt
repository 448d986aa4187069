-- Laws of what is told of forms. Each is a statement: it holds since a public function's contract
-- names it.
use Rattle.std.specs.Prelude.{◌≡◌, ℕ, ◌+◌, ◌≤◌, List, length, map, take}
use Rattle.std.specs.List.{AllByRecursion}
use Rattle.flashbase.specs.Ranges.{AreBytes}
use Rattle.jnode.specs.declared.order.Endian.{Endian}
use Rattle.jscan.specs.Pages.{page_size}
use Rattle.jsteps.specs.Laws.{OpFits}
use Rattle.jsteps.specs.Refusals.{steps_of_first}
use Rattle.jsteps.specs.Steps.{bytes, after}
use Rattle.jsteps.specs.declared.op.Op.{Op}
use Rattle.jview.specs.Through.{MountsThroughAs}
use Rattle.jlog.specs.HeadlineThrough.{state_through, IsBaseThrough, index_through}
use Rattle.jlog.specs.Left.{IsLeft}
use Rattle.jlog.specs.Output.{output}
use Rattle.jlog.specs.declared.start.Flash.{Flash}
use Rattle.jpacked.specs.declared.choice.NodeForms.{NodeForms}
use Rattle.jcuts.specs.Cuts.{Asked}
use Rattle.jcuts.specs.Laws.{count_standing}
use Rattle.jcuts.specs.Lines.{weak_count}
use Rattle.jstops.specs.Planned.{Forming, HeldPoint, forming_with, form_standings, through_point}
use Rattle.jstops.specs.FormLines.{AdvancesAs, first_forms_told}

-- A line for each form, in order: the lines of the first operations are those of their forms.
abbrev pub LinesAreForms : Type 0
LinesAreForms = (on : Forming) (asked : Asked) (from to : HeldPoint) (n : ℕ)
    (forms : List (List ℕ)) → length asked.lines ≡ length asked.ops
    → AdvancesAs on from asked.ops n forms to
    → map (λ told. told.standing) (first_forms_told on asked from n forms)
    ≡ form_standings on from forms

-- Where no form of accepted operations is weak, a stop after any number of bytes leaves an image
-- that mounts through as the file system after the steps whose forms stand where the bytes below
-- that address were put: the first so many.
abbrev pub StopsSurvive : Type 0
StopsSurvive = (e : Endian) (in_forms : NodeForms) (flash : Flash) (n : ℕ) (base : List ℕ)
    (ops : List Op) (forms : List (List ℕ)) (to : HeldPoint)
    → page_size flash.page + 80 ≤ flash.geometry.block
    → IsBaseThrough e flash.geometry.block flash.blocks base
    → AreBytes base → AllByRecursion OpFits ops
    → let on = forming_with e in_forms flash in
    let from = through_point e flash base in
    let told = form_standings on from forms in
    let out = output e flash.geometry.block from.address forms in
    AdvancesAs on from ops n forms to → weak_count told ≡ 0
    → (k : ℕ) (image : List ℕ) → k ≤ length out
    → IsLeft e flash.geometry.block flash.blocks base from.address out k image
    → MountsThroughAs e flash.geometry.block image
    (after bytes (state_through e flash.geometry.block base)
    (take (count_standing (from.address + k) told)
    (steps_of_first (page_size flash.page) (index_through e flash.geometry.block base) ops n)))
