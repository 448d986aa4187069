-- Laws of what is told of forms in openings. Each is a statement: it holds since a public
-- function's contract names it.
use Rattle.std.specs.Prelude.{◌≡◌, ℕ, ◌+◌, ◌≤◌, List, length, map, take}
use Rattle.std.specs.List.{AllByRecursion}
use Rattle.flashbase.specs.Ranges.{AreBytes}
use Rattle.jnode.specs.declared.order.Endian.{Endian}
use Rattle.jscan.specs.Pages.{page_size}
use Rattle.jsteps.specs.Laws.{OpFits}
use Rattle.jsteps.specs.Refusals.{steps_of_first}
use Rattle.jsteps.specs.Steps.{bytes, after}
use Rattle.jsteps.specs.declared.op.Op.{Op}
use Rattle.jview.specs.Through.{MountsThroughAs}
use Rattle.jlog.specs.HeadlineThrough.{state_through, IsBaseThrough, index_through}
use Rattle.jcuts.specs.Cuts.{Asked}
use Rattle.jcuts.specs.Laws.{count_standing}
use Rattle.jcuts.specs.Lines.{weak_count}
use Rattle.jrests.specs.Left.{IsLeftOfShares, all_bytes}
use Rattle.jrests.specs.Shares.{shares}
use Rattle.jdevice.specs.declared.running.DevicePlan.{DevicePlan}
use Rattle.jstops.specs.Planned.{Forming}
use Rattle.jhalts.specs.InRow.{RowPoint, device_point, forming_on, row_standings}
use Rattle.jhalts.specs.InShares.{stop_address}
use Rattle.jhalts.specs.RowLines.{AdvancesIn, first_row_told}

-- A line for each form, in order: the lines of the first operations are those of their forms.
abbrev pub LinesAreRowForms : Type 0
LinesAreRowForms = (on : Forming) (asked : Asked) (from to : RowPoint) (n : ℕ)
    (forms : List (List ℕ)) → length asked.lines ≡ length asked.ops
    → AdvancesIn on from asked.ops n forms to
    → map (λ told. told.standing) (first_row_told on asked from n forms)
    ≡ row_standings on from forms

-- Where no form of accepted operations is weak, a stop of `update` after any number of bytes that
-- it puts out leaves an image that mounts through as the file system after the steps whose forms
-- stand from the address of the stop, or from one below it: the first so many.
abbrev pub HaltsSurvive : Type 0
HaltsSurvive = (e : Endian) (on : DevicePlan) (n : ℕ) (base : List ℕ)
    (ops : List Op) (forms : List (List ℕ)) (to : RowPoint)
    → page_size on.flash.page + 80 ≤ on.flash.geometry.block
    → IsBaseThrough e on.flash.geometry.block on.flash.blocks base
    → AreBytes base → AllByRecursion OpFits ops
    → let size = on.flash.geometry.block in
    let from = device_point e on base in
    let told = row_standings (forming_on e on) from forms in
    let out = shares size from.row forms in
    AdvancesIn (forming_on e on) from ops n forms to → weak_count told ≡ 0
    → (k : ℕ) (image : List ℕ) → k ≤ all_bytes e size out
    → IsLeftOfShares e size on.flash.blocks base out k image
    → MountsThroughAs e size image (after bytes (state_through e size base)
    (take (count_standing (stop_address e size out k) told)
    (steps_of_first (page_size on.flash.page) (index_through e size base) ops n)))
