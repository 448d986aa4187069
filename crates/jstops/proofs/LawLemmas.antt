-- What is told of forms has a line for each, and survives a stop.
use Rattle.std.proofs.Common.{◌≡◌, ℕ, ◌+◌, ◌≤◌, List, length, take, ◌∙◌, arith}
use Rattle.std.specs.List.{flat_map}
use Rattle.std.proofs.lemmas.List.{length-take-le}
use Rattle.jnode.specs.declared.order.Endian.{Endian}
use Rattle.jscan.specs.Pages.{page_size}
use Rattle.jsteps.specs.Refusals.{plans_of, steps_of_first}
use Rattle.jsteps.specs.declared.op.Op.{Op}
use Rattle.jsteps.specs.declared.step.Step.{Step}
use Rattle.jexpand.specs.Expanded.{unpacked_bytes}
use Rattle.jlog.specs.Through.{form_content}
use Rattle.jlog.specs.HeadlineThrough.{index_through, nodes_through, AreAcceptedAs}
use Rattle.jlog.specs.declared.start.Flash.{Flash}
use Rattle.jpacked.specs.Forms.{is_packed}
use Rattle.jpacked.specs.declared.choice.NodeForms.{NodeForms}
use Rattle.jcuts.proofs.JoinLemmas.{plans_most, standings_long}
use Rattle.jcuts.proofs.ToldThroughLemmas.{told_survives_through}
use Rattle.jstops.specs.Planned.{HeldPoint, forming_with, form_standings, through_point}
use Rattle.jstops.specs.FormLines.{AdvancesAs}
use Rattle.jstops.specs.StopLaws.{LinesAreForms, StopsSurvive}
use Rattle.jstops.proofs.FormLemmas.{as_forms, as_many}
use Rattle.jstops.proofs.ToldLemmas.{told_are}

pub lines_are_forms : LinesAreForms
lines_are_forms on asked from to n forms same_long leads =
    let page : ℕ = on.flash.page in
    let plans : List (List Step) = plans_of page from.index asked.ops in
    let many : length (take n plans) ≡ n = length-take-le n plans leads.planned in
    told_are (take n plans) asked.lines (form_standings on from forms) (omega (arith, many, same_long, plans_most page from.index asked.ops, leads.planned))
    (standings_long on.flash.order on.flash.size from.address forms ∙ as_many on.packs on.flash.order from.index (steps_of_first page from.index asked.ops n) forms leads.are)

-- accepted operations of a session are accepted as the headline says
accepted : (e : Endian) (in_forms : NodeForms) (flash : Flash) (n : ℕ) (base : List ℕ) (ops : List Op) (forms : List (List ℕ)) (to : HeldPoint)
    → AdvancesAs (forming_with e in_forms flash) (through_point e flash base) ops n forms to
    → AreAcceptedAs (page_size flash.page) e flash.geometry.block flash.blocks base ops n forms
accepted e in_forms flash n base ops forms to leads =
    let size : ℕ = flash.geometry.block in
    let steps : List Step = steps_of_first (page_size flash.page) (index_through e size base) ops n in
    let held : to.held ≡ length (unpacked_bytes e size base) + length (flat_map (form_content e) forms) = leads.held in
    record {
      planned = leads.planned;
      forms_on = record {
        are = as_forms (is_packed in_forms) e (nodes_through e size base steps) forms leads.are;
        fits = leads.fits;
        contents = omega (arith, held, leads.contents);
      };
    }

pub stops_survive : StopsSurvive
stops_survive e in_forms flash n base ops forms to room is_base are_bytes fit_ops leads none =
    told_survives_through flash.page e flash.geometry.block flash.blocks n base ops forms room is_base are_bytes fit_ops (accepted e in_forms flash n base ops forms to leads) none
