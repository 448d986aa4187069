-- What is told of forms in openings has a line for each, and survives a stop.
use Rattle.std.proofs.Common.{◌≡◌, ℕ, ◌+◌, ◌%◌, ◌≤◌, List, length, map, take, subst, sym, ◌∙◌, arith}
use Rattle.std.specs.Prelude.{IsTrue}
use Rattle.std.specs.List.{AllByRecursion, flat_map}
use Rattle.std.proofs.lemmas.List.{length-take-le}
use Rattle.jnode.specs.declared.order.Endian.{Endian}
use Rattle.jscan.specs.Image.{is_block_size}
use Rattle.jscan.specs.Pages.{page_size}
use Rattle.jsteps.specs.Laws.{GoesOn}
use Rattle.jsteps.specs.Refusals.{plans_of, steps_of_first}
use Rattle.jsteps.specs.Steps.{bytes, after}
use Rattle.jsteps.specs.declared.op.Op.{Op}
use Rattle.jsteps.specs.declared.step.Step.{Step}
use Rattle.jsteps.proofs.FewLemmas.{sizes_are_pages}
use Rattle.jsteps.proofs.GoesOnLemmas.{planned_goes_on}
use Rattle.jexpand.specs.Expanded.{expanded_nodes, unpacked_bytes}
use Rattle.jview.specs.Through.{MountsThroughAs}
use Rattle.jlog.specs.Through.{form_content}
use Rattle.jlog.specs.HeadlineThrough.{state_through, index_through, nodes_through}
use Rattle.jlog.specs.Laws.{FitsBlock}
use Rattle.jlog.proofs.HeadlineLemmas.{planned_loggable}
use Rattle.jlog.proofs.HeadlineThroughLemmas.{all_fit_through, through_size}
use Rattle.jlog.proofs.ImageLemmas.{block_size}
use Rattle.jlog.proofs.LeftLemmas.{forms_have_room, storable_forms}
use Rattle.jlog.proofs.PackedLemmas.{forms_carry}
use Rattle.jcuts.specs.Laws.{count_standing}
use Rattle.jcuts.proofs.JoinLemmas.{plans_most}
use Rattle.jrests.specs.Left.{whole_in_shares}
use Rattle.jrests.specs.Openings.{AreOpeningsOf}
use Rattle.jrests.specs.Shares.{Share, shares}
use Rattle.jrests.specs.Survives.{AreAcceptedInOpenings}
use Rattle.jrests.specs.declared.opening.Opening.{Opening}
use Rattle.jrests.proofs.SurviveLemmas.{forms_survive_in_openings}
use Rattle.jopenings.proofs.StretchLemmas.{shares_are_stretches}
use Rattle.jdevice.specs.declared.running.DevicePlan.{DevicePlan}
use Rattle.jdevice.proofs.TakenLemmas.{taken_are_openings}
use Rattle.jstops.proofs.FormLemmas.{as_forms, as_many}
use Rattle.jstops.proofs.ToldLemmas.{told_are}
use Rattle.jhalts.specs.HaltLaws.{HaltsSurvive, LinesAreRowForms}
use Rattle.jhalts.specs.InRow.{RowPoint, device_point, forming_on, row_standings}
use Rattle.jhalts.specs.InShares.{standings_in_shares, stop_address}
use Rattle.jhalts.specs.RowLines.{AdvancesIn}
use Rattle.jhalts.proofs.CountLemmas.{none_weak, stops_are_counted}
use Rattle.jhalts.proofs.StandingLemmas.{standings_many}

pub lines_are_forms_in_row : LinesAreRowForms
lines_are_forms_in_row on asked from to n forms same_long leads =
    let page : ℕ = on.flash.page in
    let plans : List (List Step) = plans_of page from.index asked.ops in
    let many : length (take n plans) ≡ n = length-take-le n plans leads.planned in
    told_are (take n plans) asked.lines (row_standings on from forms) (omega (arith, many, same_long, plans_most page from.index asked.ops, leads.planned))
    (standings_many on.flash.order on.flash.size from.row forms leads.fits ∙ as_many on.packs on.flash.order from.index (steps_of_first page from.index asked.ops n) forms leads.are)

-- accepted operations are accepted as the headline says
accepted : (e : Endian) (on : DevicePlan) (n : ℕ) (base : List ℕ) (ops : List Op) (forms : List (List ℕ)) (to : RowPoint)
    → AdvancesIn (forming_on e on) (device_point e on base) ops n forms to
    → AreAcceptedInOpenings (page_size on.flash.page) e on.flash.geometry.block base (device_point e on base).row ops n forms
accepted e on n base ops forms to leads =
    let size : ℕ = on.flash.geometry.block in
    let steps : List Step = steps_of_first (page_size on.flash.page) (index_through e size base) ops n in
    let held : to.held ≡ length (unpacked_bytes e size base) + length (flat_map (form_content e) forms) = leads.held in
    record {
      planned = leads.planned;
      forms_in = record {
        are = as_forms (forming_on e on).packs e (nodes_through e size base steps) forms leads.are;
        fits = leads.fits;
        contents = omega (arith, held, leads.contents);
      };
    }

pub halts_survive : HaltsSurvive
halts_survive e on n base ops forms to room is_base are_bytes fit_ops leads none k image within left =
    let size : ℕ = on.flash.geometry.block in
    let blocks : ℕ = on.flash.blocks in
    let page : ℕ = page_size on.flash.page in
    let row : List Opening = (device_point e on base).row in
    let steps : List Step = steps_of_first page (index_through e size base) ops n in
    let ss : List Share = shares size row forms in
    let is_page = sizes_are_pages on.flash.page in
    let opens : AreOpeningsOf e size blocks base row = taken_are_openings on.tail e size blocks base in
    let sized : IsTrue (is_block_size size) = through_size e size blocks base is_base in
    let words : size % 4 ≡ 0 = (block_size size sized).words in
    let go : GoesOn page (expanded_nodes e size base) steps = planned_goes_on page (expanded_nodes e size base) ops n is_page (all_fit_through e size base sized are_bytes) is_base.mounts.root fit_ops in
    let taken = accepted e on n base ops forms to leads in
    let carry = forms_carry e size (nodes_through e size base steps) forms (planned_loggable page e size (nodes_through e size base steps) is_page room (go.written e)) taken.forms_in.are in
    let roomy : AllByRecursion (FitsBlock size) forms = forms_have_room e size forms (storable_forms e size forms carry.loggable) in
    let count : count_standing (stop_address e size ss k) (standings_in_shares e size ss) ≡ whole_in_shares e size ss k =
    stops_are_counted e size 0 blocks k row forms words roomy (shares_are_stretches e size blocks base row forms sized opens roomy) within in
    subst (λ (i : ℕ). MountsThroughAs e size image (after bytes (state_through e size base) (take i steps))) (sym count)
    ((forms_survive_in_openings page e size blocks n base row ops forms is_page room is_base are_bytes fit_ops opens taken).cuts (none_weak e size row forms leads.fits none) k image left)
