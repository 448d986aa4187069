use Rattle.std.proofs.Common.{◌≡◌, ◌∙◌, List, ap, not, subst, sym, refl}
use Rattle.jscan.specs.Pages.{page_size}
use Rattle.jmount.specs.Mount.{Mount}
use Rattle.jrests.specs.Openings.{AreOpeningsOf}
use Rattle.jupdate.specs.View.{left_of, packs_of}
use Rattle.jdevice.specs.Run.{openings_planned}
use Rattle.jdevice.specs.declared.running.DevicePlan.{DevicePlan}
use Rattle.jdevice.proofs.RunLemmas.{gone_on, index_same}
use Rattle.jdevice.proofs.TakenLemmas.{taken_are_openings}
use Rattle.jstops.proofs.PlannedLemmas.{forming_at}
use Rattle.jhalts.proofs.PlannedLemmas.{begins_unwritten, point_at}
use Rattle.jhalts.proofs.halts.plan_from.Goals as goal

pub openings_taken-requires-clause-readable : goal.openings_taken-requires-clause-readable
openings_taken-requires-clause-readable g c = (gone_on g.E.Order.order c.args.on.flash c.args.mounted.now c.requires.goes_on).readable

pub openings_taken-requires-clause-small : goal.openings_taken-requires-clause-small
openings_taken-requires-clause-small g c = (gone_on g.E.Order.order c.args.on.flash c.args.mounted.now c.requires.goes_on).small

pub resume-requires-clause-row : goal.resume-requires-clause-row
resume-requires-clause-row g c =
    let e = g.E.Order.order in
    let on : DevicePlan = c.args.on in
    let m : Mount = c.args.mounted.now in
    let row : c.in_ok-row.row.items ≡ openings_planned e on m.image = c.in_ok-row.ensures ∙ ap (openings_planned e on) c.image.ensures in
    subst (AreOpeningsOf e on.flash.geometry.block on.flash.blocks m.image) (sym row) (taken_are_openings on.tail e on.flash.geometry.block on.flash.blocks m.image)

pub returns-in-Ok-clause-fresh : goal.returns-in-Ok-clause-fresh
returns-in-Ok-clause-fresh g c =
    let of = c.in-Ok.ensures.begun.of in
    let plan = c.in-Ok.plan in
    record {
      whole = of.whole;
      none = ap (λ h. h.bytes.items) of.sink ∙ c.new-held.ensures;
      left = of.left ∙ sym (begins_unwritten plan.log.stretches.items c.in_ok-row.row.items of.stretches);
      size = of.block;
      count = of.blocks;
    }

pub returns-in-Ok-clause-forming : goal.returns-in-Ok-clause-forming
returns-in-Ok-clause-forming g c =
    let of = c.in-Ok.ensures.begun.of in
    let plan = c.in-Ok.plan in
    let flash = c.args.on.flash in
    forming_at (packs_of plan) (not c.args.on.plain) (page_size plan.page) (page_size flash.page) g.E.Order.order plan.block flash.geometry.block plan.blocks flash.blocks
    (c.in-Ok.ensures.packs ∙ c.forms_of-forms.ensures) (ap page_size of.page) of.block of.blocks

pub returns-in-Ok-clause-point : goal.returns-in-Ok-clause-point
returns-in-Ok-clause-point g c =
    let e = g.E.Order.order in
    let on : DevicePlan = c.args.on in
    let begun = c.in-Ok.ensures.begun in
    let of = begun.of in
    let plan = c.in-Ok.plan in
    let m : Mount = c.args.mounted.now in
    let row : c.in_ok-row.row.items ≡ openings_planned e on m.image = c.in_ok-row.ensures ∙ ap (openings_planned e on) c.image.ensures in
    point_at (left_of plan) (openings_planned e on m.image) plan.log.index _ plan.held _ (of.left ∙ row)
    (index_same (page_size plan.page) e plan.block on.flash.geometry.block m.image plan.log.index of.block begun.begins.goes_on.index_is) of.held
