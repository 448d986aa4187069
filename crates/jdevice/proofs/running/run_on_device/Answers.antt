use Rattle.std.proofs.Common.{◌≡◌, ◌∙◌, List, ap, sym, subst, Some}
use Rattle.jmount.specs.Mount.{Mount}
use Rattle.jrests.specs.Openings.{AreOpeningsOf}
use Rattle.jrests.specs.declared.opening.Opening.{Opening}
use Rattle.jupdate.specs.View.{IsBegunIn}
use Rattle.jdevice.specs.Run.{openings_planned}
use Rattle.jdevice.specs.declared.running.DevicePlan.{DevicePlan}
use Rattle.jdevice.proofs.RunLemmas.{gone_on}
use Rattle.jdevice.proofs.TakenLemmas.{taken_are_openings}
use Rattle.jdevice.proofs.running.run_on_device.Goals as goal

pub openings_taken-requires-clause-readable : goal.openings_taken-requires-clause-readable
openings_taken-requires-clause-readable g c = (gone_on g.E.Order.order c.args.on.flash c.args.mounted.now c.requires.goes_on).readable

pub openings_taken-requires-clause-small : goal.openings_taken-requires-clause-small
openings_taken-requires-clause-small g c = (gone_on g.E.Order.order c.args.on.flash c.args.mounted.now c.requires.goes_on).small

pub resume-requires-clause-row : goal.resume-requires-clause-row
resume-requires-clause-row g c =
    let e = g.E.Order.order in
    let on : DevicePlan = c.args.on in
    let m : Mount = c.args.mounted.now in
    let row : c.in_ok-row.row.items ≡ openings_planned e on m.image = c.in_ok-row.ensures ∙ ap (openings_planned e on) c.image.ensures in
    subst (AreOpeningsOf e on.flash.geometry.block on.flash.blocks m.image) (sym row) (taken_are_openings on.tail e on.flash.geometry.block on.flash.blocks m.image)

pub run_in_session-requires-clause-begun : goal.run_in_session-requires-clause-begun
run_in_session-requires-clause-begun g c =
    let e = g.E.Order.order in
    let on : DevicePlan = c.args.on in
    let m : Mount = c.args.mounted.now in
    let session = c.in-Ok.session in
    let begun = c.in-Ok.ensures.begun in
    let row : c.in_ok-row.row.items ≡ openings_planned e on m.image = c.in_ok-row.ensures ∙ ap (openings_planned e on) c.image.ensures in
    subst (λ (r : List Opening). IsBegunIn m on.flash r session.log.sink session) row
    (subst (λ k. IsBegunIn m on.flash c.in_ok-row.row.items k session) (sym begun.of.sink) begun)

pub run_in_session-requires-clause-packs : goal.run_in_session-requires-clause-packs
run_in_session-requires-clause-packs g c = c.in-Ok.ensures.packs ∙ c.forms_of-forms.ensures

pub run_in_session-requires-clause-sink : goal.run_in_session-requires-clause-sink
run_in_session-requires-clause-sink g c =
    let begun = c.in-Ok.ensures.begun in
    ap (λ k. Some k.writer.items) begun.of.sink ∙ (c.new-sink.ensures.taken ∙ ap Some c.new.ensures.items)

pub run_in_session-requires-clause-none_failed : goal.run_in_session-requires-clause-none_failed
run_in_session-requires-clause-none_failed g c =
    let begun = c.in-Ok.ensures.begun in
    ap (λ k. k.failures) begun.of.sink ∙ c.new-sink.ensures.failures
