use Rattle.std.proofs.Common.{◌≡◌, ◌∙◌, Bool, List, ap, sym, subst, Some}
use Rattle.std.specs.Prelude.{IfOk}
use Rattle.jmount.specs.Mount.{Mount}
use Rattle.jlog.specs.declared.start.Flash.{Flash}
use Rattle.jrests.specs.declared.opening.Opening.{Opening}
use Rattle.jupdate.specs.View.{IsBegunIn}
use Rattle.jcalls.specs.Updating.{IsUpdatedOn, openings_on}
use Rattle.jcalls.proofs.UpdatingLemmas.{all_openings, gone_on}
use Rattle.jcalls.proofs.updating.update_mounted.Goals as goal

pub openings_of-requires-clause-readable : goal.openings_of-requires-clause-readable
openings_of-requires-clause-readable g c = (gone_on g.E.Order.order c.args.flash c.args.mounted.now c.requires.goes_on).readable

pub openings_of-requires-clause-small : goal.openings_of-requires-clause-small
openings_of-requires-clause-small g c = (gone_on g.E.Order.order c.args.flash c.args.mounted.now c.requires.goes_on).small

pub resume-requires-clause-row : goal.resume-requires-clause-row
resume-requires-clause-row g c =
    let e = g.E.Order.order in
    let m : Mount = c.args.mounted.now in
    all_openings e c.args.flash m.image c.in-Ok.row.items (c.in-Ok.ensures ∙ ap (openings_on e c.args.flash) c.image.ensures)

pub update_in_session-requires-clause-begun : goal.update_in_session-requires-clause-begun
update_in_session-requires-clause-begun g c =
    let e = g.E.Order.order in
    let m : Mount = c.args.mounted.now in
    let flash : Flash = c.args.flash in
    let session = c.in-Ok-resume.session in
    let begun = c.in-Ok-resume.ensures.begun in
    let row : c.in-Ok.row.items ≡ openings_on e flash m.image = c.in-Ok.ensures ∙ ap (openings_on e flash) c.image.ensures in
    subst (λ (r : List Opening). IsBegunIn m flash r session.log.sink session) row
    (subst (λ k. IsBegunIn m flash c.in-Ok.row.items k session) (sym begun.of.sink) begun)

pub update_in_session-requires-clause-sink : goal.update_in_session-requires-clause-sink
update_in_session-requires-clause-sink g c =
    let begun = c.in-Ok-resume.ensures.begun in
    ap (λ k. Some k.writer.items) begun.of.sink ∙ (c.new-sink.ensures.taken ∙ ap Some c.new.ensures.items)

pub update_in_session-requires-clause-none_failed : goal.update_in_session-requires-clause-none_failed
update_in_session-requires-clause-none_failed g c =
    let begun = c.in-Ok-resume.ensures.begun in
    ap (λ k. k.failures) begun.of.sink ∙ c.new-sink.ensures.failures

pub returns-in-Ok-resume-clause-ok : goal.returns-in-Ok-resume-clause-ok
returns-in-Ok-resume-clause-ok g c =
    let m : Mount = c.args.mounted.now in
    subst (λ (p : Bool). IfOk c.update_in_session.result (λ made. IsUpdatedOn g.E.Order.order c.args.flash p m.image c.args.planned.now.ops.items c.args.planned.now.numbers.items made.bytes.items made.row))
    (c.in-Ok-resume.ensures.packs ∙ c.forms_by-forms.ensures) c.update_in_session.ensures.ok
