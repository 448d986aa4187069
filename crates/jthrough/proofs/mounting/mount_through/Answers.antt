use Rattle.std.proofs.Common.{rules, ◌≡◌, Err, sym, subst}
use Rattle.jthrough.specs.MountsThrough.{AnswersThrough}
use Rattle.jthrough.proofs.MountLemmas.{unviewed_answers}
use Rattle.jthrough.proofs.mounting.mount_through.Goals as goal

pub returns-in_err-view : goal.returns-in_err-view
returns-in_err-view g c =
    let same : c.from_residual.result ≡ Err c.in_err-view.field-0.0 = search rules in
    subst (λ r. AnswersThrough g.E.Order.order c.args.geometry.block c.args.image.now r) (sym same)
    (unviewed_answers g.E.Order.order c.args.geometry.block c.args.image.now c.in_err-view.field-0.0 c.in_err-view.ensures.err)
