use Rattle.std.proofs.Common.{rules, ◌≡◌, Err, sym, subst}
use Rattle.std.specs.BTreeSet.{contains}
use Rattle.std.specs.Ordering.{nat_cmp}
use Rattle.jlook.specs.Looked.{looked_tiles}
use Rattle.jlook.specs.Looks.{AnswersLook}
use Rattle.jlook.proofs.MountLemmas.{unlooked_answers}
use Rattle.jlook.proofs.mounting.mount_looked.Goals as goal

pub returns-in_err-sighted : goal.returns-in_err-sighted
returns-in_err-sighted g c =
    let same : c.from_residual.result ≡ Err c.in_err-sighted.field-0.0 = search rules in
    subst (λ r. AnswersLook (contains nat_cmp c.args.wanted.now) g.E.Order.order c.args.geometry.block c.args.image.now r) (sym same)
    (unlooked_answers g.E.Order.order c.args.geometry.block c.args.image.now (looked_tiles (contains nat_cmp c.args.wanted.now) g.E.Order.order c.args.geometry.block c.args.image.now)
    c.in_err-sighted.field-0.0 c.in_err-sighted.ensures.err)
