use Rattle.std.proofs.Common.{rules, ◌≡◌, Err, sym, subst}
use Rattle.std.specs.Prelude.{IfErr}
use Rattle.jlook.specs.Chosen.{object_by_path, IsNoLook}
use Rattle.jlook.proofs.ChosenLemmas.{first_chosen, first_without}
use Rattle.jlook.proofs.chosen.find_object.Goals as goal

pub returns-in_err-mounted-clause-err : goal.returns-in_err-mounted-clause-err
returns-in_err-mounted-clause-err g c =
    let same : c.from_residual.result ≡ Err c.in_err-mounted.field-0.0 = search rules in
    subst (λ r. IfErr r (IsNoLook g.E.Order.order c.args.geometry.block c.args.image.now)) (sym same) c.in_err-mounted.ensures

pub returns-in-Ok-clause-found : goal.returns-in-Ok-clause-found
returns-in-Ok-clause-found g c =
    first_chosen (object_by_path c.args.path.now) g.E.Order.order c.args.geometry.block c.args.image.now c.in-Ok.numbers c.in_ok-mounted.mounted c.in_ok-mounted.ensures c.in-Ok.ensures

pub returns-clause-err : goal.returns-clause-err
returns-clause-err g c =
    first_without g.E.Order.order c.args.geometry.block c.args.image.now c.in_ok-mounted.mounted c.in_ok-mounted.ensures
