use Rattle.std.proofs.Common.{rules, ◌≡◌, Err, sym, subst, inl}
use Rattle.jlook.specs.Chosen.{object_by_path, AnswersChosen, nothing_wanted}
use Rattle.jlook.specs.Looked.{looked_tiles}
use Rattle.jlook.proofs.ChosenLemmas.{second_answers}
use Rattle.jlook.proofs.MountLemmas.{unlooked_answers}
use Rattle.jlook.proofs.chosen.mount_object.Goals as goal

pub returns-in_err-sighted : goal.returns-in_err-sighted
returns-in_err-sighted g c =
    let same : c.from_residual.result ≡ Err c.in_err-sighted.field-0.0 = search rules in
    subst (λ r. AnswersChosen (object_by_path c.args.path.now) g.E.Order.order c.args.geometry.block c.args.image.now r) (sym same)
    (inl (unlooked_answers g.E.Order.order c.args.geometry.block c.args.image.now (looked_tiles nothing_wanted g.E.Order.order c.args.geometry.block c.args.image.now)
    c.in_err-sighted.field-0.0 c.in_err-sighted.ensures.err))

pub returns-in_err-numbers : goal.returns-in_err-numbers
returns-in_err-numbers g c =
    let same : c.from_residual-in_err-numbers.result ≡ Err c.in_err-numbers.field-0.0 = search rules in
    subst (λ r. AnswersChosen (object_by_path c.args.path.now) g.E.Order.order c.args.geometry.block c.args.image.now r) (sym same) (inl c.in_err-numbers.ensures.err)

pub returns : goal.returns
returns g c =
    second_answers (object_by_path c.args.path.now) g.E.Order.order c.args.geometry.block c.args.image.now c.in_ok-numbers.numbers c.mount_sighted.result c.in_ok-numbers.ensures.found c.mount_sighted.ensures
