use Rattle.std.proofs.Common.{rules, ◌≡◌, Err, sym, subst, inl}
use Rattle.std.specs.Prelude.{Ok, IfSome}
use Rattle.jthrough.specs.declared.fault.ViewFault.TheVariants.{OutOfMemory}
use Rattle.jlook.specs.Chosen.{symlinks_in, AnswersChosen, nothing_wanted}
use Rattle.jlook.specs.Looked.{looked_tiles}
use Rattle.jlook.proofs.ChosenLemmas.{second_answers}
use Rattle.jlook.proofs.MountLemmas.{unlooked_answers}
use Rattle.jlook.proofs.chosen.mount_tree.Goals as goal

pub returns-in_err-sighted : goal.returns-in_err-sighted
returns-in_err-sighted g c =
    let same : c.from_residual.result ≡ Err c.in_err-sighted.field-0.0 = search rules in
    subst (λ r. AnswersChosen symlinks_in g.E.Order.order c.args.geometry.block c.args.image.now r) (sym same)
    (inl (unlooked_answers g.E.Order.order c.args.geometry.block c.args.image.now (looked_tiles nothing_wanted g.E.Order.order c.args.geometry.block c.args.image.now)
    c.in_err-sighted.field-0.0 c.in_err-sighted.ensures.err))

pub returns-in_err-at_once : goal.returns-in_err-at_once
returns-in_err-at_once g c =
    let same : c.from_residual-in_err-at_once.result ≡ Err OutOfMemory = search rules in
    subst (λ r. AnswersChosen symlinks_in g.E.Order.order c.args.geometry.block c.args.image.now r) (sym same) (inl c.in_ok-sighted.ensures.sighted.scannable)

pub returns-in-Some : goal.returns-in-Some
returns-in-Some g c =
    subst (λ o. IfSome o (λ m. AnswersChosen symlinks_in g.E.Order.order c.args.geometry.block c.args.image.now (Ok m))) c.in-Some.is c.in_ok-at_once.ensures

pub returns-in_err-numbers : goal.returns-in_err-numbers
returns-in_err-numbers g c =
    let same : c.from_residual-in_err-numbers.result ≡ Err c.in_err-numbers.field-0.0 = search rules in
    subst (λ r. AnswersChosen symlinks_in g.E.Order.order c.args.geometry.block c.args.image.now r) (sym same) (inl c.in_err-numbers.ensures.err)

pub returns : goal.returns
returns g c =
    second_answers symlinks_in g.E.Order.order c.args.geometry.block c.args.image.now c.in_ok-numbers.numbers c.mount_sighted.result c.in_ok-numbers.ensures.found c.mount_sighted.ensures
