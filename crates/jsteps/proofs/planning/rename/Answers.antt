use Rattle.std.proofs.Common.{◌∙◌, arith, ap, ◌≤◌, [], ◌∷◌}
use Rattle.jsteps.specs.Site.{IsSiteOf}
use Rattle.jsteps.specs.declared.op.Op.TheVariants as op
use Rattle.jsteps.specs.declared.step.Step.TheVariants as step
use Rattle.jsteps.proofs.PlannedLemmas.{bad_of_both, good_of_both, bad_plan, answer_refused, answer_spent, answer_none, rename_from}
use Rattle.jsteps.proofs.planning.rename.Goals as goal

pub returns-in_default : goal.returns-in_default
returns-in_default c = λ page h.
    bad_plan page c.args.index.now (op.Rename c.args.time c.args.old.now c.args.new.now)
    (bad_of_both c.args.index.now.tree c.args.old.now c.args.new.now c.in_ok-from.field-0 c.in_ok-from.ensures c.in_default.is)

pub returns-in-Some-first : goal.returns-in-Some-first
returns-in-Some-first c = λ page h.
    let sites : IsSiteOf c.args.index.now.tree c.args.old.now c.in-Some.from × IsSiteOf c.args.index.now.tree c.args.new.now c.in-Some.to =
    good_of_both c.args.index.now.tree c.args.old.now c.args.new.now c.in_ok-from.field-0 (c.in-Some.from, c.in-Some.to) c.in_ok-from.ensures c.in-Some.is in
    let le : c.end_of-directory.result ≤ 0xFFFFFFFF = omega arith in
    let le_left : c.end_of-left.result ≤ 0xFFFFFFFF = omega arith in
    answer_refused (rename_from page c.args.index.now c.args.time c.args.old.now c.args.new.now c.in-Some.from c.in-Some.to
    c.in_ok-is_into_itself.is_into_itself c.end_of-directory.result c.end_of-left.result c.unwrap_or-ino.result sites.0 sites.1
    c.in_ok-is_into_itself.ensures c.end_of-directory.ensures le c.end_of-left.ensures le_left c.unwrap_or-ino.ensures)
    c.tests_of_name.result c.first.result c.in-Some-first.fault c.tests_of_name.ensures c.first.ensures c.in-Some-first.is

pub returns-then-are_spent : goal.returns-then-are_spent
returns-then-are_spent c = λ page h.
    let sites : IsSiteOf c.args.index.now.tree c.args.old.now c.in-Some.from × IsSiteOf c.args.index.now.tree c.args.new.now c.in-Some.to =
    good_of_both c.args.index.now.tree c.args.old.now c.args.new.now c.in_ok-from.field-0 (c.in-Some.from, c.in-Some.to) c.in_ok-from.ensures c.in-Some.is in
    let le : c.end_of-directory.result ≤ 0xFFFFFFFF = omega arith in
    let le_left : c.end_of-left.result ≤ 0xFFFFFFFF = omega arith in
    answer_spent (rename_from page c.args.index.now c.args.time c.args.old.now c.args.new.now c.in-Some.from c.in-Some.to
    c.in_ok-is_into_itself.is_into_itself c.end_of-directory.result c.end_of-left.result c.unwrap_or-ino.result sites.0 sites.1
    c.in_ok-is_into_itself.ensures c.end_of-directory.ensures le c.end_of-left.ensures le_left c.unwrap_or-ino.ensures)
    c.tests_of_name.result c.first.result c.are_spent.result c.tests_of_name.ensures c.first.ensures c.in_default-first.is c.are_spent.ensures c.if-are_spent.true

pub returns : goal.returns
returns c = λ page.
    let sites : IsSiteOf c.args.index.now.tree c.args.old.now c.in-Some.from × IsSiteOf c.args.index.now.tree c.args.new.now c.in-Some.to =
    good_of_both c.args.index.now.tree c.args.old.now c.args.new.now c.in_ok-from.field-0 (c.in-Some.from, c.in-Some.to) c.in_ok-from.ensures c.in-Some.is in
    let le : c.end_of-directory.result ≤ 0xFFFFFFFF = omega arith in
    let le_left : c.end_of-left.result ≤ 0xFFFFFFFF = omega arith in
    answer_none (rename_from page c.args.index.now c.args.time c.args.old.now c.args.new.now c.in-Some.from c.in-Some.to
    c.in_ok-is_into_itself.is_into_itself c.end_of-directory.result c.end_of-left.result c.unwrap_or-ino.result sites.0 sites.1
    c.in_ok-is_into_itself.ensures c.end_of-directory.ensures le c.end_of-left.ensures le_left c.unwrap_or-ino.ensures)
    c.tests_of_name.result c.first.result c.are_spent.result c.in_ok-two.field-0.items c.tests_of_name.ensures c.first.ensures c.in_default-first.is c.are_spent.ensures c.if-are_spent.false
    (c.in_ok-two.ensures ∙ ap (λ s. s ∷ c.clear_name-clear.result ∷ []) c.set_name-set.ensures
    ∙ ap (λ s. step.SetName c.args.time c.end_of-directory.result c.in-Some.to.last.now c.unwrap_or-ino.result ∷ s ∷ []) c.clear_name-clear.ensures)
