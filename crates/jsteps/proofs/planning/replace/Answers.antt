use Rattle.std.proofs.Common.{◌∙◌, arith, ap, ◌≤◌, [], ◌∷◌, refl, false}
use Rattle.std.specs.Prelude.{◌&&◌, ◌==◌, bytes_eq}
use Rattle.jsteps.specs.Site.{IsSiteOf}
use Rattle.jsteps.specs.Where.{end_or_zero}
use Rattle.jsteps.specs.declared.op.Op.TheVariants as op
use Rattle.jsteps.specs.declared.step.Step.TheVariants as step
use Rattle.jsteps.proofs.PlannedLemmas.{bad_of_both, good_of_both, bad_plan, answer_refused, answer_spent, answer_none}
use Rattle.jsteps.proofs.ReplaceLemmas.{replace_from, from_one, from_two}
use Rattle.jsteps.proofs.planning.replace.Goals as goal

pub returns-in_default : goal.returns-in_default
returns-in_default c = λ page h.
    bad_plan page c.args.index.now (op.Replace c.args.time c.args.old.now c.args.new.now)
    (bad_of_both c.args.index.now.tree c.args.old.now c.args.new.now c.in_ok-from.field-0 c.in_ok-from.ensures c.in_default.is)

pub returns-in-Some-first : goal.returns-in-Some-first
returns-in-Some-first c = λ page h.
    let sites : IsSiteOf c.args.index.now.tree c.args.old.now c.in-Some.from × IsSiteOf c.args.index.now.tree c.args.new.now c.in-Some.to =
    good_of_both c.args.index.now.tree c.args.old.now c.args.new.now c.in_ok-from.field-0 (c.in-Some.from, c.in-Some.to) c.in_ok-from.ensures c.in-Some.is in
    let le : c.end_of-directory.result ≤ 0xFFFFFFFF = omega arith in
    let le_left : c.end_of-left.result ≤ 0xFFFFFFFF = omega arith in
    answer_refused (replace_from page c.args.index.now c.args.time c.args.old.now c.args.new.now c.in-Some.from c.in-Some.to
    ((end_or_zero c.in-Some.from.above == end_or_zero c.in-Some.to.above) && bytes_eq c.in-Some.from.last.now c.in-Some.to.last.now) c.end_of-directory.result c.end_of-left.result c.unwrap_or-ino.result sites.0 sites.1
    refl c.end_of-directory.ensures le c.end_of-left.ensures le_left c.unwrap_or-ino.ensures)
    c.tests_of_replaced.result c.first.result c.in-Some-first.fault c.tests_of_replaced.ensures c.first.ensures c.in-Some-first.is

pub returns-then-is_one_entry : goal.returns-then-is_one_entry
returns-then-is_one_entry c = λ page.
    let sites : IsSiteOf c.args.index.now.tree c.args.old.now c.in-Some.from × IsSiteOf c.args.index.now.tree c.args.new.now c.in-Some.to =
    good_of_both c.args.index.now.tree c.args.old.now c.args.new.now c.in_ok-from.field-0 (c.in-Some.from, c.in-Some.to) c.in_ok-from.ensures c.in-Some.is in
    let le : c.end_of-directory.result ≤ 0xFFFFFFFF = omega arith in
    let le_left : c.end_of-left.result ≤ 0xFFFFFFFF = omega arith in
    answer_none (from_one _ _ c.is_one_entry.result (replace_from page c.args.index.now c.args.time c.args.old.now c.args.new.now c.in-Some.from c.in-Some.to
    c.is_one_entry.result c.end_of-directory.result c.end_of-left.result c.unwrap_or-ino.result sites.0 sites.1
    c.is_one_entry.ensures c.end_of-directory.ensures le c.end_of-left.ensures le_left c.unwrap_or-ino.ensures) c.if-is_one_entry.true)
    c.tests_of_replaced.result c.first.result false c.new.result.items c.tests_of_replaced.ensures c.first.ensures c.in_default-first.is refl refl c.new.ensures.items

pub returns-then-are_spent : goal.returns-then-are_spent
returns-then-are_spent c = λ page h.
    let sites : IsSiteOf c.args.index.now.tree c.args.old.now c.in-Some.from × IsSiteOf c.args.index.now.tree c.args.new.now c.in-Some.to =
    good_of_both c.args.index.now.tree c.args.old.now c.args.new.now c.in_ok-from.field-0 (c.in-Some.from, c.in-Some.to) c.in_ok-from.ensures c.in-Some.is in
    let le : c.end_of-directory.result ≤ 0xFFFFFFFF = omega arith in
    let le_left : c.end_of-left.result ≤ 0xFFFFFFFF = omega arith in
    answer_spent (from_two c.is_one_entry.result (replace_from page c.args.index.now c.args.time c.args.old.now c.args.new.now c.in-Some.from c.in-Some.to
    c.is_one_entry.result c.end_of-directory.result c.end_of-left.result c.unwrap_or-ino.result sites.0 sites.1
    c.is_one_entry.ensures c.end_of-directory.ensures le c.end_of-left.ensures le_left c.unwrap_or-ino.ensures) c.if-is_one_entry.false)
    c.tests_of_replaced.result c.first.result c.are_spent.result c.tests_of_replaced.ensures c.first.ensures c.in_default-first.is c.are_spent.ensures c.if-are_spent.true

pub returns : goal.returns
returns c = λ page.
    let sites : IsSiteOf c.args.index.now.tree c.args.old.now c.in-Some.from × IsSiteOf c.args.index.now.tree c.args.new.now c.in-Some.to =
    good_of_both c.args.index.now.tree c.args.old.now c.args.new.now c.in_ok-from.field-0 (c.in-Some.from, c.in-Some.to) c.in_ok-from.ensures c.in-Some.is in
    let le : c.end_of-directory.result ≤ 0xFFFFFFFF = omega arith in
    let le_left : c.end_of-left.result ≤ 0xFFFFFFFF = omega arith in
    answer_none (from_two c.is_one_entry.result (replace_from page c.args.index.now c.args.time c.args.old.now c.args.new.now c.in-Some.from c.in-Some.to
    c.is_one_entry.result c.end_of-directory.result c.end_of-left.result c.unwrap_or-ino.result sites.0 sites.1
    c.is_one_entry.ensures c.end_of-directory.ensures le c.end_of-left.ensures le_left c.unwrap_or-ino.ensures) c.if-is_one_entry.false)
    c.tests_of_replaced.result c.first.result c.are_spent.result c.in_ok-two.field-0.items c.tests_of_replaced.ensures c.first.ensures c.in_default-first.is c.are_spent.ensures c.if-are_spent.false
    (c.in_ok-two.ensures ∙ ap (λ s. s ∷ c.clear_name-cleared.result ∷ []) c.set_name-named.ensures
    ∙ ap (λ s. step.SetName c.args.time c.end_of-directory.result c.in-Some.to.last.now c.unwrap_or-ino.result ∷ s ∷ []) c.clear_name-cleared.ensures)
