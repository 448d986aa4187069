use Rattle.std.proofs.Common.{◌∙◌, arith, ap, ◌≤◌, [], ◌∷◌, refl, false}
use Rattle.std.specs.Prelude.{not, is_some}
use Rattle.jsteps.specs.Site.{IsSiteOf}
use Rattle.jsteps.specs.declared.op.Op.TheVariants as op
use Rattle.jsteps.proofs.PlannedLemmas.{bad_of, good_of, or_none, bad_plan, answer_refused, answer_spent, answer_none}
use Rattle.jsteps.proofs.ReplaceLemmas.{from_one, from_two}
use Rattle.jsteps.proofs.RemoveIfLemmas.{twice, removed_if_from}
use Rattle.jsteps.proofs.planning.remove_if.Goals as goal

pub returns-in_default : goal.returns-in_default
returns-in_default c = λ page h.
    bad_plan page c.args.index.now (op.RemoveIf c.args.time c.args.path.now)
    (or_none _ ∙ bad_of c.args.index.now.tree c.args.path.now c.in_ok-site.field-0 c.in_ok-site.ensures c.in_default.is)

pub returns-in-Some-first : goal.returns-in-Some-first
returns-in-Some-first c = λ page h.
    let site : IsSiteOf c.args.index.now.tree c.args.path.now c.in-Some.site = good_of c.args.index.now.tree c.args.path.now c.in_ok-site.field-0 c.in-Some.site c.in_ok-site.ensures c.in-Some.is in
    let le : c.end_of-directory.result ≤ 0xFFFFFFFF = omega arith in
    answer_refused (removed_if_from page c.args.index.now c.args.time c.args.path.now c.in-Some.site (not (is_some c.in-Some.site.number)) c.end_of-directory.result site (twice (is_some c.in-Some.site.number)) c.end_of-directory.ensures le)
    c.tests_of_removed_if.result c.first.result c.in-Some-first.fault c.tests_of_removed_if.ensures c.first.ensures c.in-Some-first.is

pub returns-then-is_none : goal.returns-then-is_none
returns-then-is_none c = λ page.
    let site : IsSiteOf c.args.index.now.tree c.args.path.now c.in-Some.site = good_of c.args.index.now.tree c.args.path.now c.in_ok-site.field-0 c.in-Some.site c.in_ok-site.ensures c.in-Some.is in
    let le : c.end_of-directory.result ≤ 0xFFFFFFFF = omega arith in
    answer_none (from_one _ _ c.is_none.result (removed_if_from page c.args.index.now c.args.time c.args.path.now c.in-Some.site c.is_none.result c.end_of-directory.result site c.is_none.ensures c.end_of-directory.ensures le) c.if-is_none.true)
    c.tests_of_removed_if.result c.first.result false c.new.result.items c.tests_of_removed_if.ensures c.first.ensures c.in_default-first.is refl refl c.new.ensures.items

pub returns-then-is_spent : goal.returns-then-is_spent
returns-then-is_spent c = λ page h.
    let site : IsSiteOf c.args.index.now.tree c.args.path.now c.in-Some.site = good_of c.args.index.now.tree c.args.path.now c.in_ok-site.field-0 c.in-Some.site c.in_ok-site.ensures c.in-Some.is in
    let le : c.end_of-directory.result ≤ 0xFFFFFFFF = omega arith in
    answer_spent (from_two c.is_none.result (removed_if_from page c.args.index.now c.args.time c.args.path.now c.in-Some.site c.is_none.result c.end_of-directory.result site c.is_none.ensures c.end_of-directory.ensures le) c.if-is_none.false)
    c.tests_of_removed_if.result c.first.result c.is_spent.result c.tests_of_removed_if.ensures c.first.ensures c.in_default-first.is c.is_spent.ensures c.if-is_spent.true

pub returns : goal.returns
returns c = λ page.
    let site : IsSiteOf c.args.index.now.tree c.args.path.now c.in-Some.site = good_of c.args.index.now.tree c.args.path.now c.in_ok-site.field-0 c.in-Some.site c.in_ok-site.ensures c.in-Some.is in
    let le : c.end_of-directory.result ≤ 0xFFFFFFFF = omega arith in
    answer_none (from_two c.is_none.result (removed_if_from page c.args.index.now c.args.time c.args.path.now c.in-Some.site c.is_none.result c.end_of-directory.result site c.is_none.ensures c.end_of-directory.ensures le) c.if-is_none.false)
    c.tests_of_removed_if.result c.first.result c.is_spent.result c.in_ok-one.field-0.items c.tests_of_removed_if.ensures c.first.ensures c.in_default-first.is c.is_spent.ensures c.if-is_spent.false
    (c.in_ok-one.ensures ∙ ap (λ s. s ∷ []) c.clear_name.ensures)
