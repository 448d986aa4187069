use Rattle.std.proofs.Common.{◌≡◌, ◌∙◌, ◌+◌, ◌≤◌, arith, ap, rules, List, ◌++◌, length}
use Rattle.std.specs.Prelude.{nat_lt}
use Rattle.jsteps.specs.Planning.{resize_steps}
use Rattle.jsteps.proofs.PlannedLemmas.{bad_of, good_of, or_none, bad_plan, answer_refused, answer_spent, answer_none}
use Rattle.jsteps.proofs.FileLemmas.{truncate_from}
use Rattle.jsteps.specs.declared.op.Op.TheVariants as op
use Rattle.jsteps.specs.declared.step.Step.{Step}
use Rattle.jsteps.proofs.planning.truncate.Goals as goal

pub returns-in_default : goal.returns-in_default
returns-in_default c = λ page h.
    bad_plan page c.args.index.now (op.Truncate c.args.time c.args.path.now c.args.size)
    (or_none _ ∙ bad_of c.args.index.now.tree c.args.path.now c.in_ok-site.field-0 c.in_ok-site.ensures c.in_default.is)

pub returns-in-Some-first : goal.returns-in-Some-first
returns-in-Some-first c = λ page h.
    let le : c.unwrap_or-ino.result ≤ 0xFFFFFFFF = omega arith in
    let most : c.top-highest.result ≤ 0xFFFFFFFF = omega arith in
    answer_refused (truncate_from page c.args.index.now c.args.time c.args.path.now c.args.size c.in-Some.site c.unwrap_or-ino.result c.size-old.result c.top-highest.result (good_of c.args.index.now.tree c.args.path.now c.in_ok-site.field-0 c.in-Some.site c.in_ok-site.ensures c.in-Some.is) c.unwrap_or-ino.ensures le c.size-old.ensures c.top-highest.ensures most) c.tests_of_file.result c.first.result c.in-Some-first.fault c.tests_of_file.ensures c.first.ensures c.in-Some-first.is

pub returns-then-is_past : goal.returns-then-is_past
returns-then-is_past c = λ page h.
    let le : c.unwrap_or-ino.result ≤ 0xFFFFFFFF = omega arith in
    let most : c.top-highest.result ≤ 0xFFFFFFFF = omega arith in
    let count : c.len.result ≡ length c.push_resize.new.steps.items = search rules in
    let are : c.push_resize.new.steps.items ≡ resize_steps c.args.time c.unwrap_or-ino.result c.size-old.result c.args.size = c.in_ok-push_resize.ensures ∙ ap (λ (xs : List Step). xs ++ resize_steps c.args.time c.unwrap_or-ino.result c.size-old.result c.args.size) c.new-steps.ensures.items in
    answer_spent (truncate_from page c.args.index.now c.args.time c.args.path.now c.args.size c.in-Some.site c.unwrap_or-ino.result c.size-old.result c.top-highest.result (good_of c.args.index.now.tree c.args.path.now c.in_ok-site.field-0 c.in-Some.site c.in_ok-site.ensures c.in-Some.is) c.unwrap_or-ino.ensures le c.size-old.ensures c.top-highest.ensures most) c.tests_of_file.result c.first.result c.is_past.result c.tests_of_file.ensures c.first.ensures c.in_default-first.is (c.is_past.ensures ∙ ap (λ n. nat_lt 0xFFFFFFFF (c.top-highest.result + n)) (count ∙ ap length are)) c.if-is_past.true

pub returns : goal.returns
returns c = λ page.
    let le : c.unwrap_or-ino.result ≤ 0xFFFFFFFF = omega arith in
    let most : c.top-highest.result ≤ 0xFFFFFFFF = omega arith in
    let count : c.len.result ≡ length c.push_resize.new.steps.items = search rules in
    let are : c.push_resize.new.steps.items ≡ resize_steps c.args.time c.unwrap_or-ino.result c.size-old.result c.args.size = c.in_ok-push_resize.ensures ∙ ap (λ (xs : List Step). xs ++ resize_steps c.args.time c.unwrap_or-ino.result c.size-old.result c.args.size) c.new-steps.ensures.items in
    answer_none (truncate_from page c.args.index.now c.args.time c.args.path.now c.args.size c.in-Some.site c.unwrap_or-ino.result c.size-old.result c.top-highest.result (good_of c.args.index.now.tree c.args.path.now c.in_ok-site.field-0 c.in-Some.site c.in_ok-site.ensures c.in-Some.is) c.unwrap_or-ino.ensures le c.size-old.ensures c.top-highest.ensures most) c.tests_of_file.result c.first.result c.is_past.result c.push_resize.new.steps.items c.tests_of_file.ensures c.first.ensures c.in_default-first.is (c.is_past.ensures ∙ ap (λ n. nat_lt 0xFFFFFFFF (c.top-highest.result + n)) (count ∙ ap length are)) c.if-is_past.false are
