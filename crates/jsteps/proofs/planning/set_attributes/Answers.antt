use Rattle.std.proofs.Common.{◌≤◌, arith}
use Rattle.jsteps.specs.declared.op.Op.TheVariants as op
use Rattle.jsteps.proofs.PlannedLemmas.{bad_plan, answer_refused, answer_spent, answer_none}
use Rattle.jsteps.proofs.AttributesLemmas.{no_path_of, reached_of, attributes_from}
use Rattle.jsteps.proofs.planning.set_attributes.Goals as goal

pub returns-in_default : goal.returns-in_default
returns-in_default c = λ page h.
    bad_plan page c.args.index.now (op.SetAttributes c.args.time c.args.path.now c.args.attributes)
    (no_path_of c.args.index.now.tree c.args.path.now c.in_ok-site.field-0 c.in_ok-site.ensures c.in_default.is)

pub returns-in-Some-first : goal.returns-in-Some-first
returns-in-Some-first c = λ page h.
    let le : c.unwrap_or-ino.result ≤ 0xFFFFFFFF = omega arith in
    answer_refused (attributes_from page c.args.index.now c.args.time c.args.path.now c.args.attributes c.in-Some.site c.unwrap_or-ino.result (reached_of c.args.index.now.tree c.args.path.now c.in_ok-site.field-0 c.in-Some.site c.in_ok-site.ensures c.in-Some.is) c.unwrap_or-ino.ensures le)
    c.tests_of_attributes.result c.first.result c.in-Some-first.fault c.tests_of_attributes.ensures c.first.ensures c.in-Some-first.is

pub returns-then-is_spent : goal.returns-then-is_spent
returns-then-is_spent c = λ page h.
    let le : c.unwrap_or-ino.result ≤ 0xFFFFFFFF = omega arith in
    answer_spent (attributes_from page c.args.index.now c.args.time c.args.path.now c.args.attributes c.in-Some.site c.unwrap_or-ino.result (reached_of c.args.index.now.tree c.args.path.now c.in_ok-site.field-0 c.in-Some.site c.in_ok-site.ensures c.in-Some.is) c.unwrap_or-ino.ensures le)
    c.tests_of_attributes.result c.first.result c.is_spent.result c.tests_of_attributes.ensures c.first.ensures c.in_default-first.is c.is_spent.ensures c.if-is_spent.true

pub returns : goal.returns
returns c = λ page.
    let le : c.unwrap_or-ino.result ≤ 0xFFFFFFFF = omega arith in
    answer_none (attributes_from page c.args.index.now c.args.time c.args.path.now c.args.attributes c.in-Some.site c.unwrap_or-ino.result (reached_of c.args.index.now.tree c.args.path.now c.in_ok-site.field-0 c.in-Some.site c.in_ok-site.ensures c.in-Some.is) c.unwrap_or-ino.ensures le)
    c.tests_of_attributes.result c.first.result c.is_spent.result c.in_ok-one.field-0.items c.tests_of_attributes.ensures c.first.ensures c.in_default-first.is c.is_spent.ensures c.if-is_spent.false
    c.in_ok-one.ensures
