use Rattle.std.proofs.Common.{◌∙◌, arith, ap, ◌≤◌, [], ◌∷◌}
use Rattle.jsteps.proofs.PlannedLemmas.{bad_of_both, good_of_both, bad_plan, answer_refused, answer_spent, answer_none, link_from}
use Rattle.jsteps.specs.declared.op.Op.TheVariants as op
use Rattle.jsteps.proofs.planning.link.Goals as goal
use Rattle.jsteps.specs.Site.{IsSiteOf}

pub returns-in_default : goal.returns-in_default
returns-in_default c = λ page h.
    bad_plan page c.args.index.now (op.Link c.args.time c.args.old.now c.args.new.now)
    (bad_of_both c.args.index.now.tree c.args.old.now c.args.new.now c.in_ok-from.field-0 c.in_ok-from.ensures c.in_default.is)

pub returns-in-Some-first : goal.returns-in-Some-first
returns-in-Some-first c = λ page h.
    let sites : IsSiteOf c.args.index.now.tree c.args.old.now c.in-Some.from × IsSiteOf c.args.index.now.tree c.args.new.now c.in-Some.to =
    good_of_both c.args.index.now.tree c.args.old.now c.args.new.now c.in_ok-from.field-0 (c.in-Some.from, c.in-Some.to) c.in_ok-from.ensures c.in-Some.is in
    let le : c.end_of-directory.result ≤ 0xFFFFFFFF = omega arith in
    answer_refused (link_from page c.args.index.now c.args.time c.args.old.now c.args.new.now c.in-Some.from c.in-Some.to
    c.has_bits-is_directory.result c.end_of-directory.result c.unwrap_or-ino.result sites.0 sites.1
    c.has_bits-is_directory.ensures c.end_of-directory.ensures le c.unwrap_or-ino.ensures)
    c.tests_of_name.result c.first.result c.in-Some-first.fault c.tests_of_name.ensures c.first.ensures c.in-Some-first.is

pub returns-then-is_spent : goal.returns-then-is_spent
returns-then-is_spent c = λ page h.
    let sites : IsSiteOf c.args.index.now.tree c.args.old.now c.in-Some.from × IsSiteOf c.args.index.now.tree c.args.new.now c.in-Some.to =
    good_of_both c.args.index.now.tree c.args.old.now c.args.new.now c.in_ok-from.field-0 (c.in-Some.from, c.in-Some.to) c.in_ok-from.ensures c.in-Some.is in
    let le : c.end_of-directory.result ≤ 0xFFFFFFFF = omega arith in
    answer_spent (link_from page c.args.index.now c.args.time c.args.old.now c.args.new.now c.in-Some.from c.in-Some.to
    c.has_bits-is_directory.result c.end_of-directory.result c.unwrap_or-ino.result sites.0 sites.1
    c.has_bits-is_directory.ensures c.end_of-directory.ensures le c.unwrap_or-ino.ensures)
    c.tests_of_name.result c.first.result c.is_spent.result c.tests_of_name.ensures c.first.ensures c.in_default-first.is c.is_spent.ensures c.if-is_spent.true

pub returns : goal.returns
returns c = λ page.
    let sites : IsSiteOf c.args.index.now.tree c.args.old.now c.in-Some.from × IsSiteOf c.args.index.now.tree c.args.new.now c.in-Some.to =
    good_of_both c.args.index.now.tree c.args.old.now c.args.new.now c.in_ok-from.field-0 (c.in-Some.from, c.in-Some.to) c.in_ok-from.ensures c.in-Some.is in
    let le : c.end_of-directory.result ≤ 0xFFFFFFFF = omega arith in
    answer_none (link_from page c.args.index.now c.args.time c.args.old.now c.args.new.now c.in-Some.from c.in-Some.to
    c.has_bits-is_directory.result c.end_of-directory.result c.unwrap_or-ino.result sites.0 sites.1
    c.has_bits-is_directory.ensures c.end_of-directory.ensures le c.unwrap_or-ino.ensures)
    c.tests_of_name.result c.first.result c.is_spent.result c.in_ok-one.field-0.items c.tests_of_name.ensures c.first.ensures c.in_default-first.is c.is_spent.ensures c.if-is_spent.false
    (c.in_ok-one.ensures ∙ ap (λ s. s ∷ []) c.set_name.ensures)
