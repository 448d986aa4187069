use Rattle.std.proofs.Common.{◌∙◌, arith, ap, ◌≤◌, [], ◌∷◌}
use Rattle.jsteps.proofs.PlannedLemmas.{good_of, answer_spent, answer_none, made_from}
use Rattle.jsteps.proofs.planning.make.Goals as goal
use Rattle.std.proofs.Common.{refl, ◌+◌}
use Rattle.jsteps.specs.declared.step.Step.TheVariants as step

pub returns-then-is_full : goal.returns-then-is_full
returns-then-is_full c = λ h.
    let le : c.end_of-directory.result ≤ 0xFFFFFFFF = omega arith in
    answer_spent (made_from c.args.index.now c.args.origin.time c.args.path.now c.args.kind c.args.origin.mode c.args.origin.uid c.args.origin.gid c.args.target.now c.args.is_bad_target c.in-Some.site c.end_of-directory.result (c.args.kind + c.args.origin.mode) c.args.index.now.tree.next (good_of c.args.index.now.tree c.args.path.now c.in_ok-site.field-0 c.in-Some.site c.in_ok-site.ensures c.in-Some.is) c.end_of-directory.ensures le refl refl)
    c.tests_of_new.result c.first.result c.is_full.result c.tests_of_new.ensures c.first.ensures c.in_default-first.is c.is_full.ensures c.if-is_full.true

pub returns : goal.returns
returns c =
    let le : c.end_of-directory.result ≤ 0xFFFFFFFF = omega arith in
    answer_none (made_from c.args.index.now c.args.origin.time c.args.path.now c.args.kind c.args.origin.mode c.args.origin.uid c.args.origin.gid c.args.target.now c.args.is_bad_target c.in-Some.site c.end_of-directory.result (c.args.kind + c.args.origin.mode) c.next.result (good_of c.args.index.now.tree c.args.path.now c.in_ok-site.field-0 c.in-Some.site c.in_ok-site.ensures c.in-Some.is) c.end_of-directory.ensures le refl c.next.ensures)
    c.tests_of_new.result c.first.result c.is_full.result c.in_ok-two.field-0.items c.tests_of_new.ensures c.first.ensures c.in_default-first.is c.is_full.ensures c.if-is_full.false
    (c.in_ok-two.ensures ∙ ap (λ s. s ∷ c.set_name-set.result ∷ []) c.make_object-made.ensures
    ∙ ap (λ s. step.MakeObject c.args.origin.time (c.args.kind + c.args.origin.mode) c.args.origin.uid c.args.origin.gid c.args.target.now ∷ s ∷ []) c.set_name-set.ensures)
