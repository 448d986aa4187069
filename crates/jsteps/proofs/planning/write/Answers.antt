use Rattle.std.proofs.Common.{◌≡◌, ◌∙◌, ◌+◌, ◌≤◌, arith, ap, rules, List, ℕ, ◌++◌, length, subst, Result}
use Rattle.std.specs.Prelude.{nat_lt}
use Rattle.jsteps.specs.Planning.{write_steps}
use Rattle.jsteps.specs.Tests.{kept_tests}
use Rattle.jsteps.proofs.PlannedLemmas.{bad_of, good_of, or_none, bad_plan, answer_refused, answer_spent, answer_none}
use Rattle.jsteps.proofs.FileLemmas.{write_from}
use Rattle.jsteps.specs.declared.op.Op.TheVariants as op
use Rattle.jsteps.specs.declared.step.Step.{Step}
use Rattle.jsteps.specs.Nodes.{Indexed}
use Rattle.jsteps.specs.Refusals.{planned_by}
use Rattle.jsteps.specs.declared.fault.OpFault.{OpFault}
use Rattle.jsteps.proofs.planning.write.Goals as goal

-- the plan of the same texts
of_same : (page : ℕ) (x : Indexed) (time offset : ℕ) (p q b d : List ℕ) (plan : Result (List Step) OpFault) → p ≡ q → b ≡ d → planned_by page x (op.Write time p offset b) ≡ plan → planned_by page x (op.Write time q offset d) ≡ plan
of_same page x time offset p q b d plan e f is =
    subst (λ (d : List ℕ). planned_by page x (op.Write time q offset d) ≡ plan) f (subst (λ (q : List ℕ). planned_by page x (op.Write time q offset b) ≡ plan) e is)

pub returns-in_default : goal.returns-in_default
returns-in_default c = λ h.
    of_same c.args.page c.args.index.now c.args.time c.args.offset c.as_slice.result.now c.args.path.now c.as_slice-bytes.result.now c.args.bytes.now _ c.as_slice.ensures c.as_slice-bytes.ensures
    (bad_plan c.args.page c.args.index.now (op.Write c.args.time c.as_slice.result.now c.args.offset c.as_slice-bytes.result.now)
    (or_none _ ∙ bad_of c.args.index.now.tree c.as_slice.result.now c.in_ok-site.field-0 c.in_ok-site.ensures c.in_default.is))

pub returns-in-Some-first : goal.returns-in-Some-first
returns-in-Some-first c = λ h.
    let le : c.unwrap_or-ino.result ≤ 0xFFFFFFFF = omega arith in
    let most : c.top-highest.result ≤ 0xFFFFFFFF = omega arith in
    of_same c.args.page c.args.index.now c.args.time c.args.offset c.as_slice.result.now c.args.path.now c.as_slice-bytes.result.now c.args.bytes.now _ c.as_slice.ensures c.as_slice-bytes.ensures
    (answer_refused (write_from c.args.page c.args.index.now c.args.time c.as_slice.result.now c.args.offset c.as_slice-bytes.result.now c.in-Some.site c.unwrap_or-ino.result c.size-old.result c.top-highest.result (good_of c.args.index.now.tree c.as_slice.result.now c.in_ok-site.field-0 c.in-Some.site c.in_ok-site.ensures c.in-Some.is) c.unwrap_or-ino.ensures le c.size-old.ensures c.top-highest.ensures most) c.tests_of_file.result c.first.result c.in-Some-first.fault (c.tests_of_file.ensures ∙ ap (kept_tests c.args.index.now.tree c.in-Some.site.is_long c.in-Some.site.above c.in-Some.site.number) c.is_too_large.ensures) c.first.ensures c.in-Some-first.is)

pub returns-then-is_past : goal.returns-then-is_past
returns-then-is_past c = λ h.
    let le : c.unwrap_or-ino.result ≤ 0xFFFFFFFF = omega arith in
    let most : c.top-highest.result ≤ 0xFFFFFFFF = omega arith in
    let count : c.len.result ≡ length c.push_write.new.steps.items = search rules in
    let are : c.push_write.new.steps.items ≡ write_steps c.args.page c.args.time c.unwrap_or-ino.result c.size-old.result c.args.offset c.as_slice-bytes.result.now = c.in_ok-push_write.ensures ∙ ap (λ (xs : List Step). xs ++ write_steps c.args.page c.args.time c.unwrap_or-ino.result c.size-old.result c.args.offset c.as_slice-bytes.result.now) c.new-steps.ensures.items in
    of_same c.args.page c.args.index.now c.args.time c.args.offset c.as_slice.result.now c.args.path.now c.as_slice-bytes.result.now c.args.bytes.now _ c.as_slice.ensures c.as_slice-bytes.ensures
    (answer_spent (write_from c.args.page c.args.index.now c.args.time c.as_slice.result.now c.args.offset c.as_slice-bytes.result.now c.in-Some.site c.unwrap_or-ino.result c.size-old.result c.top-highest.result (good_of c.args.index.now.tree c.as_slice.result.now c.in_ok-site.field-0 c.in-Some.site c.in_ok-site.ensures c.in-Some.is) c.unwrap_or-ino.ensures le c.size-old.ensures c.top-highest.ensures most) c.tests_of_file.result c.first.result c.is_past.result (c.tests_of_file.ensures ∙ ap (kept_tests c.args.index.now.tree c.in-Some.site.is_long c.in-Some.site.above c.in-Some.site.number) c.is_too_large.ensures) c.first.ensures c.in_default-first.is (c.is_past.ensures ∙ ap (λ n. nat_lt 0xFFFFFFFF (c.top-highest.result + n)) (count ∙ ap length are)) c.if-is_past.true)

pub returns : goal.returns
returns c =
    let le : c.unwrap_or-ino.result ≤ 0xFFFFFFFF = omega arith in
    let most : c.top-highest.result ≤ 0xFFFFFFFF = omega arith in
    let count : c.len.result ≡ length c.push_write.new.steps.items = search rules in
    let are : c.push_write.new.steps.items ≡ write_steps c.args.page c.args.time c.unwrap_or-ino.result c.size-old.result c.args.offset c.as_slice-bytes.result.now = c.in_ok-push_write.ensures ∙ ap (λ (xs : List Step). xs ++ write_steps c.args.page c.args.time c.unwrap_or-ino.result c.size-old.result c.args.offset c.as_slice-bytes.result.now) c.new-steps.ensures.items in
    of_same c.args.page c.args.index.now c.args.time c.args.offset c.as_slice.result.now c.args.path.now c.as_slice-bytes.result.now c.args.bytes.now _ c.as_slice.ensures c.as_slice-bytes.ensures
    (answer_none (write_from c.args.page c.args.index.now c.args.time c.as_slice.result.now c.args.offset c.as_slice-bytes.result.now c.in-Some.site c.unwrap_or-ino.result c.size-old.result c.top-highest.result (good_of c.args.index.now.tree c.as_slice.result.now c.in_ok-site.field-0 c.in-Some.site c.in_ok-site.ensures c.in-Some.is) c.unwrap_or-ino.ensures le c.size-old.ensures c.top-highest.ensures most) c.tests_of_file.result c.first.result c.is_past.result c.push_write.new.steps.items (c.tests_of_file.ensures ∙ ap (kept_tests c.args.index.now.tree c.in-Some.site.is_long c.in-Some.site.above c.in-Some.site.number) c.is_too_large.ensures) c.first.ensures c.in_default-first.is (c.is_past.ensures ∙ ap (λ n. nat_lt 0xFFFFFFFF (c.top-highest.result + n)) (count ∙ ap length are)) c.if-is_past.false are)
