use Rattle.std.proofs.Common.{◌≡◌, ◌∙◌, refl, sym, ap, subst, ◌+◌, ◌≤◌, ◌++◌, [], ◌∷◌, ℕ, Bool, List, Result, arith}
use Rattle.std.specs.Prelude.{length, nat_lt}
use Rattle.jsteps.specs.Nodes.{Indexed}
use Rattle.jscan.specs.Pages.{IsPage}
use Rattle.jsteps.specs.Families.{file_op}
use Rattle.jsteps.specs.Planning.{bytes_steps}
use Rattle.jsteps.specs.Refusals.{greatest_size, planned_by}
use Rattle.jsteps.specs.Site.{IsSiteOf}
use Rattle.jsteps.specs.declared.fault.OpFault.{OpFault}
use Rattle.jsteps.specs.declared.refusal.Tests.{Tests}
use Rattle.jsteps.specs.declared.step.Step.{Step}
use Rattle.jsteps.specs.declared.step.Step.TheVariants as step
use Rattle.jsteps.proofs.PlannedLemmas.{bad_of, good_of, bad_plan, answer_refused, answer_spent, answer_none}
use Rattle.jsteps.proofs.NewFileLemmas.{bad_file_path, new_file_from, new_file_steps, new_file_spent, not_large}
use Rattle.jsteps.proofs.planning.file.Goals as goal

-- the plan of the same texts
of_same : (page : ℕ) (x : Indexed) (over : Bool) (time mode uid gid : ℕ) (p q b d : List ℕ) (plan : Result (List Step) OpFault) → p ≡ q → b ≡ d
    → planned_by page x (file_op over time p mode uid gid b) ≡ plan → planned_by page x (file_op over time q mode uid gid d) ≡ plan
of_same page x over time mode uid gid p q b d plan e f is =
    subst (λ (d : List ℕ). planned_by page x (file_op over time q mode uid gid d) ≡ plan) f (subst (λ (q : List ℕ). planned_by page x (file_op over time q mode uid gid b) ≡ plan) e is)

pub returns-in_default : goal.returns-in_default
returns-in_default c = λ h.
    of_same c.args.page c.args.index.now c.args.is_over c.args.origin.time c.args.origin.mode c.args.origin.uid c.args.origin.gid c.as_slice.result.now c.args.path.now c.as_slice-bytes.result.now c.args.bytes.now _ c.as_slice.ensures c.as_slice-bytes.ensures
    (bad_plan c.args.page c.args.index.now (file_op c.args.is_over c.args.origin.time c.as_slice.result.now c.args.origin.mode c.args.origin.uid c.args.origin.gid c.as_slice-bytes.result.now)
    (bad_file_path c.args.is_over c.args.origin.time c.as_slice.result.now c.args.origin.mode c.args.origin.uid c.args.origin.gid c.as_slice-bytes.result.now (bad_of c.args.index.now.tree c.as_slice.result.now c.in_ok-site.field-0 c.in_ok-site.ensures c.in_default.is)))

pub returns-in-Some-first : goal.returns-in-Some-first
returns-in-Some-first c = λ h.
    let large = nat_lt greatest_size (length c.as_slice-bytes.result.now) in
    let bad = nat_lt 0o7777 c.args.origin.mode in
    of_same c.args.page c.args.index.now c.args.is_over c.args.origin.time c.args.origin.mode c.args.origin.uid c.args.origin.gid c.as_slice.result.now c.args.path.now c.as_slice-bytes.result.now c.args.bytes.now _ c.as_slice.ensures c.as_slice-bytes.ensures
    (answer_refused (new_file_from c.args.page c.args.index.now c.args.is_over c.args.origin.time c.as_slice.result.now c.args.origin.mode c.args.origin.uid c.args.origin.gid c.as_slice-bytes.result.now c.in-Some.site c.is_taken-is_taken.result large bad (good_of c.args.index.now.tree c.as_slice.result.now c.in_ok-site.field-0 c.in-Some.site c.in_ok-site.ensures c.in-Some.is) c.is_taken-is_taken.ensures refl refl) c.tests_of_new_file.result c.first.result c.in-Some-first.fault c.tests_of_new_file.ensures c.first.ensures c.in-Some-first.is)

pub returns-then-is_full : goal.returns-then-is_full
returns-then-is_full c = λ h.
    let large = nat_lt greatest_size (length c.as_slice-bytes.result.now) in
    let bad = nat_lt 0o7777 c.args.origin.mode in
    let le : c.end_of-directory.result ≤ 0xFFFFFFFF = omega arith in
    let page : IsPage c.args.page = record { least = c.requires.least; most = c.requires.most } in
    let site : IsSiteOf c.args.index.now.tree c.as_slice.result.now c.in-Some.site = good_of c.args.index.now.tree c.as_slice.result.now c.in_ok-site.field-0 c.in-Some.site c.in_ok-site.ensures c.in-Some.is in
    let within = not_large c.tests_of_new_file.result c.first.result c.as_slice-bytes.result.now (ap (λ (t : Tests). t.is_too_large) c.tests_of_new_file.ensures) c.first.ensures c.in_default-first.is in
    of_same c.args.page c.args.index.now c.args.is_over c.args.origin.time c.args.origin.mode c.args.origin.uid c.args.origin.gid c.as_slice.result.now c.args.path.now c.as_slice-bytes.result.now c.args.bytes.now _ c.as_slice.ensures c.as_slice-bytes.ensures
    (answer_spent (new_file_from c.args.page c.args.index.now c.args.is_over c.args.origin.time c.as_slice.result.now c.args.origin.mode c.args.origin.uid c.args.origin.gid c.as_slice-bytes.result.now c.in-Some.site c.is_taken-is_taken.result large bad site c.is_taken-is_taken.ensures refl refl) c.tests_of_new_file.result c.first.result c.is_full.result c.tests_of_new_file.ensures c.first.ensures c.in_default-first.is
    (c.is_full.ensures ∙ new_file_spent c.args.page c.args.index.now c.args.is_over c.args.origin.time c.as_slice.result.now c.args.origin.mode c.args.origin.uid c.args.origin.gid c.as_slice-bytes.result.now c.in-Some.site c.end_of-directory.result page site c.end_of-directory.ensures le within) c.if-is_full.true)

pub returns : goal.returns
returns c =
    let large = nat_lt greatest_size (length c.as_slice-bytes.result.now) in
    let bad = nat_lt 0o7777 c.args.origin.mode in
    let le : c.end_of-directory.result ≤ 0xFFFFFFFF = omega arith in
    let page : IsPage c.args.page = record { least = c.requires.least; most = c.requires.most } in
    let site : IsSiteOf c.args.index.now.tree c.as_slice.result.now c.in-Some.site = good_of c.args.index.now.tree c.as_slice.result.now c.in_ok-site.field-0 c.in-Some.site c.in_ok-site.ensures c.in-Some.is in
    let within = not_large c.tests_of_new_file.result c.first.result c.as_slice-bytes.result.now (ap (λ (t : Tests). t.is_too_large) c.tests_of_new_file.ensures) c.first.ensures c.in_default-first.is in
    let made : ℕ → List Step = λ n. bytes_steps c.args.page n c.args.origin.time (0o100000 + c.args.origin.mode) c.args.origin.uid c.args.origin.gid c.as_slice-bytes.result.now in
    of_same c.args.page c.args.index.now c.args.is_over c.args.origin.time c.args.origin.mode c.args.origin.uid c.args.origin.gid c.as_slice.result.now c.args.path.now c.as_slice-bytes.result.now c.args.bytes.now _ c.as_slice.ensures c.as_slice-bytes.ensures
    (answer_none (new_file_from c.args.page c.args.index.now c.args.is_over c.args.origin.time c.as_slice.result.now c.args.origin.mode c.args.origin.uid c.args.origin.gid c.as_slice-bytes.result.now c.in-Some.site c.is_taken-is_taken.result large bad site c.is_taken-is_taken.ensures refl refl) c.tests_of_new_file.result c.first.result c.is_full.result c.in_ok-make_named.field-0.items c.tests_of_new_file.ensures c.first.ensures c.in_default-first.is
    (c.is_full.ensures ∙ new_file_spent c.args.page c.args.index.now c.args.is_over c.args.origin.time c.as_slice.result.now c.args.origin.mode c.args.origin.uid c.args.origin.gid c.as_slice-bytes.result.now c.in-Some.site c.end_of-directory.result page site c.end_of-directory.ensures le within) c.if-is_full.false
    (c.in_ok-make_named.ensures
    ∙ ap (λ s. made c.next-next.result ++ s ∷ []) c.set_name-set.ensures
    ∙ ap (λ n. made n ++ step.SetName c.args.origin.time c.end_of-directory.result c.in-Some.site.last.now n ∷ []) c.next-next.ensures
    ∙ sym (new_file_steps c.args.page c.args.index.now c.args.is_over c.args.origin.time c.as_slice.result.now c.args.origin.mode c.args.origin.uid c.args.origin.gid c.as_slice-bytes.result.now c.in-Some.site c.end_of-directory.result site c.end_of-directory.ensures)))
