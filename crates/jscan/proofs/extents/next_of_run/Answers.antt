use Rattle.std.proofs.Common.{rules, subst, sym, ap, ◌∙◌, arith, ℕ, List}
use Rattle.jscan.specs.Runs.{BeginsRun}
use Rattle.jscan.specs.Extents.{extent_kind_of, is_one_run}
use Rattle.jscan.specs.declared.extent.ExtentKind.{ExtentKind}
use Rattle.jscan.proofs.ExtentLemmas.{begins_front, ends_front, ends_empty, one_run_same}
use Rattle.jscan.proofs.extents.next_of_run.Goals as goal

pub returns-then-is_empty-clause-ends : goal.returns-then-is_empty-clause-ends
returns-then-is_empty-clause-ends g c = ends_empty _ _ _ (search rules)

pub returns-then-goes_on-clause-goes_on : goal.returns-then-goes_on-clause-goes_on
returns-then-goes_on-clause-goes_on g c =
    let front = c.front-kind.ensures in
    subst (λ (kind : ExtentKind). BeginsRun g.E.Order.order c.args.rest.now c.front-kind.result.1 kind)
    (sym (one_run_same c.args.extent_kind.now _ (sym c.goes_on.ensures ∙ c.if-goes_on.true) ∙ ap (extent_kind_of g.E.Order.order c.front-kind.result.0) c.slice.ensures))
    (begins_front _ _ _ _ front.tile (omega (arith, front.nonempty, front.within)) front.within)

pub returns-else-goes_on-clause-ends : goal.returns-else-goes_on-clause-ends
returns-else-goes_on-clause-ends g c =
    let front = c.front-kind.ensures in
    ends_front _ _ _ _ _ (begins_front _ _ _ _ front.tile (omega (arith, front.nonempty, front.within)) front.within)
    (ap (λ (bytes : List ℕ). is_one_run c.args.extent_kind.now (extent_kind_of g.E.Order.order c.front-kind.result.0 bytes)) (sym c.slice.ensures)
    ∙ sym c.goes_on.ensures ∙ c.if-goes_on.false)
