use Rattle.std.proofs.Common.{ℕ, List}
use Rattle.jstops.specs.declared.planned.StopsPlan.{StopsPlan}
use Rattle.jedge.proofs.Steps.{does_at, then_err, then_ok}
use Rattle.jforetells.specs.Foretelling.{foretells_text}
use Rattle.jforetells.specs.declared.plan.ForetoldPlan.TheVariants as plan
use Rattle.jforetells.proofs.foretelling.cuts_through.Goals as goal

pub returns-in-Err : goal.returns-in-Err
returns-in-Err g c = then_err c.in-Err.ensures

pub returns-in-Ok-load : goal.returns-in-Ok-load
returns-in-Ok-load g c =
    let e = g.E.Order.order in
    then_ok c.in-Ok.ensures (then_ok c.in-Ok-load.ensures
    (does_at (λ (on : StopsPlan). foretells_text e (plan.Stops on) c.in-Ok.base.items c.in-Ok-load.text.items) c.plan_of.ensures
    (does_at (λ (b : List ℕ). foretells_text e (plan.Stops c.plan_of.result) b c.in-Ok-load.text.items) c.as_slice.ensures.value
    (does_at (λ (t : List ℕ). foretells_text e (plan.Stops c.plan_of.result) c.as_slice.result.now t) c.as_slice-in-Ok-load.ensures.value
    c.tell_text.ensures))))

pub returns : goal.returns
returns g c = then_ok c.in-Ok.ensures (then_err c.in-Err-load.ensures)
