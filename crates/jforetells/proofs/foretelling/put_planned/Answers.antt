use Rattle.std.proofs.Common.{subst}
use Rattle.std.specs.Prelude.{IsOk}
use Rattle.jlog.specs.Resuming.{resumes}
use Rattle.jview.specs.Through.{IsMountThroughOf}
use Rattle.jforetells.specs.Foretelling.{flash_foretold}
use Rattle.jforetells.specs.declared.plan.ForetoldPlan.{ForetoldPlan}
use Rattle.jforetells.proofs.ForetoldLemmas.{planned_as}
use Rattle.jforetells.proofs.foretelling.put_planned.Goals as goal

pub put_told-requires-clause-through : goal.put_told-requires-clause-through
put_told-requires-clause-through g c =
    subst (λ (p : ForetoldPlan). IsMountThroughOf g.E.Order.order (flash_foretold p).geometry.block c.args.mounted.now) c.in-Stops.is c.requires.through

pub put_told-requires-clause-goes_on : goal.put_told-requires-clause-goes_on
put_told-requires-clause-goes_on g c =
    subst (λ (p : ForetoldPlan). IsOk (resumes g.E.Order.order (flash_foretold p) c.args.mounted.now)) c.in-Stops.is c.requires.goes_on

pub put_told-requires-clause-numbered : goal.put_told-requires-clause-numbered
put_told-requires-clause-numbered g c = c.requires.numbered

pub returns-in-Stops : goal.returns-in-Stops
returns-in-Stops g c = planned_as g.E.Order.order c.args.on _ c.args.mounted.now.image c.args.ops.now c.args.lines.now _ _ c.in-Stops.is c.put_told.ensures

pub put_updates-requires-clause-through : goal.put_updates-requires-clause-through
put_updates-requires-clause-through g c =
    subst (λ (p : ForetoldPlan). IsMountThroughOf g.E.Order.order (flash_foretold p).geometry.block c.args.mounted.now) c.in-Halts.is c.requires.through

pub put_updates-requires-clause-goes_on : goal.put_updates-requires-clause-goes_on
put_updates-requires-clause-goes_on g c =
    subst (λ (p : ForetoldPlan). IsOk (resumes g.E.Order.order (flash_foretold p) c.args.mounted.now)) c.in-Halts.is c.requires.goes_on

pub put_updates-requires-clause-numbered : goal.put_updates-requires-clause-numbered
put_updates-requires-clause-numbered g c = c.requires.numbered

pub returns-in-Halts : goal.returns-in-Halts
returns-in-Halts g c = planned_as g.E.Order.order c.args.on _ c.args.mounted.now.image c.args.ops.now c.args.lines.now _ _ c.in-Halts.is c.put_updates.ensures
