use Rattle.std.proofs.Common.{rules, List, subst, sym}
use Rattle.std.specs.Prelude.{IsFalse}
use Rattle.jsteps.specs.declared.step.Step.{Step}
use Rattle.jscan.specs.Pages.{page_size}
use Rattle.jsteps.proofs.FewLemmas.{sizes_are_pages}
use Rattle.jlog.specs.Running.{CanWriteAll}
use Rattle.jlog.specs.Session.{IsGoing}
use Rattle.jlog.proofs.RunLemmas.{can_plan}
use Rattle.jlog.proofs.session.Session.blocks_for.Goals as goal

pub least_blocks-requires-clause-steps : goal.least_blocks-requires-clause-steps
least_blocks-requires-clause-steps g c =
    let s = c.args.self.now in
    let e = g.E.Order.order in
    let steps : List Step = c.in_ok-steps.steps.items in
    let whole : IsFalse s.broken = search rules in
    let going : IsGoing s.block s.blocks s.cursor s.index = s.going whole in
    let can = can_plan (page_size s.page) e s.index c.args.op.now steps (sizes_are_pages s.page) going.consistent c.known.ensures c.in_ok-steps.ensures.planned in
    record { page = page_size s.page; is_page = sizes_are_pages s.page; fits = s.holds; can = subst (CanWriteAll (page_size s.page) e s.index) (sym c.deref.ensures.value) can.0 }
