use Rattle.std.proofs.Common.{rules, ◌≡◌, List, subst, sym, ap, ◌∙◌}
use Rattle.std.specs.Prelude.{IsFalse}
use Rattle.jsteps.specs.declared.step.Step.{Step}
use Rattle.jsteps.specs.Nodes.{advanced_all}
use Rattle.jscan.specs.Pages.{page_size}
use Rattle.jsteps.proofs.FewLemmas.{sizes_are_pages}
use Rattle.jlog.specs.Places.{end_of_all}
use Rattle.jlog.specs.Running.{written, CanWriteAll}
use Rattle.jlog.specs.Session.{IsGoing, IsAccepted}
use Rattle.jlog.proofs.RunLemmas.{can_plan, going_on}
use Rattle.jlog.proofs.StepLemmas.{size_words}
use Rattle.jlog.proofs.session.Session.apply_onto.Goals as goal

pub write_steps-requires-clause-steps : goal.write_steps-requires-clause-steps
write_steps-requires-clause-steps g c =
    let s = c.args.self.now in
    let e = g.E.Order.order in
    let steps : List Step = c.in_ok-steps.steps.items in
    let whole : IsFalse s.broken = search rules in
    let going : IsGoing s.block s.blocks s.cursor s.index = s.going whole in
    let accepted : IsAccepted (page_size s.page) e s.block s.blocks s.cursor s.index c.args.op.now steps = search rules in
    let can = can_plan (page_size s.page) e s.index c.args.op.now steps (sizes_are_pages s.page) going.consistent c.known.ensures accepted.planned in
    record { page = page_size s.page; is_page = sizes_are_pages s.page; fits = s.holds; can = subst (CanWriteAll (page_size s.page) e s.index) (sym c.deref.ensures.value) can.0 }

pub invariant_of-self-clause-going : goal.invariant_of-self-clause-going
invariant_of-self-clause-going g c =
    let s = c.args.self.now in
    let e = g.E.Order.order in
    let steps : List Step = c.in_ok-steps.steps.items in
    let whole : IsFalse s.broken = search rules in
    let going : IsGoing s.block s.blocks s.cursor s.index = s.going whole in
    let accepted : IsAccepted (page_size s.page) e s.block s.blocks s.cursor s.index c.args.op.now steps = search rules in
    let can = can_plan (page_size s.page) e s.index c.args.op.now steps (sizes_are_pages s.page) going.consistent c.known.ensures accepted.planned in
    let wrote = c.in-Ok.ensures.writes.0 in
    let same : c.deref.result.now ≡ steps = c.deref.ensures.value in
    λ _. going_on (page_size s.page) e s.block s.blocks s.cursor c.in-Ok.end s.index c.write_steps.new.index steps (sizes_are_pages s.page) s.holds
    (size_words s.block s.blocks s.flash) going can.0 accepted.fits can.1 (wrote.cursor ∙ ap (λ (l : List Step). end_of_all s.block s.cursor (written e s.index l)) same) (wrote.index ∙ ap (advanced_all s.index) same)
