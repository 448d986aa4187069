use Rattle.std.proofs.Common.{List, [], is_some, subst, sym}
use Rattle.jscan.specs.Pages.{page_size}
use Rattle.jsteps.specs.declared.step.Step.{Step}
use Rattle.jsteps.proofs.FewLemmas.{sizes_are_pages}
use Rattle.jlog.specs.Running.{CanWriteAll}
use Rattle.jlog.proofs.Parts.{flash_by}
use Rattle.jlog.proofs.RunLemmas.{can_plan}
use Rattle.jupdate.specs.Rows.{ends_of, left_at}
use Rattle.jupdate.specs.Writing.{log_in}
use Rattle.jupdate.proofs.AcceptLemmas.{declines}
use Rattle.jupdate.proofs.accepting.accept.Goals as goal

pub choose_fitting-requires-clause-steps : goal.choose_fitting-requires-clause-steps
choose_fitting-requires-clause-steps g c =
    let e = g.E.Order.order in
    let a = c.args in
    let r = a.room.now in
    let steps : List Step = c.in_ok-steps.steps.items in
    let can = can_plan (page_size r.page) e a.index.now a.op.now steps (sizes_are_pages r.page) c.requires.going.consistent c.requires.known c.in_ok-steps.ensures.planned in
    record { page = page_size r.page; is_page = sizes_are_pages r.page; fits = c.requires.holds; can = subst (CanWriteAll (page_size r.page) e a.index.now) (sym c.deref.ensures.value) can.0 }

pub returns-clause-declined : goal.returns-clause-declined
returns-clause-declined g c =
    let r = c.args.room.now in
    declines (is_some c.args.packing.now) r.held (flash_by (page_size r.page) g.E.Order.order r.flash.size r.flash.count) (log_in (left_at (ends_of c.args.stretches.now) r.cursor) c.args.index.now []) c.args.op.now c.in_ok-steps.steps.items c.deref.result.now c.in-Err.fault
    c.in_ok-steps.ensures.planned c.deref.ensures.value c.in-Err.ensures.none
