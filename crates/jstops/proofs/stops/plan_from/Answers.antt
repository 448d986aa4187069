use Rattle.std.proofs.Common.{◌≡◌, ◌∙◌, ap}
use Rattle.jscan.specs.Pages.{page_size}
use Rattle.jpacked.specs.View.{packs_of}
use Rattle.jpacked.specs.Forms.{is_packed}
use Rattle.jstops.proofs.PlannedLemmas.{forming_at}
use Rattle.jstops.proofs.StopLemmas.{begun_point}
use Rattle.jstops.proofs.stops.plan_from.Goals as goal

pub resume-requires : goal.resume-requires
resume-requires g c = c.requires

pub returns-in-Ok-clause-ready : goal.returns-in-Ok-clause-ready
returns-in-Ok-clause-ready g c =
    let of = c.in-Ok.ensures.begun.of in
    record { whole = of.whole; none = ap (λ h. h.bytes.items) of.sink ∙ c.new-held.ensures }

pub returns-in-Ok-clause-forming : goal.returns-in-Ok-clause-forming
returns-in-Ok-clause-forming g c =
    let of = c.in-Ok.ensures.begun.of in
    let plan = c.in-Ok.plan in
    let flash = c.args.on.flash in
    forming_at (packs_of plan) (is_packed c.args.on.forms) (page_size plan.page) (page_size flash.page) g.E.Order.order plan.block flash.geometry.block plan.blocks flash.blocks
    c.in-Ok.ensures.packs (ap page_size of.page) of.block of.blocks

pub returns-in-Ok-clause-point : goal.returns-in-Ok-clause-point
returns-in-Ok-clause-point g c =
    let of = c.in-Ok.ensures.begun.of in
    let goes = c.in-Ok.ensures.begun.begins.goes_on in
    let plan = c.in-Ok.plan in
    let flash = c.args.on.flash in
    begun_point g.E.Order.order flash plan.block plan.blocks c.args.mounted.now.image plan.log.cursor plan.log.index plan.held of.block of.blocks goes.cursor_is goes.index_is of.held
