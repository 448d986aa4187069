use Rattle.std.proofs.Common.{◌∙◌, ap}
use Rattle.jcuts.proofs.CutsLemmas.{fresh_point, same_flash}
use Rattle.jcuts.proofs.cuts.plan_from.Goals as goal

pub returns-in-Ok-clause-ready : goal.returns-in-Ok-clause-ready
returns-in-Ok-clause-ready g c =
    let begun = c.in-Ok.ensures.begun in
    record {
      whole = begun.whole;
      can = record { flash = c.in-Ok.plan.flash; holds = c.in-Ok.plan.holds; going = c.in-Ok.plan.going begun.whole };
      none = ap (λ h. h.bytes.items) begun.sink ∙ c.new-held.ensures;
    }

pub returns-in-Ok-clause-flash : goal.returns-in-Ok-clause-flash
returns-in-Ok-clause-flash g c =
    let begun = c.in-Ok.ensures.begun in
    let plan = c.in-Ok.plan in
    let flash = c.args.start.now.flash in
    same_flash plan.block flash.geometry.block plan.blocks flash.blocks plan.page flash.page begun.block begun.blocks begun.page

pub returns-in-Ok-clause-point : goal.returns-in-Ok-clause-point
returns-in-Ok-clause-point g c =
    let begun = c.in-Ok.ensures.begun in
    let plan = c.in-Ok.plan in
    let start = c.args.start.now in
    fresh_point g.E.Order.order start.flash plan.block plan.blocks plan.base.now start.mounted.now.image plan.cursor plan.index
    begun.block begun.blocks begun.base begun.resumed
