use Rattle.std.proofs.Common.{◌≡◌, ◌∙◌, Bool, IsTrue, false, sym}
use Rattle.jreport.specs.NoNodes.{HasNoNode}
use Rattle.jreport.proofs.no_nodes.others_if_none.Goals as goal

unseen : (b : Bool) → b ≡ false → IsTrue b → ⊥
unseen b not is = absurd (cc)

pub returns : goal.returns
returns g c =
    let none : HasNoNode g.E.Order.order c.args.geometry.block c.args.image.now = record {
      scannable = c.in-Ok.ensures.scannable;
      none = sym c.in-Ok.ensures.sightings ∙ c.in-None.ensures.steps.0;
      written = λ blank. unseen c.is_all_erased.result c.if-is_all_erased.false (c.is_all_erased.ensures.1 blank);
    } in
    (none, c.other_count.ensures g.E.Order.order none)
