use Rattle.std.proofs.Common.{ℕ, List, Some}
use Rattle.jedge.specs.Views.{viewed}
use Rattle.jedge.proofs.Steps.{does_at, then_err, then_ok}
use Rattle.jmakes.specs.Commands.{writes_listing}
use Rattle.jmakes.specs.Seen.{image_to_write}
use Rattle.jmakes.specs.Writing.{ImageWanted}
use Rattle.jmakes.proofs.commands.append.Goals as goal

pub returns-in-Err : goal.returns-in-Err
returns-in-Err g c = then_err c.in-Err.ensures

pub returns-in-Err-keep_base : goal.returns-in-Err-keep_base
returns-in-Err-keep_base g c = then_ok c.in-Ok.ensures (then_err c.in-Err-keep_base.ensures)

pub returns-in-Ok-load : goal.returns-in-Ok-load
returns-in-Ok-load g c =
    let e = g.E.Order.order in
    let base = Some (viewed c.in-Ok.base) in
    then_ok c.in-Ok.ensures (then_ok c.in-Ok-keep_base.ensures (then_ok c.in-Ok-load.ensures
    (does_at (λ (w : ImageWanted). writes_listing w base c.in-Ok-load.text.items) (c.image_of.ensures e)
    (does_at (λ (t : List ℕ). writes_listing (image_to_write e c.image_of.result) base t) c.as_slice.ensures.value c.write_listing.ensures))))

pub returns : goal.returns
returns g c = then_ok c.in-Ok.ensures (then_ok c.in-Ok-keep_base.ensures (then_err c.in-Err-load.ensures))
