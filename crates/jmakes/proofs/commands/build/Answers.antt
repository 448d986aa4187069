use Rattle.std.proofs.Common.{ℕ, List, None}
use Rattle.jedge.proofs.Steps.{does_at, then_err, then_ok}
use Rattle.jmakes.specs.Commands.{writes_listing}
use Rattle.jmakes.specs.Seen.{image_to_write}
use Rattle.jmakes.specs.Writing.{ImageWanted}
use Rattle.jmakes.proofs.commands.build.Goals as goal

pub returns-in-Ok : goal.returns-in-Ok
returns-in-Ok g c =
    let e = g.E.Order.order in
    then_ok c.in-Ok.ensures
    (does_at (λ (w : ImageWanted). writes_listing w None c.in-Ok.text.items) (c.image_of.ensures e)
    (does_at (λ (t : List ℕ). writes_listing (image_to_write e c.image_of.result) None t) c.as_slice.ensures.value c.write_listing.ensures))

pub returns-in-Err : goal.returns-in-Err
returns-in-Err g c = then_err c.in-Err.ensures
