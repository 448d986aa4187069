use Rattle.std.proofs.Common.{ℕ, List, []}
use Rattle.jedge.proofs.Steps.{does_at, then_err, then_ok}
use Rattle.jupdates.specs.Asked.{DeviceWanted, device_to_write}
use Rattle.jupdates.specs.Commands.{updates_listing}
use Rattle.jupdates.proofs.commands.build_compressed.Goals as goal

pub returns-in-Ok : goal.returns-in-Ok
returns-in-Ok g c =
    let e = g.E.Order.order in
    then_ok c.in-Ok.ensures
    (does_at (λ (w : DeviceWanted). updates_listing e w [] c.in-Ok.text.items) c.device_built-device.ensures
    (does_at (λ (t : List ℕ). updates_listing e (device_to_write c.device_built-device.result) [] t) c.as_slice.ensures.value c.update_listing.ensures))

pub returns-in-Err : goal.returns-in-Err
returns-in-Err g c = then_err c.in-Err.ensures
