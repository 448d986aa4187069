use Rattle.std.proofs.Common.{ℕ, List, length, subst, sym}
use Rattle.std.specs.Prelude.{◌≤◌}
use Rattle.jcommand.specs.Parsed.{updating_view}
use Rattle.jscan.specs.Image.{greatest_image}
use Rattle.jedge.proofs.Steps.{does_at, then_err, then_ok}
use Rattle.jupdates.specs.Asked.{DeviceWanted, device_to_write, device_wanted}
use Rattle.jupdates.specs.Commands.{updates_listing}
use Rattle.jupdates.proofs.LoadLemmas.{loaded_small}
use Rattle.jupdates.proofs.commands.update.Goals as goal

pub returns-in-Err : goal.returns-in-Err
returns-in-Err g c = then_err c.in-Err.ensures

pub device_of-device-requires : goal.device_of-device-requires
device_of-device-requires g c =
    subst (λ (l : List ℕ). length l ≤ greatest_image) (sym c.as_slice-bytes.ensures.value) (loaded_small c.in-Ok.ensures)

pub returns-in-Ok-load : goal.returns-in-Ok-load
returns-in-Ok-load g c =
    let e = g.E.Order.order in
    let u = updating_view c.args.asked in
    let text = c.in-Ok-load.text.items in
    let bytes = c.as_slice-bytes.result.now in
    then_ok c.in-Ok.ensures (then_ok c.in-Ok-load.ensures
    (does_at (λ (i : List ℕ). updates_listing e (device_wanted u i) i text) c.as_slice-bytes.ensures.value
    (does_at (λ (w : DeviceWanted). updates_listing e w bytes text) c.device_of-device.ensures
    (does_at (λ (t : List ℕ). updates_listing e (device_to_write c.device_of-device.result) bytes t) c.as_slice.ensures.value c.update_listing.ensures))))

pub returns : goal.returns
returns g c = then_ok c.in-Ok.ensures (then_err c.in-Err-load.ensures)
