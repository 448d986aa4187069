use Rattle.std.proofs.Common.{◌≡◌, ℕ, List, refl, subst, sym}
use Rattle.std.specs.Prelude.{IsOk}
use Rattle.jsteps.specs.declared.op.Op.{Op}
use Rattle.jdevice.specs.Run.{device_done}
use Rattle.jdevice.proofs.RunLemmas.{gone_on_at}
use Rattle.jedge.specs.Told.{Told}
use Rattle.jedge.proofs.Steps.{answered, answered_at, does_at, then_err, then_ok}
use Rattle.jupdates.specs.Asked.{device_to_write}
use Rattle.jupdates.specs.Updating.{RunsOnDevice, updated_told, writes_device}
use Rattle.jupdates.proofs.updated.update_mounted.Goals as goal

pub returns-in-Err : goal.returns-in-Err
returns-in-Err g c = then_err (answered c.in-Err.ensures)

pub run-requires-clause-goes_on : goal.run-requires-clause-goes_on
run-requires-clause-goes_on g c = subst IsOk (sym c.in-Ok.ensures) refl

pub updated_found-found-requires-clause-readable : goal.updated_found-found-requires-clause-readable
updated_found-found-requires-clause-readable g c = (gone_on_at g.E.Order.order c.args.device.on.flash c.args.mounted.now _ c.in-Ok.ensures).readable

pub updated_found-found-requires-clause-small : goal.updated_found-found-requires-clause-small
updated_found-found-requires-clause-small g c = (gone_on_at g.E.Order.order c.args.device.on.flash c.args.mounted.now _ c.in-Ok.ensures).small

pub updated_found-found-requires-clause-lie : goal.updated_found-found-requires-clause-lie
updated_found-found-requires-clause-lie g c = c.in-Ok-run.ensures.lie

pub write_device-requires-clause-readable : goal.write_device-requires-clause-readable
write_device-requires-clause-readable g c = (gone_on_at g.E.Order.order c.args.device.on.flash c.args.mounted.now _ c.in-Ok.ensures).readable

pub write_device-requires-clause-small : goal.write_device-requires-clause-small
write_device-requires-clause-small g c = (gone_on_at g.E.Order.order c.args.device.on.flash c.args.mounted.now _ c.in-Ok.ensures).small

pub write_device-requires-clause-lie : goal.write_device-requires-clause-lie
write_device-requires-clause-lie g c = c.in-Ok-run.ensures.lie

pub returns-in-Ok-run : goal.returns-in-Ok-run
returns-in-Ok-run g c =
    let e = g.E.Order.order in
    let a = c.args in
    let m = a.mounted.now in
    let wanted = device_to_write a.device in
    let run = device_done c.in-Ok-run.run' in
    let told = updated_told wanted a.others m run in
    then_ok (answered c.in-Ok.ensures)
    (then_ok (answered_at (λ (ops : List Op). RunsOnDevice e a.device.on m.image ops) c.deref.ensures.value c.in-Ok-run.ensures)
    (does_at (λ (i : List ℕ). writes_device wanted i a.of.now.numbers.items run told) c.image.ensures
    (does_at (λ (n : List ℕ). writes_device wanted c.image.result.now n run told) c.deref-in-Ok-run.ensures.value
    (does_at (λ (t : Told). writes_device wanted c.image.result.now c.deref-in-Ok-run.result.now run t) c.updated_found-found.ensures c.write_device.ensures))))

pub returns-in-Err-run : goal.returns-in-Err-run
returns-in-Err-run g c =
    then_ok (answered c.in-Ok.ensures)
    (then_err (answered_at (λ (ops : List Op). RunsOnDevice g.E.Order.order c.args.device.on c.args.mounted.now.image ops) c.deref.ensures.value c.in-Err-run.ensures))
