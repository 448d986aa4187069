use Rattle.std.proofs.Common.{[]}
use Rattle.jfolder.specs.declared.found.Options.{Options}
use Rattle.jedge.proofs.Steps.{does_at, then_err, then_ok}
use Rattle.jfolders.specs.Keeping.{reads_folder}
use Rattle.jupdates.specs.Asked.{DeviceWanted}
use Rattle.jupdates.specs.Commands.{updates_text}
use Rattle.jpacks.specs.Packing.{writes_listed}
use Rattle.jpacks.proofs.compressed.pack_compressed.Goals as goal

pub returns-in-Ok : goal.returns-in-Ok
returns-in-Ok g c =
    let asked = c.args.asked in
    then_ok (does_at (λ (o : Options). reads_folder asked.folder.now asked.quiet o) c.settings_of-settings.ensures c.in-Ok.ensures)
    (does_at (λ (w : DeviceWanted). writes_listed (updates_text g.E.Order.order w []) c.in-Ok.listed) c.device_of.ensures c.write_compressed.ensures)

pub returns-in-Err : goal.returns-in-Err
returns-in-Err g c =
    let asked = c.args.asked in
    then_err (does_at (λ (o : Options). reads_folder asked.folder.now asked.quiet o) c.settings_of-settings.ensures c.in-Err.ensures)
