use Rattle.std.proofs.Common.{None}
use Rattle.jfolder.specs.declared.found.Options.{Options}
use Rattle.jedge.proofs.Steps.{does_at, then_err, then_ok}
use Rattle.jfolders.specs.Keeping.{reads_folder}
use Rattle.jmakes.specs.Commands.{writes_text}
use Rattle.jmakes.specs.Writing.{ImageWanted}
use Rattle.jpacks.specs.Packing.{writes_listed}
use Rattle.jpacks.proofs.packing.pack.Goals as goal

pub returns-in-Ok : goal.returns-in-Ok
returns-in-Ok g c =
    let asked = c.args.asked in
    then_ok (does_at (λ (o : Options). reads_folder asked.folder.now asked.quiet o) c.settings_of-settings.ensures c.in-Ok.ensures)
    (does_at (λ (w : ImageWanted). writes_listed (writes_text w None) c.in-Ok.listed) (c.image_of.ensures g.E.Order.order) c.write_listed.ensures)

pub returns-in-Err : goal.returns-in-Err
returns-in-Err g c =
    let asked = c.args.asked in
    then_err (does_at (λ (o : Options). reads_folder asked.folder.now asked.quiet o) c.settings_of-settings.ensures c.in-Err.ensures)
