use Rattle.jcommand.specs.Parsed.{verification_view}
use Rattle.jfolder.specs.declared.found.Options.{Options}
use Rattle.jlog.specs.declared.start.Flash.{Flash}
use Rattle.jnode.specs.declared.order.Endian.{Endian}
use Rattle.jedge.proofs.Steps.{does_at, then_err, then_ok}
use Rattle.jfolders.specs.Keeping.{reads_folder}
use Rattle.jpacks.specs.Packing.{writes_listed}
use Rattle.jverifies.specs.Verifying.{compares_text, flash_verified}
use Rattle.jverifies.proofs.verifying.compare_folder.Goals as goal

pub returns-in-Ok : goal.returns-in-Ok
returns-in-Ok g c =
    let asked = c.args.asked in
    then_ok (does_at (λ (o : Options). reads_folder asked.folder.now asked.quiet o) c.settings_of-settings.ensures c.in-Ok.ensures)
    (does_at (λ (e : Endian). writes_listed (compares_text g.E.Order.order (record { image = c.args.image.now; how = record { times = asked.times; order = e }; flash = flash_verified (verification_view asked) })) c.in-Ok.listed)
    c.requires
    (does_at (λ (f : Flash). writes_listed (compares_text g.E.Order.order (record { image = c.args.image.now; how = record { times = asked.times; order = asked.options.endian }; flash = f })) c.in-Ok.listed)
    c.flash_of.ensures c.compare_listed.ensures))

pub returns-in-Err : goal.returns-in-Err
returns-in-Err g c =
    let asked = c.args.asked in
    then_err (does_at (λ (o : Options). reads_folder asked.folder.now asked.quiet o) c.settings_of-settings.ensures c.in-Err.ensures)
