use Rattle.jfolder.specs.declared.found.Options.{Options}
use Rattle.jedge.proofs.Steps.{does_at, then_err, then_ok}
use Rattle.jfolders.specs.Commands.{listing_act}
use Rattle.jfolders.proofs.listing.listing.Goals as goal

pub returns-in-Ok : goal.returns-in-Ok
returns-in-Ok g c =
    does_at (λ (o : Options). listing_act o c.args.asked.quiet c.args.asked.folder.now)
    c.settings_of-options.ensures (then_ok c.in-Ok.ensures c.print_tree.ensures)

pub returns-in-Err : goal.returns-in-Err
returns-in-Err g c =
    does_at (λ (o : Options). listing_act o c.args.asked.quiet c.args.asked.folder.now)
    c.settings_of-options.ensures (then_err c.in-Err.ensures)
