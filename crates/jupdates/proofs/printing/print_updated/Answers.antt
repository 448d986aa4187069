use Rattle.std.proofs.Common.{◌∙◌, ap}
use Rattle.jedge.specs.Acts.{seen_as}
use Rattle.jedge.specs.Told.{found_told}
use Rattle.jedge.proofs.Steps.{seen_closed}
use Rattle.jmakes.proofs.MakingSteps.{put_printed}
use Rattle.jupdates.proofs.printing.print_updated.Goals as goal

pub returns : goal.returns
returns g c = put_printed _ c.requires.sound c.requires.empty c.put_line-put.ensures c.close-closed.ensures
    (ap (seen_as found_told) c.finished.ensures ∙ seen_closed found_told c.put_line-put.result c.close-closed.result)
