use Rattle.std.proofs.Common.{◌∙◌, ap}
use Rattle.jedge.specs.Acts.{seen_as}
use Rattle.jedge.specs.Told.{found_told}
use Rattle.jedge.proofs.Steps.{not_printed, printed_put, seen_closed}
use Rattle.jinspects.proofs.recalling.print_revision.Goals as goal

pub returns-in-Err : goal.returns-in-Err
returns-in-Err g c = not_printed c.output.ensures.same c.in-Err.ensures.memory

pub returns : goal.returns
returns g c = printed_put _ c.output.ensures.same c.in-Ok.ensures.sound c.in-Ok.ensures.empty
    c.put_recalled-answer.ensures c.close-closed.ensures
    (ap (seen_as found_told) c.finished.ensures
    ∙ seen_closed found_told c.put_recalled-answer.result c.close-closed.result)
