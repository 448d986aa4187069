use Rattle.std.proofs.Common.{◌∙◌, ap}
use Rattle.std.specs.Prelude.{Result}
use Rattle.jedge.specs.Acts.{and_closed, seen_as}
use Rattle.jedge.specs.Told.{Told, found_told}
use Rattle.jedge.specs.declared.fault.Fault.{Fault}
use Rattle.jedge.proofs.ShowingLemmas.{contains_put}
use Rattle.jedge.proofs.Steps.{not_printed, printed_put, seen_closed}
use Rattle.jedge.proofs.cat.print_bytes.Goals as goal

pub returns-in-Err : goal.returns-in-Err
returns-in-Err g c = not_printed c.output.ensures.same c.in-Err.ensures.memory

pub returns : goal.returns
returns g c = printed_put _ c.output.ensures.same c.in-Ok.ensures.sound c.in-Ok.ensures.empty
    (contains_put _ _ _ c.content-put.result c.content-put.ensures) c.close-closed.ensures
    (ap (seen_as found_told) c.finished.ensures
    ∙ seen_closed found_told c.put_found.result c.close-closed.result
    ∙ ap (λ (r : Result Told Fault). and_closed r c.close-closed.result) c.put_found.ensures)
