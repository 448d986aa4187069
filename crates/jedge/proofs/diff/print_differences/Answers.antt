use Rattle.std.proofs.Common.{◌∙◌, ap}
use Rattle.std.specs.Prelude.{Result}
use Rattle.jedge.specs.Acts.{and_closed, seen_as}
use Rattle.jedge.specs.Comparing.{compared}
use Rattle.jedge.specs.Told.{Told, found_told}
use Rattle.jedge.specs.declared.fault.Fault.{Fault}
use Rattle.jedge.proofs.ComparingLemmas.{differs_put}
use Rattle.jedge.proofs.Steps.{not_printed, printed_put, seen_closed}
use Rattle.jedge.proofs.diff.print_differences.Goals as goal

pub returns-in-Err : goal.returns-in-Err
returns-in-Err g c = not_printed c.output.ensures.same c.in-Err.ensures.memory

pub returns : goal.returns
returns g c =
    let asked = c.args.asked in
    let left = c.args.left in
    let right = c.args.right in
    printed_put _ c.output.ensures.same c.in-Ok.ensures.sound c.in-Ok.ensures.empty
    (differs_put (record { times = asked.times; order = asked.options.endian }) left right (compared asked.first.now asked.second.now left right) _
    c.put_differences-put.result c.put_differences-put.ensures) c.close-closed.ensures
    (ap (seen_as found_told) c.finished.ensures
    ∙ seen_closed found_told c.lines_compared.result c.close-closed.result
    ∙ ap (λ (r : Result Told Fault). and_closed r c.close-closed.result) c.lines_compared.ensures)
