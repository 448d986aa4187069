use Rattle.std.proofs.Common.{◌∙◌, ap}
use Rattle.std.specs.Prelude.{Result, option_map}
use Rattle.jedge.specs.Acts.{and_closed, seen_as}
use Rattle.jedge.specs.Told.{Told, found_told}
use Rattle.jedge.specs.declared.fault.Fault.{Fault}
use Rattle.jedge.proofs.ShowingLemmas.{lists_put}
use Rattle.jedge.proofs.Steps.{not_printed, printed_put, seen_closed}
use Rattle.jedge.proofs.list.print_lines.Goals as goal

pub returns-in-Err : goal.returns-in-Err
returns-in-Err g c = not_printed c.output.ensures.same c.in-Err.ensures.memory

pub returns : goal.returns
returns g c = printed_put _ c.output.ensures.same c.in-Ok.ensures.sound c.in-Ok.ensures.empty
    (lists_put c.args.mounted.now.state (option_map (λ path. path.items) c.args.part.now) _ _
    c.put_lines-put.result c.put_lines-put.ensures) c.close-closed.ensures
    (ap (seen_as found_told) c.finished.ensures
    ∙ seen_closed found_told c.put_found.result c.close-closed.result
    ∙ ap (λ (r : Result Told Fault). and_closed r c.close-closed.result) c.put_found.ensures)
