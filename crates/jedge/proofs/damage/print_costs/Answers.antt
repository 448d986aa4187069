use Rattle.std.proofs.Common.{◌∙◌, ap}
use Rattle.jnode.specs.declared.order.Endian.{Endian}
use Rattle.jedge.specs.Acts.{and_closed, seen_as}
use Rattle.jedge.specs.Commands.{costs_found}
use Rattle.jedge.specs.Told.{Told, found_told}
use Rattle.jedge.specs.declared.fault.Fault.{Fault}
use Rattle.std.specs.Prelude.{Result}
use Rattle.jedge.proofs.CostLemmas.{costs_put}
use Rattle.jedge.proofs.Steps.{not_printed, printed_put, seen_closed}
use Rattle.jedge.proofs.damage.print_costs.Goals as goal

pub returns-in-Err : goal.returns-in-Err
returns-in-Err g c = not_printed c.output.ensures.same c.in-Err.ensures.memory

pub returns : goal.returns
returns g c = printed_put _ c.output.ensures.same c.in-Ok.ensures.sound c.in-Ok.ensures.empty
    (costs_put _ _ _ _ c.put_damage-put.result c.put_damage-put.ensures) c.close-closed.ensures
    (ap (seen_as found_told) c.finished.ensures
    ∙ seen_closed found_told c.costs_found.result c.close-closed.result
    ∙ ap (λ (r : Result Told Fault). and_closed r c.close-closed.result)
    (c.costs_found.ensures
    ∙ ap (λ (e : Endian). costs_found e c.args.options.geometry.block c.args.mounted.now c.put_damage-put.result) c.requires.order))
