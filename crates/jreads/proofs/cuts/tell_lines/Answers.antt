use Rattle.std.proofs.Common.{◌∙◌, ap}
use Rattle.std.specs.Prelude.{map}
use Rattle.jlisting.specs.declared.line.Line.{Line}
use Rattle.jcuts.specs.Cuts.{Asked}
use Rattle.jedge.proofs.Steps.{answered, does_at, then_err, then_ok}
use Rattle.jreads.specs.Cutting.{cuts_mounted}
use Rattle.jreads.proofs.CutsLemmas.{lacks_memory, same_asked, with_memory}
use Rattle.jreads.proofs.cuts.tell_lines.Goals as goal

pub returns-in-Err : goal.returns-in-Err
returns-in-Err g c =
    then_err (answered (lacks_memory c.in-Err.fault c.in-Err.ensures.memory))

pub returns-in-Err-operations : goal.returns-in-Err-operations
returns-in-Err-operations g c = then_err (answered tt)

pub returns-in-Ok-mounted : goal.returns-in-Ok-mounted
returns-in-Ok-mounted g c =
    with_memory (then_ok (answered c.in-Ok-mounted.ensures)
    (does_at (λ (asked : Asked). cuts_mounted g.E.Order.order c.args.flash asked c.in-Ok-mounted.mounted)
    (same_asked _ _ _ _ (c.as_slice-in-Ok-mounted.ensures.value ∙ c.in-Ok-operations.ensures)
    (c.as_slice-in-Ok-mounted-2.ensures.value ∙ c.in-Ok.ensures.numbers
    ∙ ap (map (λ (line : Line). line.number)) c.as_slice.ensures.value)) c.tell_mounted.ensures))

pub returns : goal.returns
returns g c = with_memory (then_err (answered c.in-Err-mounted.ensures))
