use Rattle.std.proofs.Common.{ℕ, List}
use Rattle.jcommand.specs.Parsed.{comparison_view}
use Rattle.jedge.specs.Commands.{compares}
use Rattle.jedge.proofs.Steps.{does_at, then_err, then_ok}
use Rattle.jedge.proofs.diff.diff.Goals as goal

pub returns-in-Err : goal.returns-in-Err
returns-in-Err g c = then_err c.in-Err.ensures

pub returns-in-Ok-load : goal.returns-in-Ok-load
returns-in-Ok-load g c =
    let asked = c.args.asked in
    then_ok c.in-Ok.ensures (then_ok c.in-Ok-load.ensures
    (does_at (λ (b : List ℕ). compares (comparison_view asked) b c.in-Ok-load.second.items)
    c.as_slice.ensures.value
    (does_at (λ (b : List ℕ). compares (comparison_view asked) c.as_slice.result.now b)
    c.as_slice-in-Ok-load.ensures.value c.compare.ensures)))

pub returns : goal.returns
returns g c = then_ok c.in-Ok.ensures (then_err c.in-Err-load.ensures)
