use Rattle.jedge.proofs.Steps.{answered, then_err, then_ok}
use Rattle.jverifies.proofs.comparing.compare_made.Goals as goal

pub returns-in-Ok : goal.returns-in-Ok
returns-in-Ok g c = then_ok (answered c.in-Ok.ensures) c.print_lines.ensures

pub returns-in-Err : goal.returns-in-Err
returns-in-Err g c = then_err (answered c.in-Err.ensures)
