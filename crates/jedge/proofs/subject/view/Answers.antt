use Rattle.jedge.proofs.Steps.{answered, then_err, then_ok}
use Rattle.jedge.proofs.subject.view.Goals as goal

pub returns-in-Ok : goal.returns-in-Ok
returns-in-Ok g c = then_ok c.in-Ok.ensures (answered c.view_of.ensures)

pub returns-in-Err : goal.returns-in-Err
returns-in-Err g c = then_err c.in-Err.ensures
