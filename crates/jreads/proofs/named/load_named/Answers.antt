use Rattle.jedge.proofs.Steps.{then_err, then_ok}
use Rattle.jreads.proofs.named.load_named.Goals as goal

pub returns-in-Ok : goal.returns-in-Ok
returns-in-Ok g c = then_ok c.in-Ok.ensures.1 c.load_each.ensures

pub returns-in-Err : goal.returns-in-Err
returns-in-Err g c = then_err c.in-Err.ensures
