use Rattle.jedge.proofs.Steps.{then_err, then_ok}
use Rattle.jfolders.proofs.keeping.read_whole.Goals as goal

pub returns-in-Ok : goal.returns-in-Ok
returns-in-Ok g c = then_ok c.in-Ok.ensures.asks c.keep_through.ensures

pub returns-in-Err : goal.returns-in-Err
returns-in-Err g c = then_err c.in-Err.ensures.asks
