use Rattle.jedge.proofs.Steps.{answered_at, then_err, then_ok}
use Rattle.jedge.specs.Sparing.{FindsSpare}
use Rattle.jauto.proofs.leaving.leave_found.Goals as goal

pub returns-in-Err : goal.returns-in-Err
returns-in-Err g c = then_err c.in-Err.ensures

pub returns-in-Ok-find_spare : goal.returns-in-Ok-find_spare
returns-in-Ok-find_spare g c = then_ok c.in-Ok.ensures
    (then_ok (answered_at FindsSpare c.as_slice.ensures.value c.in-Ok-find_spare.ensures) c.leave_out.ensures)

pub returns : goal.returns
returns g c = then_ok c.in-Ok.ensures
    (then_err (answered_at FindsSpare c.as_slice.ensures.value c.in-Err-find_spare.ensures))
