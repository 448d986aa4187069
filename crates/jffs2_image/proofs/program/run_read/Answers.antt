use Rattle.jedge.proofs.Steps.{step_reported, then_err, then_reported}
use Rattle.jffs2_image.proofs.program.run_read.Goals as goal

pub returns-in-Ok : goal.returns-in-Ok
returns-in-Ok g c = step_reported c.in-Ok.ensures c.run_looked.ensures

pub returns-in-Err : goal.returns-in-Err
returns-in-Err g c = then_reported (then_err c.in-Err.ensures) c.report.ensures
