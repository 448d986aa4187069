use Rattle.jedge.proofs.Steps.{then_err, then_ok}
use Rattle.jffs2_image.proofs.program.read_given.Goals as goal

pub returns-in-Ok : goal.returns-in-Ok
returns-in-Ok g c = then_ok c.in-Ok.ensures c.read_images.ensures

pub returns-in-Err : goal.returns-in-Err
returns-in-Err g c = then_err c.in-Err.ensures
