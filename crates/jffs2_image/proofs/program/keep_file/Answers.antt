use Rattle.jedge.proofs.Steps.{answered, then_ok}
use Rattle.jffs2_image.proofs.program.keep_file.Goals as goal

pub returns : goal.returns
returns g c = then_ok c.is_one_file-over.ensures (answered c.may_replace.ensures)
