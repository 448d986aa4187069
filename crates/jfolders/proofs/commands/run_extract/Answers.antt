use Rattle.jedge.proofs.Steps.{then_reported}
use Rattle.jfolders.proofs.commands.run_extract.Goals as goal

pub returns : goal.returns
returns g c = then_reported c.extract-answer.ensures c.report.ensures
