use Rattle.jedge.proofs.Steps.{then_reported}
use Rattle.jedge.proofs.commands.run_check.Goals as goal

pub returns : goal.returns
returns g c = then_reported c.check-answer.ensures c.report.ensures
