use Rattle.jedge.proofs.Steps.{then_reported}
use Rattle.jupdates.proofs.commands.run_update.Goals as goal

pub returns : goal.returns
returns g c = then_reported c.update-answer.ensures c.report.ensures
