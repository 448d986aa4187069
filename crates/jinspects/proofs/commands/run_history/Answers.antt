use Rattle.jedge.proofs.Steps.{then_reported}
use Rattle.jinspects.proofs.commands.run_history.Goals as goal

pub returns : goal.returns
returns g c = then_reported c.history-answer.ensures c.report.ensures
