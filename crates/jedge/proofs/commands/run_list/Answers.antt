use Rattle.jedge.proofs.Steps.{then_reported}
use Rattle.jedge.proofs.commands.run_list.Goals as goal

pub returns : goal.returns
returns g c = then_reported c.list-answer.ensures c.report.ensures
