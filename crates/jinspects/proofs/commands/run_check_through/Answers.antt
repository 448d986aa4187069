use Rattle.jedge.proofs.Steps.{then_reported}
use Rattle.jinspects.proofs.commands.run_check_through.Goals as goal

pub returns : goal.returns
returns g c = then_reported c.check_through-answer.ensures c.report.ensures
