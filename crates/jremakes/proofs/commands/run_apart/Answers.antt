use Rattle.jedge.proofs.Steps.{then_reported}
use Rattle.jremakes.proofs.commands.run_apart.Goals as goal

pub returns : goal.returns
returns g c = then_reported c.apart-answer.ensures c.report_apart.ensures
