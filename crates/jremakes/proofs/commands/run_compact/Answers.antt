use Rattle.jedge.proofs.Steps.{then_reported}
use Rattle.jremakes.proofs.commands.run_compact.Goals as goal

pub returns : goal.returns
returns g c = then_reported c.compact-answer.ensures c.report_remade.ensures
