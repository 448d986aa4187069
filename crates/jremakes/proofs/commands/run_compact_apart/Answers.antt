use Rattle.jedge.proofs.Steps.{then_reported}
use Rattle.jremakes.proofs.commands.run_compact_apart.Goals as goal

pub returns : goal.returns
returns g c = then_reported c.compact_apart-answer.ensures c.report_apart.ensures
