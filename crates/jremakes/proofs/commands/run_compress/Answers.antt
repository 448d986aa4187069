use Rattle.jedge.proofs.Steps.{then_reported}
use Rattle.jremakes.proofs.commands.run_compress.Goals as goal

pub returns : goal.returns
returns g c = then_reported c.compress-answer.ensures c.report_remade.ensures
