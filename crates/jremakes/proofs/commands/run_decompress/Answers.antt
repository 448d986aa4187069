use Rattle.jedge.proofs.Steps.{then_reported}
use Rattle.jremakes.proofs.commands.run_decompress.Goals as goal

pub returns : goal.returns
returns g c = then_reported c.decompress-answer.ensures c.report_remade.ensures
