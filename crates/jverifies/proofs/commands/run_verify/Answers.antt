use Rattle.jedge.proofs.Steps.{then_reported}
use Rattle.jverifies.proofs.commands.run_verify.Goals as goal

pub returns : goal.returns
returns g c = then_reported c.verify-answer.ensures c.report.ensures
