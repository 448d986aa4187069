use Rattle.jedge.proofs.Steps.{then_reported}
use Rattle.jreads.proofs.commands.run_cuts.Goals as goal

pub returns : goal.returns
returns g c = then_reported c.cuts-answer.ensures c.report.ensures
