use Rattle.jedge.proofs.Steps.{then_reported}
use Rattle.jreads.proofs.commands.run_scan.Goals as goal

pub returns : goal.returns
returns g c = then_reported c.scan-answer.ensures c.report.ensures
