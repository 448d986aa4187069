use Rattle.jedge.proofs.Steps.{then_reported}
use Rattle.jforetells.proofs.commands.run_cuts_update.Goals as goal

pub returns : goal.returns
returns g c = then_reported c.cuts_update-answer.ensures c.report.ensures
