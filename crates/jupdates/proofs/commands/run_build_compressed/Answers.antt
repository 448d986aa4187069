use Rattle.jedge.proofs.Steps.{then_reported}
use Rattle.jupdates.proofs.commands.run_build_compressed.Goals as goal

pub returns : goal.returns
returns g c = then_reported c.build_compressed-answer.ensures c.report.ensures
