use Rattle.jedge.proofs.Steps.{then_reported}
use Rattle.jmakes.proofs.commands.run_build.Goals as goal

pub returns : goal.returns
returns g c = then_reported c.build-answer.ensures c.report_written.ensures
