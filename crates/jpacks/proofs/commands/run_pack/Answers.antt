use Rattle.jedge.proofs.Steps.{then_reported}
use Rattle.jpacks.proofs.commands.run_pack.Goals as goal

pub returns : goal.returns
returns g c = then_reported c.pack-answer.ensures c.report_packed.ensures
