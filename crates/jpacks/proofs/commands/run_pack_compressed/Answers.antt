use Rattle.jedge.proofs.Steps.{then_reported}
use Rattle.jpacks.proofs.commands.run_pack_compressed.Goals as goal

pub returns : goal.returns
returns g c = then_reported c.pack_compressed-answer.ensures c.report.ensures
