use Rattle.jedge.proofs.Steps.{then_reported}
use Rattle.jinspects.proofs.commands.run_map.Goals as goal

pub returns : goal.returns
returns g c = then_reported c.map-answer.ensures c.report.ensures
