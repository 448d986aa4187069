use Rattle.jedge.proofs.Steps.{then_reported}
use Rattle.jinspects.proofs.commands.run_cat_inode.Goals as goal

pub returns : goal.returns
returns g c = then_reported c.cat_inode-answer.ensures c.report.ensures
