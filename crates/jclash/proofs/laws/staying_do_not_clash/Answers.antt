use Rattle.jclash.proofs.PartLemmas.{staying_do_not_clash, all_stay}
use Rattle.jclash.proofs.laws.staying_do_not_clash.Goals as goal

pub returns-clause-apart : goal.returns-clause-apart
returns-clause-apart c = staying_do_not_clash

pub returns-clause-all : goal.returns-clause-all
returns-clause-all c = all_stay
