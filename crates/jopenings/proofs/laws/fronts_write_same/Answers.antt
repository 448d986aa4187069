use Rattle.jopenings.proofs.FrontWriteLemmas.{fronts_write_same, fronts_stop_same}
use Rattle.jopenings.proofs.laws.fronts_write_same.Goals as goal

pub returns-clause-whole : goal.returns-clause-whole
returns-clause-whole c = fronts_write_same

pub returns-clause-stop : goal.returns-clause-stop
returns-clause-stop c = fronts_stop_same
