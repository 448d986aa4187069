use Rattle.jlog.proofs.RunAsLemmas.{run_survives_as, run_goes_on_as}
use Rattle.jlog.proofs.laws.run_survives_as.Goals as goal

pub returns-clause-survives : goal.returns-clause-survives
returns-clause-survives c = run_survives_as

pub returns-clause-goes_on : goal.returns-clause-goes_on
returns-clause-goes_on c = run_goes_on_as
