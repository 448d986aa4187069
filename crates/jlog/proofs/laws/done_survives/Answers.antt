use Rattle.jlog.proofs.BeginThroughLemmas.{through_begins}
use Rattle.jlog.proofs.DoneThroughLemmas.{done_survives, done_goes_on}
use Rattle.jlog.proofs.laws.done_survives.Goals as goal

pub returns-clause-begins : goal.returns-clause-begins
returns-clause-begins c = through_begins

pub returns-clause-survives : goal.returns-clause-survives
returns-clause-survives c = done_survives

pub returns-clause-goes_on : goal.returns-clause-goes_on
returns-clause-goes_on c = done_goes_on
