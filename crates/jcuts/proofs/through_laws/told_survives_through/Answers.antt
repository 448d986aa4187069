use Rattle.jcuts.proofs.ToldThroughLemmas.{none_told, told_survives_through}
use Rattle.jcuts.proofs.through_laws.told_survives_through.Goals as goal

pub returns-clause-none : goal.returns-clause-none
returns-clause-none c = none_told

pub returns-clause-survives : goal.returns-clause-survives
returns-clause-survives c = told_survives_through
