use Rattle.jrests.proofs.StandLemmas.{left_in_openings, whole_in_openings}
use Rattle.jrests.proofs.laws.left_in_openings.Goals as goal

pub returns-clause-cut : goal.returns-clause-cut
returns-clause-cut c = left_in_openings

pub returns-clause-whole : goal.returns-clause-whole
returns-clause-whole c = whole_in_openings
