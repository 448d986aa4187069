use Rattle.jrests.proofs.OpeningLemmas.{openings_are_openings}
use Rattle.jrests.proofs.laws.openings_are_openings.Goals as goal

pub returns : goal.returns
returns c = openings_are_openings
