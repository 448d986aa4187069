use Rattle.jrests.proofs.SurviveLemmas.{forms_survive_in_openings}
use Rattle.jrests.proofs.laws.forms_survive_in_openings.Goals as goal

pub returns : goal.returns
returns c = forms_survive_in_openings
