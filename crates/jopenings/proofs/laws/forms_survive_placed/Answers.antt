use Rattle.jopenings.proofs.PlacedLemmas.{forms_survive_placed}
use Rattle.jopenings.proofs.laws.forms_survive_placed.Goals as goal

pub returns : goal.returns
returns c = forms_survive_placed
