use Rattle.jupdate.proofs.UpdateLemmas.{whole_in_openings}
use Rattle.jupdate.proofs.laws.updates_are_whole_in_openings.Goals as goal

pub returns : goal.returns
returns c = whole_in_openings
