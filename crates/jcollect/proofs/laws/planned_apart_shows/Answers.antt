use Rattle.jcollect.proofs.ApartLemmas.{planned_apart_shows}
use Rattle.jcollect.proofs.laws.planned_apart_shows.Goals as goal

pub returns : goal.returns
returns c = planned_apart_shows
