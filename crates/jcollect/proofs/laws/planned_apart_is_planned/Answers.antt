use Rattle.jcollect.proofs.ApartLemmas.{planned_apart_is_planned}
use Rattle.jcollect.proofs.laws.planned_apart_is_planned.Goals as goal

pub returns : goal.returns
returns c = planned_apart_is_planned
