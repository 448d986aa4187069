use Rattle.jopenings.proofs.FrontLemmas.{fronts_hold_same, fronts_place_same}
use Rattle.jopenings.proofs.laws.fronts_are_row.Goals as goal

pub returns-clause-room : goal.returns-clause-room
returns-clause-room c = fronts_hold_same

pub returns-clause-places : goal.returns-clause-places
returns-clause-places c = fronts_place_same
