use Rattle.jopenings.proofs.ExistLemmas.{some_are_left}
use Rattle.jopenings.proofs.laws.some_are_left_in_openings.Goals as goal

pub returns : goal.returns
returns c = some_are_left
