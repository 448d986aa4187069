use Rattle.jcollect.proofs.StayingLemmas.{staying_are_placed}
use Rattle.jcollect.proofs.laws.staying_are_placed.Goals as goal

pub returns : goal.returns
returns c = staying_are_placed
