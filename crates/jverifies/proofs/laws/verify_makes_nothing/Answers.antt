use Rattle.jverifies.proofs.VerifyLaws.{verify_makes_nothing}
use Rattle.jverifies.proofs.laws.verify_makes_nothing.Goals as goal

pub returns : goal.returns
returns c = verify_makes_nothing
