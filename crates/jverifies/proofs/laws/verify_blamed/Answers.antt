use Rattle.jverifies.proofs.VerifyLaws.{verify_blamed}
use Rattle.jverifies.proofs.laws.verify_blamed.Goals as goal

pub returns : goal.returns
returns c = verify_blamed
