use Rattle.jverifies.proofs.ToldLemmas.{verify_tells_differences}
use Rattle.jverifies.proofs.laws.verify_tells_differences.Goals as goal

pub returns : goal.returns
returns c = verify_tells_differences
