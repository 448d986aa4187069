use Rattle.jverifies.proofs.ToldLemmas.{verified_is_same}
use Rattle.jverifies.proofs.laws.verified_is_same.Goals as goal

pub returns : goal.returns
returns c = verified_is_same
