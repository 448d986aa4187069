use Rattle.jhalts.proofs.LawLemmas.{halts_survive}
use Rattle.jhalts.proofs.laws.halts_survive.Goals as goal

pub returns : goal.returns
returns c = halts_survive
