use Rattle.jlog.proofs.LeastLemmas.{blocks_are_least}
use Rattle.jlog.proofs.laws.blocks_are_least.Goals as goal

pub returns : goal.returns
returns c = blocks_are_least
