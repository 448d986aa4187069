use Rattle.flashbase.proofs.ListLemmas.{below_is_below}
use Rattle.flashbase.proofs.laws.below_is_below.Goals as goal

pub returns : goal.returns
returns c = below_is_below
