use Rattle.jrow.proofs.RowLemmas.{other_blocks_stay}
use Rattle.jrow.proofs.laws.other_blocks_stay.Goals as goal

pub returns : goal.returns
returns c = other_blocks_stay
