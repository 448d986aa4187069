use Rattle.jrow.proofs.SideLemmas.{row_is_side_by_side}
use Rattle.jrow.proofs.laws.row_is_side_by_side.Goals as goal

pub returns : goal.returns
returns c = row_is_side_by_side
