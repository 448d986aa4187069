use Rattle.jrow.proofs.MergedLemmas.{row_is_merged}
use Rattle.jrow.proofs.laws.row_is_merged.Goals as goal

pub returns : goal.returns
returns c = row_is_merged
