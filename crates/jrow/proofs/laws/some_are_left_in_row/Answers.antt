use Rattle.jrow.proofs.WithRowLemmas.{written_is_left_in_row}
use Rattle.jrow.proofs.laws.some_are_left_in_row.Goals as goal

pub returns : goal.returns
returns c = written_is_left_in_row
