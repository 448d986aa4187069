use Rattle.jrow.proofs.RowLemmas.{left_in_row_expands, whole_in_row_expands}
use Rattle.jrow.proofs.laws.left_in_row_expands.Goals as goal

pub returns-clause-cut : goal.returns-clause-cut
returns-clause-cut c = left_in_row_expands

pub returns-clause-whole : goal.returns-clause-whole
returns-clause-whole c = whole_in_row_expands
