use Rattle.jhalts.proofs.LawLemmas.{lines_are_forms_in_row}
use Rattle.jhalts.proofs.laws.lines_are_forms_in_row.Goals as goal

pub returns : goal.returns
returns c = lines_are_forms_in_row
