use Rattle.jrow.proofs.TailLemmas.{forms_survive_in_row}
use Rattle.jrow.proofs.laws.forms_survive_in_row.Goals as goal

pub returns : goal.returns
returns c = forms_survive_in_row
