use Rattle.jstops.proofs.LawLemmas.{lines_are_forms}
use Rattle.jstops.proofs.laws.lines_are_forms.Goals as goal

pub returns : goal.returns
returns c = lines_are_forms
