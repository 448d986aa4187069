use Rattle.jlog.proofs.LeftLemmas.{left_forms, whole_forms}
use Rattle.jlog.proofs.laws.left_forms.Goals as goal

pub returns-clause-cut : goal.returns-clause-cut
returns-clause-cut c = left_forms

pub returns-clause-whole : goal.returns-clause-whole
returns-clause-whole c = whole_forms
