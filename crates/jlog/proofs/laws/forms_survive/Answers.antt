use Rattle.jlog.proofs.HeadlineThroughLemmas.{forms_survive}
use Rattle.jlog.proofs.laws.forms_survive.Goals as goal

pub returns : goal.returns
returns c = forms_survive
