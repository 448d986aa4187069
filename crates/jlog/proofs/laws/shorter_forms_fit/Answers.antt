use Rattle.jlog.proofs.ShorterLemmas.{shorter_forms_fit}
use Rattle.jlog.proofs.laws.shorter_forms_fit.Goals as goal

pub returns : goal.returns
returns c = shorter_forms_fit
