use Rattle.jmount.proofs.UseLemmas.{objects_fit}
use Rattle.jmount.proofs.laws.objects_fit.Goals as goal

pub returns : goal.returns
returns c = objects_fit
