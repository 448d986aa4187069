use Rattle.jreads.proofs.KeptLemmas.{all_are_kept}
use Rattle.jreads.proofs.laws.all_are_kept.Goals as goal

pub returns : goal.returns
returns c = all_are_kept
