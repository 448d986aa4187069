use Rattle.jreads.proofs.KeptLemmas.{all_are_measured}
use Rattle.jreads.proofs.laws.all_are_measured.Goals as goal

pub returns : goal.returns
returns c = all_are_measured
