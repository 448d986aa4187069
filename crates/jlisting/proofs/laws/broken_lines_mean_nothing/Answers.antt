use Rattle.jlisting.proofs.BrokenLemmas.{broken_lines_mean_nothing}
use Rattle.jlisting.proofs.laws.broken_lines_mean_nothing.Goals as goal

pub returns : goal.returns
returns c = broken_lines_mean_nothing
