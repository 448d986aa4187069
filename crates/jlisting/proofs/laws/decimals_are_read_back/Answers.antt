use Rattle.jlisting.proofs.NumberLemmas.{decimals_are_read_back}
use Rattle.jlisting.proofs.laws.decimals_are_read_back.Goals as goal

pub returns : goal.returns
returns c = decimals_are_read_back
