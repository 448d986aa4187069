use Rattle.flashbase.proofs.ListLemmas.{greatest_is_greatest}
use Rattle.flashbase.proofs.laws.greatest_is_greatest.Goals as goal

pub returns : goal.returns
returns c = greatest_is_greatest
