use Rattle.flashbase.proofs.ListLemmas.{newest_of_one_more}
use Rattle.flashbase.proofs.laws.newest_of_one_more.Goals as goal

pub returns : goal.returns
returns g c = newest_of_one_more
