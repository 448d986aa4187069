use Rattle.flashbase.proofs.ListLemmas.{newest_is_newest, newest_of_none}
use Rattle.flashbase.proofs.laws.newest_is_newest.Goals as goal

pub returns-clause-found : goal.returns-clause-found
returns-clause-found g c = newest_is_newest

pub returns-clause-none : goal.returns-clause-none
returns-clause-none g c = newest_of_none
