use Rattle.flashbase.proofs.ListLemmas.{get_of_tabled}
use Rattle.flashbase.proofs.laws.get_of_tabled.Goals as goal

pub returns : goal.returns
returns g c = get_of_tabled
