use Rattle.flashbase.proofs.ListLemmas.{each_below_is_each}
use Rattle.flashbase.proofs.laws.each_below_is_each.Goals as goal

pub returns : goal.returns
returns g c = each_below_is_each
