use Rattle.jhistory.proofs.TotalsLemmas.{totals_sum}
use Rattle.jhistory.proofs.laws.totals_are_all.Goals as goal

pub returns : goal.returns
returns c = totals_sum
