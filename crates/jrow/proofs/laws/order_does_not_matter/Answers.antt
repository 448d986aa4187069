use Rattle.jrow.proofs.OrderLemmas.{order_does_not_matter, merged_make_same}
use Rattle.jrow.proofs.laws.order_does_not_matter.Goals as goal

pub returns-clause-any : goal.returns-clause-any
returns-clause-any c = order_does_not_matter

pub returns-clause-merged : goal.returns-clause-merged
returns-clause-merged c = merged_make_same
