use Rattle.jmount.proofs.LeastLemmas.{next_is_least, top_is_least}
use Rattle.jmount.proofs.laws.numbers_are_least.Goals as goal

pub returns : goal.returns
returns c = record { next = next_is_least; top = top_is_least }
