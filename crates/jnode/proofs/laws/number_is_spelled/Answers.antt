use Rattle.jnode.proofs.OrderLemmas.{number_is_spelled_2, number_is_spelled_4}
use Rattle.jnode.proofs.laws.number_is_spelled.Goals as goal

pub returns : goal.returns
returns c = record { of_2 = number_is_spelled_2; of_4 = number_is_spelled_4 }
