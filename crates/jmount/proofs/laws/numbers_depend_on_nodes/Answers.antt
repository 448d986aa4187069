use Rattle.jmount.proofs.StateLemmas.{next-same, top-same, tops-same}
use Rattle.jmount.proofs.laws.numbers_depend_on_nodes.Goals as goal

pub returns : goal.returns
returns c = record { next = next-same; top = top-same; tops = tops-same }
