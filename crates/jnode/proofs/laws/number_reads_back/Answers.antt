use Rattle.jnode.proofs.OrderLemmas.{number_in-bytes_in}
use Rattle.jnode.proofs.laws.number_reads_back.Goals as goal

pub returns : goal.returns
returns c = number_in-bytes_in
