use Rattle.jsteps.proofs.NumberLemmas.{device_number_reads_back}
use Rattle.jsteps.proofs.laws.device_number_reads_back.Goals as goal

pub returns : goal.returns
returns c = device_number_reads_back
