use Rattle.jnode.proofs.FitsLemmas.{seen_is_read}
use Rattle.jnode.proofs.laws.seen_is_read.Goals as goal

pub returns : goal.returns
returns c = seen_is_read
