use Rattle.jreads.proofs.LookLemmas.{cuts_read_only}
use Rattle.jreads.proofs.laws.cuts_read_only.Goals as goal

pub returns : goal.returns
returns c = cuts_read_only
