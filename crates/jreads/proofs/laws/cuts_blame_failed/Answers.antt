use Rattle.jreads.proofs.BlameLemmas.{cuts_blame_failed}
use Rattle.jreads.proofs.laws.cuts_blame_failed.Goals as goal

pub returns : goal.returns
returns c = cuts_blame_failed
