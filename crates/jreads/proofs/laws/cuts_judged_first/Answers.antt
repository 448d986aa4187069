use Rattle.jreads.proofs.JudgeLemmas.{cuts_judged_first}
use Rattle.jreads.proofs.laws.cuts_judged_first.Goals as goal

pub returns : goal.returns
returns c = cuts_judged_first
