use Rattle.jedge.proofs.JudgingLemmas.{judged_first}
use Rattle.jedge.proofs.laws.judged_first.Goals as goal

pub returns : goal.returns
returns c = judged_first
