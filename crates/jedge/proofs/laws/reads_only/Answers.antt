use Rattle.jedge.proofs.LookingLemmas.{reads_only}
use Rattle.jedge.proofs.laws.reads_only.Goals as goal

pub returns : goal.returns
returns c = reads_only
