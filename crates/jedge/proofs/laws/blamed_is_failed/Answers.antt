use Rattle.jedge.proofs.BlamingLemmas.{blamed_is_failed}
use Rattle.jedge.proofs.laws.blamed_is_failed.Goals as goal

pub returns : goal.returns
returns c = blamed_is_failed
