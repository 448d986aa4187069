use Rattle.jcollect.proofs.ThroughLemmas.{copied_expands}
use Rattle.jcollect.proofs.laws.copied_expands.Goals as goal

pub returns : goal.returns
returns c = copied_expands
