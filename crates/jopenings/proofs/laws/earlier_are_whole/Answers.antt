use Rattle.jopenings.proofs.AfterLemmas.{earlier_are_whole}
use Rattle.jopenings.proofs.laws.earlier_are_whole.Goals as goal

pub returns : goal.returns
returns c = earlier_are_whole
