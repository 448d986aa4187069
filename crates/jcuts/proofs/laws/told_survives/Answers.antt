use Rattle.jcuts.proofs.ToldLemmas.{told_survives}
use Rattle.jcuts.proofs.laws.told_survives.Goals as goal

pub returns : goal.returns
returns c = told_survives
