use Rattle.jinfo.proofs.SizeLemmas.{told_are_left}
use Rattle.jinfo.proofs.laws.told_are_left.Goals as goal

pub returns : goal.returns
returns c = told_are_left
