use Rattle.jinfo.proofs.SizeLemmas.{fitting_are_told}
use Rattle.jinfo.proofs.laws.fitting_are_told.Goals as goal

pub returns : goal.returns
returns c = fitting_are_told
