use Rattle.jinfo.proofs.SizeLemmas.{left_powers_fit}
use Rattle.jinfo.proofs.laws.left_powers_fit.Goals as goal

pub returns : goal.returns
returns c = left_powers_fit
