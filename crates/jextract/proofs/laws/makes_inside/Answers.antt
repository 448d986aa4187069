use Rattle.jextract.proofs.InsideLemmas.{makes_inside}
use Rattle.jextract.proofs.laws.makes_inside.Goals as goal

pub returns : goal.returns
returns c = makes_inside
