use Rattle.jextract.proofs.BelowLemmas.{makes_below}
use Rattle.jextract.proofs.laws.makes_below.Goals as goal

pub returns : goal.returns
returns c = makes_below
