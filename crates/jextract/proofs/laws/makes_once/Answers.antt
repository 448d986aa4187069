use Rattle.jextract.proofs.OnceLemmas.{makes_once}
use Rattle.jextract.proofs.laws.makes_once.Goals as goal

pub returns : goal.returns
returns c = makes_once
