use Rattle.jconvert.proofs.ViewLemmas.{through_is_converted}
use Rattle.jconvert.proofs.laws.through_is_converted.Goals as goal

pub returns : goal.returns
returns c = through_is_converted
