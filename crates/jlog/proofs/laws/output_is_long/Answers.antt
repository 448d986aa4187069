use Rattle.jlog.proofs.IntactLemmas.{output_is_long}
use Rattle.jlog.proofs.laws.output_is_long.Goals as goal

pub returns : goal.returns
returns c = output_is_long
