use Rattle.jrow.proofs.MovedLemmas.{log_is_moved}
use Rattle.jrow.proofs.laws.log_is_moved.Goals as goal

pub returns : goal.returns
returns c = log_is_moved
