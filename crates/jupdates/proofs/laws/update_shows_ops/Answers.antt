use Rattle.jupdates.proofs.ShownLemmas.{update_shows_ops}
use Rattle.jupdates.proofs.laws.update_shows_ops.Goals as goal

pub returns : goal.returns
returns c = update_shows_ops
