use Rattle.jdamage.proofs.WouldChangeLemmas.{object_would_change}
use Rattle.jdamage.proofs.laws.would_change.Goals as goal

pub returns : goal.returns
returns c = object_would_change
