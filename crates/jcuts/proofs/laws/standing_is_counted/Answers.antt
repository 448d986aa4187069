use Rattle.jcuts.proofs.CountLemmas.{standing_is_counted}
use Rattle.jcuts.proofs.laws.standing_is_counted.Goals as goal

pub returns : goal.returns
returns c = standing_is_counted
