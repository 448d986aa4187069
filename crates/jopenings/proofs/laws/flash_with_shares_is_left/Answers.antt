use Rattle.jopenings.proofs.StretchLemmas.{flash_with_shares_is_left}
use Rattle.jopenings.proofs.laws.flash_with_shares_is_left.Goals as goal

pub returns : goal.returns
returns c = flash_with_shares_is_left
