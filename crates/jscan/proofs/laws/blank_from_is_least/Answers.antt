use Rattle.jscan.proofs.BlankLemmas.{blank_from_is_least}
use Rattle.jscan.proofs.laws.blank_from_is_least.Goals as goal

pub returns : goal.returns
returns c = blank_from_is_least
