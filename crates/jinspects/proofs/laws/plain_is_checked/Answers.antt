use Rattle.jinspects.proofs.PlainCheckLemmas.{plain_is_checked}
use Rattle.jinspects.proofs.laws.plain_is_checked.Goals as goal

pub returns : goal.returns
returns c = plain_is_checked
