use Rattle.jcuts.proofs.LeastLemmas.{weak_is_least}
use Rattle.jcuts.proofs.WholeLemmas.{whole_len_is_least}
use Rattle.jcuts.proofs.laws.standing_is_least.Goals as goal

pub returns-clause-whole : goal.returns-clause-whole
returns-clause-whole c = whole_len_is_least

pub returns-clause-weak : goal.returns-clause-weak
returns-clause-weak c = weak_is_least
