use Rattle.jrests.proofs.ShareLemmas.{shares_hold_all, shares_fit}
use Rattle.jrests.proofs.laws.shares_hold_all.Goals as goal

pub returns-clause-all : goal.returns-clause-all
returns-clause-all c = shares_hold_all

pub returns-clause-within : goal.returns-clause-within
returns-clause-within c = shares_fit
