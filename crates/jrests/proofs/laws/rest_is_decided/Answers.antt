use Rattle.jrests.proofs.DecidedLemmas.{rest_is_decided, rest_is_one}
use Rattle.jrests.proofs.laws.rest_is_decided.Goals as goal

pub returns-clause-decided : goal.returns-clause-decided
returns-clause-decided c = rest_is_decided

pub returns-clause-one : goal.returns-clause-one
returns-clause-one c = rest_is_one
