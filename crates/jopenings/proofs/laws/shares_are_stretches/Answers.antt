use Rattle.jopenings.proofs.LongerLemmas.{stretches_begin, stretches_go_on}
use Rattle.jopenings.proofs.StretchLemmas.{shares_are_stretches}
use Rattle.jopenings.proofs.laws.shares_are_stretches.Goals as goal

pub returns-clause-within : goal.returns-clause-within
returns-clause-within c = shares_are_stretches

pub returns-clause-begin : goal.returns-clause-begin
returns-clause-begin c = stretches_begin

pub returns-clause-go_on : goal.returns-clause-go_on
returns-clause-go_on c = stretches_go_on
