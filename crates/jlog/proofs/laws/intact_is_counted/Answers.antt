use Rattle.jlog.proofs.IntactLemmas.{intact_is_counted, whole_is_beginning, all_is_intact}
use Rattle.jlog.proofs.laws.intact_is_counted.Goals as goal

pub returns-clause-counted : goal.returns-clause-counted
returns-clause-counted c = intact_is_counted

pub returns-clause-beginning : goal.returns-clause-beginning
returns-clause-beginning c = whole_is_beginning

pub returns-clause-all : goal.returns-clause-all
returns-clause-all c = all_is_intact
