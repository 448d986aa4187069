use Rattle.jrow.proofs.TailLemmas.{base_is_arranged, arranged_mounts, row_is_tail, arranged_begins, arranged_survives, arranged_earlier_stand}
use Rattle.jrow.proofs.laws.row_is_tail.Goals as goal

pub returns-clause-base : goal.returns-clause-base
returns-clause-base c = base_is_arranged

pub returns-clause-mounts : goal.returns-clause-mounts
returns-clause-mounts c = arranged_mounts

pub returns-clause-tail : goal.returns-clause-tail
returns-clause-tail c = row_is_tail

pub returns-clause-begins : goal.returns-clause-begins
returns-clause-begins c = arranged_begins

pub returns-clause-survives : goal.returns-clause-survives
returns-clause-survives c = arranged_survives

pub returns-clause-earlier : goal.returns-clause-earlier
returns-clause-earlier c = arranged_earlier_stand
