use Rattle.jthrough.proofs.PlainLemmas.{plain_is_mounted, mount_is_plain}
use Rattle.jthrough.proofs.laws.plain_is_mounted.Goals as goal

pub returns-clause-through : goal.returns-clause-through
returns-clause-through c = plain_is_mounted

pub returns-clause-plain : goal.returns-clause-plain
returns-clause-plain c = mount_is_plain
