use Rattle.jlog.proofs.MountThroughLemmas.{plain_mounts_through, through_mounts_plain}
use Rattle.jlog.proofs.laws.mount_through.Goals as goal

pub returns-clause-plain : goal.returns-clause-plain
returns-clause-plain c = plain_mounts_through

pub returns-clause-through : goal.returns-clause-through
returns-clause-through c = through_mounts_plain
