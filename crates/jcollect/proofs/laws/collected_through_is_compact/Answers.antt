use Rattle.jcollect.proofs.CompactThroughLemmas.{collected_through_is_compact, collected_mounts_through}
use Rattle.jcollect.proofs.laws.collected_through_is_compact.Goals as goal

pub returns-clause-compact : goal.returns-clause-compact
returns-clause-compact c = collected_through_is_compact

pub returns-clause-mounts : goal.returns-clause-mounts
returns-clause-mounts c = collected_mounts_through
