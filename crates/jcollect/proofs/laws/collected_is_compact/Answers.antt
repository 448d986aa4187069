use Rattle.jcollect.proofs.CollectLemmas.{collected_is_compact, collected_is_within, collected_mounts}
use Rattle.jcollect.proofs.laws.collected_is_compact.Goals as goal

pub returns-clause-compact : goal.returns-clause-compact
returns-clause-compact c = collected_is_compact

pub returns-clause-within : goal.returns-clause-within
returns-clause-within c = collected_is_within

pub returns-clause-mounts : goal.returns-clause-mounts
returns-clause-mounts c = collected_mounts
