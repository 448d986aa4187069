use Rattle.jnode.proofs.WeakLemmas.{torn_node_is_damaged}
use Rattle.jnode.proofs.laws.torn_node_is_damaged.Goals as goal

pub returns : goal.returns
returns c = torn_node_is_damaged
