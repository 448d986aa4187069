use Rattle.jnode.proofs.MarkerLemmas.{torn_marker_is_none}
use Rattle.jnode.proofs.laws.torn_marker_is_none.Goals as goal

pub returns : goal.returns
returns c = torn_marker_is_none
