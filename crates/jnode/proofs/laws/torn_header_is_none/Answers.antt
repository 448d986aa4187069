use Rattle.jnode.proofs.WeakLemmas.{torn_header_is_none}
use Rattle.jnode.proofs.laws.torn_header_is_none.Goals as goal

pub returns : goal.returns
returns c = torn_header_is_none
