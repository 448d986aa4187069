use Rattle.jnode.proofs.WeakLemmas.{torn_is_tile}
use Rattle.jnode.proofs.laws.torn_is_tile.Goals as goal

pub returns : goal.returns
returns c = torn_is_tile
