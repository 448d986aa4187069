use Rattle.jcollect.proofs.TileLemmas.{sighted_is_tile}
use Rattle.jcollect.proofs.laws.sighted_is_tile.Goals as goal

pub returns : goal.returns
returns c = sighted_is_tile
