use Rattle.jnode.proofs.WritingLemmas.{marker_is_tile}
use Rattle.jnode.proofs.laws.marker_is_tile.Goals as goal

pub returns : goal.returns
returns c = marker_is_tile
