use Rattle.jnode.proofs.WritingLemmas.{padding_is_tile}
use Rattle.jnode.proofs.laws.padding_is_tile.Goals as goal

pub returns : goal.returns
returns c = padding_is_tile
