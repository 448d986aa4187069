use Rattle.jnode.proofs.WritingLemmas.{canonical_is_tile}
use Rattle.jnode.proofs.laws.written_is_tile.Goals as goal

pub returns : goal.returns
returns c = canonical_is_tile
