use Rattle.jscan.proofs.TileLemmas.{tile_then_rest}
use Rattle.jscan.proofs.laws.tile_then_rest.Goals as goal

pub returns : goal.returns
returns c = tile_then_rest
