use Rattle.jrests.proofs.KeepLemmas.{rest_keeps_tiles}
use Rattle.jrests.proofs.laws.rest_keeps_tiles.Goals as goal

pub returns : goal.returns
returns c = rest_keeps_tiles
