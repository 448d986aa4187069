use Rattle.jcollect.proofs.ImageLemmas.{output_has_tiles}
use Rattle.jcollect.proofs.laws.output_has_tiles.Goals as goal

pub returns : goal.returns
returns c = output_has_tiles
