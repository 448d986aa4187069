use Rattle.jversions.proofs.LawLemmas.{tiles_give_nodes}
use Rattle.jversions.proofs.laws.tiles_give_nodes.Goals as goal

pub returns : goal.returns
returns c = tiles_give_nodes
