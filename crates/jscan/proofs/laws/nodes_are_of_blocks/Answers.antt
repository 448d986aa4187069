use Rattle.jscan.proofs.BlockLemmas.{nodes_are_of_blocks}
use Rattle.jscan.proofs.laws.nodes_are_of_blocks.Goals as goal

pub returns : goal.returns
returns c = nodes_are_of_blocks
