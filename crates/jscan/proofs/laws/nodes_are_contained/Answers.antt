use Rattle.jscan.proofs.NodeLaws as laws
use Rattle.jscan.proofs.laws.nodes_are_contained.Goals as goal

pub returns : goal.returns
returns c = laws.nodes_are_contained
