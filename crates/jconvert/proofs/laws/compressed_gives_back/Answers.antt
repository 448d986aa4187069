use Rattle.jconvert.proofs.BackLemmas.{compressed_are_nodes, compressed_gives_back, compressed_mounts}
use Rattle.jconvert.proofs.laws.compressed_gives_back.Goals as goal

pub returns-clause-nodes : goal.returns-clause-nodes
returns-clause-nodes c = compressed_are_nodes

pub returns-clause-back : goal.returns-clause-back
returns-clause-back c = compressed_gives_back

pub returns-clause-mounts : goal.returns-clause-mounts
returns-clause-mounts c = compressed_mounts
