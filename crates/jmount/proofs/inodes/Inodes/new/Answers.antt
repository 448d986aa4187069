use Rattle.jmount.proofs.InodesLemmas.{nodes_of_numbers-none}
use Rattle.jmount.proofs.inodes.Inodes.new.Goals as goal

pub returns : goal.returns
returns c = nodes_of_numbers-none c.new.result c.new.ensures.empty
