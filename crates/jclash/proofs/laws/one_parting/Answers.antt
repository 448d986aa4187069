use Rattle.jclash.proofs.PartLemmas.{one_parting, staying_of_nodes, none_is_lost}
use Rattle.jclash.proofs.laws.one_parting.Goals as goal

pub returns-clause-one : goal.returns-clause-one
returns-clause-one c = one_parting

pub returns-clause-of_nodes : goal.returns-clause-of_nodes
returns-clause-of_nodes c = staying_of_nodes

pub returns-clause-whole : goal.returns-clause-whole
returns-clause-whole c = none_is_lost
