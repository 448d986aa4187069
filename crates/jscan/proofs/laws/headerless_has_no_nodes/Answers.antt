use Rattle.jscan.proofs.HeaderlessLemmas.{headerless_has_no_nodes, erased_has_no_nodes}
use Rattle.jscan.proofs.MarkedLemmas.{marked_has_no_nodes}
use Rattle.jscan.proofs.laws.headerless_has_no_nodes.Goals as goal

pub returns-clause-headerless : goal.returns-clause-headerless
returns-clause-headerless c = headerless_has_no_nodes

pub returns-clause-erased : goal.returns-clause-erased
returns-clause-erased c = erased_has_no_nodes

pub returns-clause-marked : goal.returns-clause-marked
returns-clause-marked c = marked_has_no_nodes
