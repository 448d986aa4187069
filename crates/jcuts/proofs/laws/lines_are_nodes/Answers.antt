use Rattle.jcuts.proofs.JoinLemmas.{standings_have_places}
use Rattle.jcuts.proofs.ToldLemmas.{lines_are_nodes}
use Rattle.jcuts.proofs.laws.lines_are_nodes.Goals as goal

pub returns-clause-places : goal.returns-clause-places
returns-clause-places c = standings_have_places

pub returns-clause-lines : goal.returns-clause-lines
returns-clause-lines c = lines_are_nodes
