use Rattle.jscan.proofs.ExtentLaws.{nodes_are_seen, names_are_short}
use Rattle.jscan.proofs.laws.nodes_are_seen.Goals as goal

pub returns-clause-seen : goal.returns-clause-seen
returns-clause-seen c = nodes_are_seen

pub returns-clause-names : goal.returns-clause-names
returns-clause-names c = names_are_short
