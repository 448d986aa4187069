use Rattle.jscan.proofs.AddressLaws.{sightings_ascend, nodes_ascend, findings_ascend}
use Rattle.jscan.proofs.laws.addresses_ascend.Goals as goal

pub returns-clause-sightings : goal.returns-clause-sightings
returns-clause-sightings c = sightings_ascend

pub returns-clause-nodes : goal.returns-clause-nodes
returns-clause-nodes c = nodes_ascend

pub returns-clause-findings : goal.returns-clause-findings
returns-clause-findings c = findings_ascend
