use Rattle.jmount.proofs.CollectedLemmas.{collected_none_clash}
use Rattle.jmount.proofs.mounting.refuse_clashes.Goals as goal

pub returns-clause-ok : goal.returns-clause-ok
returns-clause-ok c = collected_none_clash c.in_ok-collect.field-0.names c.in_ok-collect.field-0.inodes c.args.nodes.items c.in_ok-collect.ensures.ok
