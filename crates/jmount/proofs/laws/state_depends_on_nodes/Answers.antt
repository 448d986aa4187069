use Rattle.jmount.proofs.StateLemmas.{state-same}
use Rattle.jmount.proofs.laws.state_depends_on_nodes.Goals as goal

pub returns : goal.returns
returns c = state-same
