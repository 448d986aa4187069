use Rattle.jmount.proofs.StateLemmas.{object-same, objects-same}
use Rattle.jmount.proofs.laws.objects_depend_on_nodes.Goals as goal

pub returns : goal.returns
returns c = record { one = object-same; all = objects-same }
