use Rattle.jtree.proofs.ExampleLemmas.{small_is_made}
use Rattle.jtree.proofs.examples.small_tree.Goals as goal

pub returns : goal.returns
returns c = small_is_made
