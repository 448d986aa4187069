use Rattle.jremakes.proofs.ShownLemmas.{compacted_shows_tree}
use Rattle.jremakes.proofs.laws.compacted_shows_tree.Goals as goal

pub returns : goal.returns
returns c = compacted_shows_tree
