use Rattle.jtree.proofs.EmptyLemmas.{empty_is_bare}
use Rattle.jtree.proofs.TreeLemmas.{image_holds_tree}
use Rattle.jtree.proofs.laws.image_holds_tree.Goals as goal

pub returns : goal.returns
returns c = record { image = image_holds_tree; empty = empty_is_bare }
