use Rattle.jtree.proofs.TreeLemmas.{listing_makes_tree, text_makes_tree}
use Rattle.jtree.proofs.laws.listing_makes_tree.Goals as goal

pub returns : goal.returns
returns c = record { actions = listing_makes_tree; text = text_makes_tree }
