use Rattle.jlook.proofs.ChosenLemmas.{tree_is_the_same, object_is_the_same}
use Rattle.jlook.proofs.laws.chosen_is_the_same.Goals as goal

pub returns-clause-tree : goal.returns-clause-tree
returns-clause-tree c = tree_is_the_same

pub returns-clause-object : goal.returns-clause-object
returns-clause-object c = object_is_the_same
