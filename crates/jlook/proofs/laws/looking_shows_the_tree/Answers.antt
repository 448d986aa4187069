use Rattle.jlook.proofs.ShowLemmas.{looking_mounts, looking_shows_the_tree}
use Rattle.jlook.proofs.laws.looking_shows_the_tree.Goals as goal

pub returns-clause-mounts : goal.returns-clause-mounts
returns-clause-mounts c = looking_mounts

pub returns-clause-same : goal.returns-clause-same
returns-clause-same c = looking_shows_the_tree
