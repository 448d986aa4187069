use Rattle.jmount.specs.Find.{path_names}
use Rattle.jcompact.proofs.PathLemmas.{find_same, walk_same}
use Rattle.jcompact.proofs.laws.paths_are_kept.Goals as goal

pub returns-clause-paths : goal.returns-clause-paths
returns-clause-paths c ns kept apart (reached, says, is) text = find_same ns kept reached apart says is (path_names text)

pub returns-clause-walks : goal.returns-clause-walks
returns-clause-walks c ns kept apart (reached, says, is) names = walk_same ns kept reached apart says is names
