use Rattle.jdiff.proofs.LawLemmas.{same_trees}
use Rattle.jdiff.proofs.laws.same_trees_have_no_lines.Goals as goal

pub returns : goal.returns
returns c = same_trees
