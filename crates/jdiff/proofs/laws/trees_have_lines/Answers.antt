use Rattle.jdiff.proofs.UniqueLemmas.{trees_have_lines}
use Rattle.jdiff.proofs.laws.trees_have_lines.Goals as goal

pub returns : goal.returns
returns c = trees_have_lines
