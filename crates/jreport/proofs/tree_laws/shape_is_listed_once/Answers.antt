use Rattle.jreport.proofs.ListedOnceLemmas.{shape_is_listed_once}
use Rattle.jreport.proofs.tree_laws.shape_is_listed_once.Goals as goal

pub returns : goal.returns
returns c = shape_is_listed_once
