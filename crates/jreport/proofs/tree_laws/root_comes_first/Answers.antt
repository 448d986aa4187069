use Rattle.jreport.proofs.ListingLemmas.{root_first}
use Rattle.jreport.proofs.tree_laws.root_comes_first.Goals as goal

pub returns : goal.returns
returns c = root_first
