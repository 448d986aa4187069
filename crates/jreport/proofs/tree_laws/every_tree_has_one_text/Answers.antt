use Rattle.jreport.proofs.ListingLemmas.{one_text}
use Rattle.jreport.proofs.tree_laws.every_tree_has_one_text.Goals as goal

pub returns : goal.returns
returns c = one_text
