use Rattle.jfolders.proofs.ReadLaws.{listing_judged_first}
use Rattle.jfolders.proofs.laws.listing_judged_first.Goals as goal

pub returns : goal.returns
returns c = listing_judged_first
