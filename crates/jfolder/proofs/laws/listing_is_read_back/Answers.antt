use Rattle.jfolder.proofs.ListingLemmas.{listing_is_read_back}
use Rattle.jfolder.proofs.laws.listing_is_read_back.Goals as goal

pub returns : goal.returns
returns c = listing_is_read_back
