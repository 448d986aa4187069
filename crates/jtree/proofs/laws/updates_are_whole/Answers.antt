use Rattle.jtree.proofs.ListingUpdateLemmas.{listing_is_update}
use Rattle.jtree.proofs.WholeFilesLemmas.{steps_keep_files_whole, updates_are_whole}
use Rattle.jtree.proofs.laws.updates_are_whole.Goals as goal

pub returns : goal.returns
returns c = record { steps = steps_keep_files_whole; stopped = updates_are_whole; listing = listing_is_update }
