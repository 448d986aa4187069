use Rattle.jnode.proofs.FitsLemmas.{seen_fits}
use Rattle.jnode.proofs.laws.seen_fits.Goals as goal

pub returns : goal.returns
returns c = seen_fits
