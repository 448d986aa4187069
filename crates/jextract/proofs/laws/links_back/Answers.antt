use Rattle.jextract.proofs.LinkLemmas.{links_back}
use Rattle.jextract.proofs.laws.links_back.Goals as goal

pub returns : goal.returns
returns c = links_back
