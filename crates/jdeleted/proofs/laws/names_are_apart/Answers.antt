use Rattle.jdeleted.proofs.ApartLemmas.{names_are_apart}
use Rattle.jdeleted.proofs.laws.names_are_apart.Goals as goal

pub returns : goal.returns
returns c = names_are_apart
