use Rattle.jmount.proofs.PathNameLemmas.{path_names_exactly}
use Rattle.jmount.proofs.laws.paths_have_names.Goals as goal

pub returns : goal.returns
returns c = path_names_exactly
