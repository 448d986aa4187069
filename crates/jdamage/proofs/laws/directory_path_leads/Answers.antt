use Rattle.jdamage.proofs.PathLemmas.{path_leads}
use Rattle.jdamage.proofs.laws.directory_path_leads.Goals as goal

pub returns : goal.returns
returns c s dir path is = path_leads s dir path is
