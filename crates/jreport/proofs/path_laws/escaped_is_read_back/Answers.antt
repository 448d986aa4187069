use Rattle.jreport.proofs.PathLemmas.{escaped_read_back}
use Rattle.jreport.proofs.path_laws.escaped_is_read_back.Goals as goal

pub returns : goal.returns
returns c = escaped_read_back
