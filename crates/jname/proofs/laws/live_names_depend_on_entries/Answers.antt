use Rattle.jname.proofs.LawLemmas.{live_names-same}
use Rattle.jname.proofs.laws.live_names_depend_on_entries.Goals as goal

pub returns : goal.returns
returns c = live_names-same
