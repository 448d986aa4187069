use Rattle.jname.proofs.LawLemmas.{highest-same}
use Rattle.jname.proofs.laws.highest_depends_on_entries.Goals as goal

pub returns : goal.returns
returns c = highest-same
