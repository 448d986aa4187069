use Rattle.jname.proofs.LawLemmas.{live-same}
use Rattle.jname.proofs.laws.live_depends_on_entries.Goals as goal

pub returns : goal.returns
returns c = live-same
