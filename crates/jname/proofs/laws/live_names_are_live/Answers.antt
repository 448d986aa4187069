use Rattle.jname.proofs.NamingLemmas.{get-live_names}
use Rattle.jname.proofs.laws.live_names_are_live.Goals as goal

pub returns : goal.returns
returns c = get-live_names
