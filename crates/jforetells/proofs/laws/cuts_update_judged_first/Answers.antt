use Rattle.jforetells.proofs.ForetellLaws.{cuts_update_judged_first}
use Rattle.jforetells.proofs.laws.cuts_update_judged_first.Goals as goal

pub returns : goal.returns
returns c = cuts_update_judged_first
