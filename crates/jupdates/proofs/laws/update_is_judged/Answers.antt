use Rattle.jupdates.proofs.UpdateLaws.{update_is_judged}
use Rattle.jupdates.proofs.laws.update_is_judged.Goals as goal

pub returns : goal.returns
returns c = update_is_judged
