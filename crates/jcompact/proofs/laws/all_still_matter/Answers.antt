use Rattle.jcompact.proofs.StillLemmas.{all_still}
use Rattle.jcompact.proofs.laws.all_still_matter.Goals as goal

pub returns : goal.returns
returns c ns kept apart (reached, says, is) = all_still ns kept reached apart says is
