use Rattle.jinspects.proofs.InspectLookLemmas.{inspects_only}
use Rattle.jinspects.proofs.laws.inspects_only.Goals as goal

pub returns : goal.returns
returns c = inspects_only
