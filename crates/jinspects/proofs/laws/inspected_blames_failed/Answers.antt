use Rattle.jinspects.proofs.InspectBlameLemmas.{inspected_blames_failed}
use Rattle.jinspects.proofs.laws.inspected_blames_failed.Goals as goal

pub returns : goal.returns
returns c = inspected_blames_failed
