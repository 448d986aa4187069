use Rattle.jinspects.proofs.InspectJudgeLemmas.{inspected_judged_first}
use Rattle.jinspects.proofs.laws.inspected_judged_first.Goals as goal

pub returns : goal.returns
returns c = inspected_judged_first
