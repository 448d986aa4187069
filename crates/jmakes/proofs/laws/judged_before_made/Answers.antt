use Rattle.jmakes.proofs.CommandLaws.{judged_before_made}
use Rattle.jmakes.proofs.laws.judged_before_made.Goals as goal

pub returns : goal.returns
returns c = judged_before_made
