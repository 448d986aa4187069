use Rattle.jmakes.proofs.CommandLaws.{blames_made}
use Rattle.jmakes.proofs.laws.blames_made.Goals as goal

pub returns : goal.returns
returns c = blames_made
