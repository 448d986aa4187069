use Rattle.jscan.proofs.ExtentLaws.{runs_are_longest}
use Rattle.jscan.proofs.laws.runs_are_longest.Goals as goal

pub returns : goal.returns
returns c = runs_are_longest
