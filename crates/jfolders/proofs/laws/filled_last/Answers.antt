use Rattle.jfolders.proofs.FillLaws.{filled_last}
use Rattle.jfolders.proofs.laws.filled_last.Goals as goal

pub returns : goal.returns
returns c = filled_last
