use Rattle.jscan.proofs.ExtentLaws.{extents_are_few}
use Rattle.jscan.proofs.laws.extents_are_few.Goals as goal

pub returns : goal.returns
returns c = extents_are_few
