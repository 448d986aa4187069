use Rattle.jscan.proofs.ExtentLaws.{extents_make_up}
use Rattle.jscan.proofs.laws.extents_make_up.Goals as goal

pub returns : goal.returns
returns c = extents_make_up
