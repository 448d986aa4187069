use Rattle.jscan.proofs.ExtentLaws as laws
use Rattle.jscan.proofs.laws.tiles_are_few.Goals as goal

pub returns : goal.returns
returns c = laws.tiles_are_few
