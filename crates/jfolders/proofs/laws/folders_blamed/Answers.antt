use Rattle.jfolders.proofs.BlameLaws.{folders_blamed}
use Rattle.jfolders.proofs.laws.folders_blamed.Goals as goal

pub returns : goal.returns
returns c = folders_blamed
