use Rattle.jupdates.proofs.UpdateLaws.{update_leaves_files}
use Rattle.jupdates.proofs.laws.update_leaves_files.Goals as goal

pub returns : goal.returns
returns c = update_leaves_files
