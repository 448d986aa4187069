use Rattle.jmakes.proofs.CommandLaws.{atomic_leaves_files}
use Rattle.jmakes.proofs.laws.atomic_leaves_files.Goals as goal

pub returns : goal.returns
returns c = atomic_leaves_files
