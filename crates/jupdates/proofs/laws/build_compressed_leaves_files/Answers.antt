use Rattle.jupdates.proofs.UpdateLaws.{build_compressed_leaves_files}
use Rattle.jupdates.proofs.laws.build_compressed_leaves_files.Goals as goal

pub returns : goal.returns
returns c = build_compressed_leaves_files
