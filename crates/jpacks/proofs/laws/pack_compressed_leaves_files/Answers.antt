use Rattle.jpacks.proofs.PackLaws.{pack_compressed_leaves_files}
use Rattle.jpacks.proofs.laws.pack_compressed_leaves_files.Goals as goal

pub returns : goal.returns
returns c = pack_compressed_leaves_files
