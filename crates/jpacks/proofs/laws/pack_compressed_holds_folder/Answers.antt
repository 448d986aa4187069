use Rattle.jpacks.proofs.HeldLaws.{pack_compressed_holds_folder}
use Rattle.jpacks.proofs.laws.pack_compressed_holds_folder.Goals as goal

pub returns : goal.returns
returns c = pack_compressed_holds_folder
