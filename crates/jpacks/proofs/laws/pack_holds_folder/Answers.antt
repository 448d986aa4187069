use Rattle.jpacks.proofs.HeldLaws.{pack_holds_folder}
use Rattle.jpacks.proofs.laws.pack_holds_folder.Goals as goal

pub returns : goal.returns
returns c = pack_holds_folder
