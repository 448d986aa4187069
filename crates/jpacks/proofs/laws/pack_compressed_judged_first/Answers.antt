use Rattle.jpacks.proofs.PackLaws.{pack_compressed_judged_first}
use Rattle.jpacks.proofs.laws.pack_compressed_judged_first.Goals as goal

pub returns : goal.returns
returns c = pack_compressed_judged_first
