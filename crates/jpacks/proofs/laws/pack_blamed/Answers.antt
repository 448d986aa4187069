use Rattle.jpacks.proofs.PackLaws.{pack_blamed}
use Rattle.jpacks.proofs.laws.pack_blamed.Goals as goal

pub returns : goal.returns
returns c = pack_blamed
