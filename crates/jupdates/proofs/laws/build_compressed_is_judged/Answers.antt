use Rattle.jupdates.proofs.UpdateLaws.{build_compressed_is_judged}
use Rattle.jupdates.proofs.laws.build_compressed_is_judged.Goals as goal

pub returns : goal.returns
returns c = build_compressed_is_judged
