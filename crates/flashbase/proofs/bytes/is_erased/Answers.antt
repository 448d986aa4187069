use Rattle.flashbase.proofs.BytesLemmas.{erased_of_mask}
use Rattle.flashbase.proofs.bytes.is_erased.Goals as goal

pub returns : goal.returns
returns c = erased_of_mask c.args.lanes.now c.told-lanes
