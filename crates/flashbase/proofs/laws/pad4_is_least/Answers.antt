use Rattle.flashbase.proofs.BytesLemmas.{pad4_is_least}
use Rattle.flashbase.proofs.laws.pad4_is_least.Goals as goal

pub returns : goal.returns
returns c = pad4_is_least
