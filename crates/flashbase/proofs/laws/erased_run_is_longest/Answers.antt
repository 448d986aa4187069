use Rattle.flashbase.proofs.BytesLemmas.{erased_run_is_longest}
use Rattle.flashbase.proofs.laws.erased_run_is_longest.Goals as goal

pub returns : goal.returns
returns c = erased_run_is_longest
