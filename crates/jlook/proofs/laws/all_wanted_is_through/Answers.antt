use Rattle.jlook.proofs.ShowLemmas.{all_wanted_is_through}
use Rattle.jlook.proofs.laws.all_wanted_is_through.Goals as goal

pub returns : goal.returns
returns c = all_wanted_is_through
