use Rattle.jlook.proofs.WantedLemmas.{only_the_wanted_refuse}
use Rattle.jlook.proofs.laws.only_the_wanted_refuse.Goals as goal

pub returns : goal.returns
returns c = only_the_wanted_refuse
