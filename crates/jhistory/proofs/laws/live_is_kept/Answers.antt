use Rattle.jhistory.proofs.WordsLemmas.{live_is_kept}
use Rattle.jhistory.proofs.laws.live_is_kept.Goals as goal

pub returns : goal.returns
returns c = live_is_kept
