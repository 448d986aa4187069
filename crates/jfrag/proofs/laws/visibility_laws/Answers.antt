use Rattle.jfrag.proofs.OverlaysLemmas.{visible_is_highest, only_one_is_highest, content_is_visible}
use Rattle.jfrag.proofs.laws.visibility_laws.Goals as goal

pub returns : goal.returns
returns c = record { highest = visible_is_highest; only = only_one_is_highest; content = content_is_visible }
