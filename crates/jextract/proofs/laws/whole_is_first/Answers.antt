use Rattle.jextract.proofs.InsideLemmas.{whole_is_first}
use Rattle.jextract.proofs.laws.whole_is_first.Goals as goal

pub returns : goal.returns
returns c = whole_is_first
