use Rattle.jmount.proofs.NumbersLemmas.{top_at-tops_of}
use Rattle.jmount.proofs.laws.tops_have_each.Goals as goal

pub returns : goal.returns
returns c = top_at-tops_of
