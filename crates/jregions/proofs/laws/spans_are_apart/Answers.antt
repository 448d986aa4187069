use Rattle.jregions.proofs.SpanLemmas.{spans_apart}
use Rattle.jregions.proofs.laws.spans_are_apart.Goals as goal

pub returns : goal.returns
returns c = spans_apart
