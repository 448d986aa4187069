use Rattle.jregions.proofs.SpanLemmas.{nodes_in_spans}
use Rattle.jregions.proofs.laws.nodes_are_in_spans.Goals as goal

pub returns : goal.returns
returns c = nodes_in_spans
