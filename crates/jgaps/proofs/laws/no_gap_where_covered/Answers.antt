use Rattle.jgaps.proofs.MaximalLemmas as lemma
use Rattle.jgaps.proofs.laws.no_gap_where_covered.Goals as goal

pub returns : goal.returns
returns c = lemma.no_gap_where_covered
