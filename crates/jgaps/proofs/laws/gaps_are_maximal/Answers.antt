use Rattle.jgaps.proofs.MaximalLemmas as lemma
use Rattle.jgaps.proofs.laws.gaps_are_maximal.Goals as goal

pub returns : goal.returns
returns c = lemma.gaps_are_maximal
