use Rattle.jauto.proofs.AutoLemmas as lemma
use Rattle.jauto.proofs.laws.options_are_found.Goals as goal

pub returns-clause-nothing_made : goal.returns-clause-nothing_made
returns-clause-nothing_made c = lemma.looking_makes_nothing

pub returns-clause-spare : goal.returns-clause-spare
returns-clause-spare c = lemma.leaving_makes_nothing

pub returns-clause-told : goal.returns-clause-told
returns-clause-told c = lemma.found_are_told
