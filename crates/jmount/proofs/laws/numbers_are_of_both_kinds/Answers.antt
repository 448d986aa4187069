use Rattle.jmount.proofs.NumbersLemmas.{top_of_both_kinds, next_of_both_kinds}
use Rattle.jmount.proofs.laws.numbers_are_of_both_kinds.Goals as goal

pub returns : goal.returns
returns c = record { top = top_of_both_kinds; next = next_of_both_kinds }
