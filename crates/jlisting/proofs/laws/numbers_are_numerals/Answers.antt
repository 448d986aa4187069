use Rattle.jlisting.proofs.NumberLemmas.{numbers_are_numerals}
use Rattle.jlisting.proofs.laws.numbers_are_numerals.Goals as goal

pub returns : goal.returns
returns c = numbers_are_numerals
