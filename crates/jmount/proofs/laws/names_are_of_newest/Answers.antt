use Rattle.jmount.proofs.NamesLemmas.{name_is_of_newest, no_name_is_of_none}
use Rattle.jmount.proofs.laws.names_are_of_newest.Goals as goal

pub returns : goal.returns
returns c = record { some = name_is_of_newest; none = no_name_is_of_none }
